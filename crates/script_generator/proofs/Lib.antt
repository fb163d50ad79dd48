mod Runnable
mod Readable
mod Ranges
mod Totals
