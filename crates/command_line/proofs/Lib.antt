mod Digits
mod Taken
mod Found
mod Words
