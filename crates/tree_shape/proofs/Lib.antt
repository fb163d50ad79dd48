pub mod Rows
pub mod Slots
pub mod Orders
pub mod Parts
pub mod Payloads
