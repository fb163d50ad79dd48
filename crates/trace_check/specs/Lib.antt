pub mod Departures
pub mod NextLines
pub mod Words
