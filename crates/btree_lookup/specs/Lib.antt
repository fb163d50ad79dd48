pub mod Loads
pub mod Ways
pub mod Tries
pub mod Visits
