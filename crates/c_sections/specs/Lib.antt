pub mod Loads
pub mod Refusals
