pub mod Queries
pub mod Begun
pub mod Calls
pub mod Rounds
