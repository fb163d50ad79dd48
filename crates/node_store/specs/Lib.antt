pub mod Holding
pub mod Sights
pub mod Writing
pub mod Outlines
pub mod Entries
