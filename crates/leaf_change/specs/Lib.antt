pub mod Insertion
pub mod Removal
pub mod Takings
pub mod Replacement
