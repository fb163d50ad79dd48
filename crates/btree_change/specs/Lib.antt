pub mod Insertion
pub mod Removal
pub mod Kept
pub mod Stands
pub mod Far
pub mod Roots
pub mod Replacement
