pub mod Chains
pub mod Cleanups
pub mod Fields
pub mod Searches
pub mod Sites
pub mod Tables
pub mod Unchanged
