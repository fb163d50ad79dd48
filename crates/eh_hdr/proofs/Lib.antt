pub mod Headers
pub mod Places
pub mod Tables
pub mod Covers
pub mod Searches
pub mod Entries
