pub mod Listing
pub mod Hits
pub mod Covers
pub mod Histories
