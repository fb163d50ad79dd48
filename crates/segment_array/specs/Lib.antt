pub mod Ascending
pub mod Segments
pub mod Placing
