pub mod Ascending
pub mod Parts
pub mod Going
