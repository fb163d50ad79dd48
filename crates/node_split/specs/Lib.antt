pub mod Splits
pub mod Halves
