pub mod TwoWords
pub mod Endings
pub mod Lines
pub mod Opened
pub mod Steady
