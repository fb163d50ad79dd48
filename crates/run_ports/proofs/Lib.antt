pub mod Bytes
pub mod Pieces
pub mod Lines
pub mod Endings
