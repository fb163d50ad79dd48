pub mod Seeing
pub mod Answering
