pub mod Handles
pub mod Kinds
pub mod Limits
