pub mod Siblings
pub mod Shares
