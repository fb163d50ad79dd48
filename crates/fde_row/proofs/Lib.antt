pub mod Alone
pub mod Standing
pub mod Behind
