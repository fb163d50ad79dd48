pub mod Modules
pub mod StackWalks
pub mod Traces
