pub mod Rules
pub mod NextFrame
pub mod Backtrace
pub mod Finders
pub mod Sources
pub mod Walks
