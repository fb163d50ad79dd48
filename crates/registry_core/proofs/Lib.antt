pub mod Asking
pub mod Begun
pub mod Meetings
pub mod Counting
pub mod Following
pub mod Comparing
pub mod Rounding
pub mod Updating
