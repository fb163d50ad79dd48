pub mod Tables
pub mod Numbering
pub mod Transitions
pub mod Courses
pub mod Making
pub mod Initials
pub mod Followed
