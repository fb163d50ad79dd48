pub mod Numbers
pub mod Trees
pub mod Lawful
pub mod LocalChange
pub mod Steps
pub mod Decisions
