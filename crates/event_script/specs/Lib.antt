pub mod Draft
pub mod Reasons
pub mod Refusal
pub mod RefusalText
pub mod Reading
pub mod Fault
pub mod Taken
