pub mod Parts
pub mod CheckText
pub mod CheckStatuses
pub mod CheckOutcome
