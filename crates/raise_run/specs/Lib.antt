pub mod Words
pub mod RaiseText
pub mod RaiseStatuses
pub mod RaiseOutcome
