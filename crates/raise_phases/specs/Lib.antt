pub mod CallSites
pub mod Actions
pub mod Verdicts
pub mod Raising
