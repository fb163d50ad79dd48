pub mod Spans
pub mod Members
pub mod Replacing
pub mod Histories
pub mod Receipts
pub mod Numbers
pub mod Chains
