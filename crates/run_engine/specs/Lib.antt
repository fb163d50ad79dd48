pub mod Statuses
pub mod Outcome
pub mod Settings
pub mod Played
pub mod Kept
pub mod Shared
pub mod Nodes
