pub mod CopyLoads
pub mod Search
pub mod Lookup
pub mod Holders
pub mod Writing
pub mod Update
pub mod Other
