pub mod SpanData
pub mod State
pub mod History
pub mod Query
pub mod Receipt
pub mod Numbers
pub mod PlainRegistryData
pub mod Chain
