pub mod Places
pub mod Entries
pub mod Seeking
pub mod Hits
pub mod Fitting
pub mod Spans
pub mod Looking
pub mod Steps
