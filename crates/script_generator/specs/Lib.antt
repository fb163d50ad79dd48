pub mod Generator
pub mod SectionBytes
pub mod Summaries
