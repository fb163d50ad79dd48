pub mod FirstNumbers
pub mod Told
pub mod Reading
pub mod JournalLines
pub mod ReadLines
pub mod FormFlaw
pub mod JournalRead
