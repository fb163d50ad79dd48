pub mod Onward
pub mod Agreement
pub mod BothPrograms
pub mod Expressions
pub mod Told
pub mod LentRows
pub mod PlacedRows
pub mod InitialRows
