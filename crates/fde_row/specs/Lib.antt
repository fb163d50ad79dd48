pub mod Reading
pub mod Pointers
pub mod RowsOfFde
