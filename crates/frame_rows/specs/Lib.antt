pub mod Columns
pub mod Rows
pub mod Walk
pub mod Expressions
pub mod Rules
pub mod RowAt
