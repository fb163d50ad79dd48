pub mod Regions
pub mod Registers
pub mod OperationEncodings
pub mod Operations
pub mod Depth
pub mod Expressions
pub mod Values
