pub mod Results
pub mod CursorData
pub mod Leb
pub mod PointerEncodings
pub mod Pointer
pub mod Grammar
pub mod Fields
pub mod Steps
