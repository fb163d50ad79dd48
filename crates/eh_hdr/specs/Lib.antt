pub mod Headers
pub mod Places
pub mod Tables
