pub mod Agreement
pub mod Places
pub mod Items
pub mod SoFar
pub mod Lookups
