-- What the proofs of all handles share.
pub mod Crossing
pub mod Form
pub mod IntoParts
pub mod OfParts
pub mod Steps
