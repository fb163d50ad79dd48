pub mod Flaws
pub mod Search
pub mod Sweep
pub mod Maps
