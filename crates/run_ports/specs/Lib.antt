pub mod Ports
pub mod Takers
pub mod Devices
pub mod Endings
