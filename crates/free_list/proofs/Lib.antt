pub mod LockWrites
pub mod Settled
pub mod Rounds
pub mod Giving
