mod Attempting
mod FixedMembers
mod Caches
