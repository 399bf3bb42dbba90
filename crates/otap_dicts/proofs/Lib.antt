pub mod Found
pub mod Keyed
pub mod Larger
pub mod Observing
pub mod Once
pub mod Repeated
pub mod Places
