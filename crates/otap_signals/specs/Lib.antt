pub mod Meanings
pub mod Regroups
pub mod Signals
pub mod Instances
pub mod BySignal
