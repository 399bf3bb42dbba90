pub mod Items
pub mod Limits
pub mod Load
pub mod Pairs
pub mod Inside
