pub mod Forms
pub mod Inside
pub mod Ladders
pub mod Limits
