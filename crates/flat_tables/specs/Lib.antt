pub mod Limits
pub mod Bytes
pub mod Tables
pub mod Inside
pub mod Words
pub mod Slots
pub mod Building
pub mod Layout
