pub mod Limits
pub mod Varint
pub mod Wire
pub mod Reading
pub mod Fields
