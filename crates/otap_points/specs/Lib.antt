pub mod Found
pub mod Lists
pub mod Numbers
pub mod Points
pub mod Weighing
pub mod Writable
