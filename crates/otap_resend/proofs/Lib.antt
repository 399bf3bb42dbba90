pub mod Accounting
pub mod Kept
pub mod Places
pub mod Removing
pub mod Segments
pub mod Sent
pub mod Turning
