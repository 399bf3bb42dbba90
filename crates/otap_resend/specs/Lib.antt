pub mod Inside
pub mod Resenders
pub mod Runs
pub mod States
pub mod Turns
