pub mod Filtering
pub mod Filters
pub mod Inside
pub mod Runs
