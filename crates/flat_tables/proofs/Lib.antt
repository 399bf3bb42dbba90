mod Natural
mod Lying
pub mod Standing
mod Reaching
pub mod InWords
mod Adding
mod TableLaid
