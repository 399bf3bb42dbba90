pub mod Varints
pub mod Values
pub mod Readings
pub mod FieldsOf
pub mod Sevens
pub mod Shortest
pub mod Written
