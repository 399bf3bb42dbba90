pub mod Laws
pub mod ReadingLaws
pub mod Records
pub mod Requests
pub mod Tables
pub mod Writable
