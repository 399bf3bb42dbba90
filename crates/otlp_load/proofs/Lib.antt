pub mod GroupPlaces
pub mod ItemsLight
pub mod ItemsWithin
pub mod LoadCounted
pub mod LoadLight
