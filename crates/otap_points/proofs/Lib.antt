pub mod ListBytes
pub mod PointColumns
pub mod PointFits
pub mod PointPlaces
pub mod PointRows
pub mod PointsBack
