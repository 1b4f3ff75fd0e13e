pub mod Bounds
pub mod Lookup
pub mod Entries
pub mod Device
pub mod Filling
pub mod Changes
pub mod HomeOffered
pub mod PointsKept
