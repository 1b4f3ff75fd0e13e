pub mod Search
pub mod Flatbed
pub mod Faults
pub mod Ranges
pub mod Values
pub mod Lending
pub mod FlatbedPoints
