pub mod Meaning
pub mod Plan
pub mod SamePoint
