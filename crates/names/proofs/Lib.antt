pub mod Looking
pub mod Exactness
