pub mod Answering
pub mod Opening
