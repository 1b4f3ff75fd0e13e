pub mod Sames
pub mod Plans
