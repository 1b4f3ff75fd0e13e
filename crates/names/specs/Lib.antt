pub mod Codes
pub mod Same
pub mod Numbers
pub mod Names
pub mod Vocabulary
pub mod Named
pub mod Kinds
