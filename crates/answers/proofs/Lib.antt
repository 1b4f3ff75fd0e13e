pub mod First
pub mod Resubmitted
