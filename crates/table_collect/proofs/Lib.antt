pub mod Keeping
pub mod Telling
