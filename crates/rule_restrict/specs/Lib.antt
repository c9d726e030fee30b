pub mod Notes
pub mod Restrict
