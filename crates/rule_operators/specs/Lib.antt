pub mod Operators
pub mod Forgetting
