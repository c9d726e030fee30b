pub mod Operating
pub mod Forgetting
