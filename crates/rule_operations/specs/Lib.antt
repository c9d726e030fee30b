pub mod Joining
pub mod Literal
