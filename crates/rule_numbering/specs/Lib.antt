pub mod Walkable
pub mod Numbering
pub mod Running
