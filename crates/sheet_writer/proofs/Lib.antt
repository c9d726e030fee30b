pub mod Joining
pub mod Parts
pub mod Walks
