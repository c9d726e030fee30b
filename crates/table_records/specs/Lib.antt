pub mod Laid
pub mod Changes
pub mod Nodes
