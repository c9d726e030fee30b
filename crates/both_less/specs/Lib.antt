pub mod Less
pub mod Memory
