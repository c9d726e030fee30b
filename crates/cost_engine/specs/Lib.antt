pub mod Joint
pub mod Memory
