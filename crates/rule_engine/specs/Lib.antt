pub mod Shortcuts
pub mod Joint
pub mod Memory
