pub mod Chains
pub mod Diagram
pub mod Good
