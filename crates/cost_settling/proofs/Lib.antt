pub mod Settling
pub mod Operands
