pub mod Prices
pub mod Operands
