pub mod Entering
pub mod Edge
pub mod Operands
pub mod Finding
pub mod Theorems
