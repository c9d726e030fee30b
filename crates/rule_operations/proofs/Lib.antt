pub mod Operands
pub mod Bits
pub mod Firsts
pub mod Doors
pub mod Putting
