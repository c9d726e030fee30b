pub mod Integers
pub mod Spots
pub mod Extremes
pub mod Relative
pub mod Narrow
