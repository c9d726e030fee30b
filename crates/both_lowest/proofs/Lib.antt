pub mod Lows
pub mod Pairs
pub mod Descending
pub mod Theorems
