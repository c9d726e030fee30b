pub mod Opening
pub mod Writing
pub mod Door
