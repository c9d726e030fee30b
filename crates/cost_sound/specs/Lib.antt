pub mod Walk
pub mod Paired
