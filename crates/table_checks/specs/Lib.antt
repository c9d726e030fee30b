pub mod Header
pub mod Chained
pub mod Walk
