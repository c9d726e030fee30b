pub mod Reading
pub mod Making
pub mod Filling
pub mod Stepping
