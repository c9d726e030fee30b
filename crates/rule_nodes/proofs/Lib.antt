pub mod Reading
pub mod Making
pub mod Filling
pub mod Staying
pub mod Stepping
