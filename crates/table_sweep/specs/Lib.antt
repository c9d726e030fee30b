pub mod Marks
pub mod Sweeping
pub mod Collecting
pub mod Tidy
