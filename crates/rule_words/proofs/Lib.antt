pub mod Reading
pub mod Bounding
pub mod Regular
