pub mod Words
pub mod Table
pub mod Picture
pub mod Sums
pub mod Sides
