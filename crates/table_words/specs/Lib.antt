pub mod Words
pub mod Holding
pub mod Table
pub mod Picture
