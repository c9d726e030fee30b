pub mod Branches
pub mod Building
pub mod Settling
