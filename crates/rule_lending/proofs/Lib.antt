mod Inside
pub mod Lending
pub mod Building
pub mod Settling
