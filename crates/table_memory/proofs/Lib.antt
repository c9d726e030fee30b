pub mod Entries
pub mod Remembering
pub mod Building
