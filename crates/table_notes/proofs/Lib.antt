pub mod Plain
pub mod Alike
pub mod Far
pub mod Windows
