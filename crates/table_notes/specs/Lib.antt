pub mod Plain
pub mod Far
