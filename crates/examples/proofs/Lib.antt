pub mod Nexts
pub mod Examples
pub mod Further
