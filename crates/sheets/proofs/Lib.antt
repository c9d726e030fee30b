pub mod Finding
pub mod Answering
pub mod Rows
pub mod Theorems
pub mod Edge
pub mod Stable
pub mod Testing
