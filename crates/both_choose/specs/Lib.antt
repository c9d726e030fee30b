pub mod Choice
pub mod Memory
