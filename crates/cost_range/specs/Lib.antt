pub mod Ends
pub mod Operable
