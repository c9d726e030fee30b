pub mod Packing
pub mod Reading
pub mod Showing
pub mod Regular
pub mod Summing
pub mod Pairing
pub mod Keeping
