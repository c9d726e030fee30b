pub mod Sitting
pub mod Walking
pub mod Reading
pub mod Ranging
pub mod Pictures
pub mod Changing
