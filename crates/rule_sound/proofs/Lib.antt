pub mod Sitting
pub mod Walking
pub mod Pictures
