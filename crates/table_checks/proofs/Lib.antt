pub mod Gathering
pub mod Compared
pub mod Framing
pub mod Chaining
pub mod Sitting
pub mod Walking
pub mod Shaping
pub mod Pictures
