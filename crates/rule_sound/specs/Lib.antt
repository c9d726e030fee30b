pub mod Sound
pub mod Walk
