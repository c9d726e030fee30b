pub mod Stepping
pub mod Marking
pub mod Seeking
