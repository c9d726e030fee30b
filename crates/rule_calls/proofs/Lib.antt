pub mod Sounding
pub mod Answering
pub mod Opened
pub mod Looking
pub mod Theorems
pub mod Edge
