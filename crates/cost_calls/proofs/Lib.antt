pub mod Sounding
pub mod Answering
pub mod Looking
pub mod Opened
pub mod Edge
