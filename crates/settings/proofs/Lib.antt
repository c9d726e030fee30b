pub mod Answers
pub mod Endings
pub mod Following
pub mod Visits
pub mod Holding
pub mod Turning
pub mod Stepping
pub mod Places
