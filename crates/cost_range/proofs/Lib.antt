pub mod Ending
pub mod Meeting
pub mod Walking
pub mod Noting
pub mod Ranging
