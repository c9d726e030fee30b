pub mod Noting
pub mod Restricting
pub mod Walking
