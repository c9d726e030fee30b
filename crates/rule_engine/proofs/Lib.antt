pub mod Shortening
pub mod Joining
pub mod Recalling
pub mod Applying
pub mod Noting
