pub mod Joining
pub mod Bounding
pub mod Walking
pub mod Recalling
pub mod Operating
