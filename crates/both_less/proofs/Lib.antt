pub mod Walking
pub mod Recalling
