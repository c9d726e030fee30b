pub mod Choices
pub mod Walking
pub mod Recalling
