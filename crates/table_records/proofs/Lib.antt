pub mod Writing
pub mod Laying
pub mod Undoing
pub mod Searching
pub mod Making
pub mod Restoring
