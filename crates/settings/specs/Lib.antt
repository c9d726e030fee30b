pub mod Tells
pub mod Refusals
pub mod Step
pub mod Visit
pub mod Odometer
pub mod Places
