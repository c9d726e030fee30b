pub mod Pricing
pub mod Joining
