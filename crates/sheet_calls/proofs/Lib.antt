pub mod Lists
pub mod Sheeted
pub mod Theorems
