pub mod Tidy
