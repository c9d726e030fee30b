pub mod Marks
pub mod Next
