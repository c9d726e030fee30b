pub mod Sections
pub mod Sheet
pub mod Bytes
pub mod Hand
pub mod Frame
pub mod RuleFrame
