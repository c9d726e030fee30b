pub mod Among
pub mod Standing
pub mod Formulas
pub mod Identities
pub mod Arithmetic
pub mod Grouping
pub mod Forgetting
pub mod Returned
