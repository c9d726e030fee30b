pub mod Standing
pub mod Formulas
pub mod Forgetting
