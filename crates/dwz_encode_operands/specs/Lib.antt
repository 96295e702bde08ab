pub mod First
pub mod Narrow
pub mod Walked
pub mod Operands
pub mod NumberLaws
