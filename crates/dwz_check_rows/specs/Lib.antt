pub mod UnitRows
pub mod Keys
pub mod Rows
