pub mod Asked
pub mod Command
pub mod Conditions
pub mod Lawful
pub mod Plain
