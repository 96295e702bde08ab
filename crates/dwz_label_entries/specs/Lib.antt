pub mod Words
pub mod Plain
pub mod Targets
pub mod Sources
