pub mod Imports
pub mod Stored
pub mod Said
pub mod ImportLaws
