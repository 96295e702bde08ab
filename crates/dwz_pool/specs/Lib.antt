pub mod Numbered
pub mod Stored
