pub mod Common
pub mod Seen
pub mod Readings
