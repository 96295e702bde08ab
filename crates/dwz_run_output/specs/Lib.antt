pub mod Common
pub mod Giving
pub mod Making
