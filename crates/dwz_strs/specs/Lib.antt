pub mod Pruned
pub mod Steps
