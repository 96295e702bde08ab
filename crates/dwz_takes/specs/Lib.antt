pub mod Takes
pub mod Images
pub mod Blocked
pub mod Steps
pub mod Tables
