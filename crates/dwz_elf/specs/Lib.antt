pub mod Manners
pub mod Reads
pub mod Names
pub mod Rebuilds
pub mod Places
