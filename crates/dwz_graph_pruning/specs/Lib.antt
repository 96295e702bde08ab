pub mod Stays
pub mod Files
