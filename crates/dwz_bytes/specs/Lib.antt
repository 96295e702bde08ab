pub mod Input
pub mod Spelling
pub mod Reading
pub mod Groups
pub mod Laws
