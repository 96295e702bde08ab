pub mod Lists
pub mod Named
pub mod Ranges
pub mod Drafts
pub mod Stretches
pub mod Rows
pub mod Outlines
