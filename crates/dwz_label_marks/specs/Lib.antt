pub mod Marks
pub mod Told
pub mod Found
pub mod Shown
