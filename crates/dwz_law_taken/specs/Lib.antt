pub mod Shown
pub mod ShownLaws
