pub mod LeastLaws
pub mod Unit
pub mod Run
pub mod Marked
pub mod Bare
pub mod Spaces
pub mod Shown
