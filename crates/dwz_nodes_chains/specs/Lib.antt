pub mod LeastWays
pub mod Links
pub mod Course
