pub mod BoundTops
pub mod Sources
pub mod Values
pub mod Weights
pub mod Bound
pub mod Marked
pub mod Known
