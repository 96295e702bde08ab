pub mod Chains
pub mod Grouping
pub mod Lines
pub mod Order
pub mod Outline
pub mod Parts
pub mod Shows
