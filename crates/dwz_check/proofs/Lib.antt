pub mod Few
pub mod Pairs
pub mod GraphSays
pub mod Decides
