pub mod PartFacts
pub mod ListFacts
pub mod Members
pub mod OnceLemmas
