pub mod SameLemmas
pub mod SameOverLemmas
