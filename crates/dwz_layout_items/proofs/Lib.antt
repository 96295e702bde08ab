pub mod ChainLemmas
pub mod GroupLemmas
pub mod KeptLemmas
pub mod LineLemmas
pub mod PartLemmas
pub mod RowChains
pub mod StepLemmas
