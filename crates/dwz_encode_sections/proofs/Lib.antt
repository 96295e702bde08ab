pub mod OverLemmas
pub mod ListLemmas
pub mod SlotLemmas
pub mod RangeSetLemmas
