pub mod SlotLemmas
pub mod ValueLemmas
pub mod RowLemmas
pub mod UnitLemmas
pub mod FileLemmas
