pub mod KeyLemmas
pub mod ListLemmas
pub mod UnitLemmas
pub mod NumberLemmas
