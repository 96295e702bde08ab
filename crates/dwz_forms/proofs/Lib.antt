pub mod FormLemmas
pub mod ReadingLemmas
pub mod NumberLemmas
pub mod RawLemmas
pub mod FixedEnds
pub mod FixedReads
