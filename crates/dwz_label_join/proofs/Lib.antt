pub mod JoinLemmas
pub mod GroupLemmas
pub mod MarkLemmas
