pub mod GroupLemmas
pub mod FewGroups
pub mod LebLemmas
pub mod PaddedLemmas
pub mod SignedLemmas
pub mod FixedLemmas
pub mod LowBytes
