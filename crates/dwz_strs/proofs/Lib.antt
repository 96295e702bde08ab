pub mod FirstLemmas
pub mod PruneSteps
pub mod MovedLemmas
pub mod SlotSteps
