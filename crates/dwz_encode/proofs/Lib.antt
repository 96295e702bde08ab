pub mod EventLemmas
pub mod PassLemmas
pub mod StepLemmas
pub mod KeyLemmas
pub mod UnitLemmas
pub mod SectionLemmas
pub mod FileLemmas
pub mod LawLemmas
pub mod StandingPlaces
pub mod ByteLemmas
pub mod ValueLemmas
mod StretchLemmas
