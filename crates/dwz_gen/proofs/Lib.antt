pub mod UnitLemmas
pub mod LengthLemmas
pub mod GivenLemmas
pub mod ReadsLemmas
