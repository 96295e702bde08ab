pub mod KeptLemmas
pub mod SupLemmas
pub mod WithoutBytes
pub mod GivenLemmas
pub mod AnswerLemmas
pub mod ReadLemmas
pub mod HeaderLemmas
