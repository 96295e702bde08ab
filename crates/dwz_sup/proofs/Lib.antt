pub mod HeaderSteps
pub mod WrittenLemmas
pub mod LengthLemmas
pub mod CommonReads
