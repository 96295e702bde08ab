pub mod FormSets
pub mod RawValues
pub mod Numbers
pub mod Sizes
pub mod FixedSizes
