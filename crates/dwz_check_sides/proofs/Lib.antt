pub mod ListNumbers
pub mod SpaceTexts
pub mod NameTexts
pub mod SpaceSteps
pub mod UnitNodes
