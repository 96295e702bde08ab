pub mod ShownFacts
pub mod KinFacts
