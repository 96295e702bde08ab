mod PairLemmas
pub mod SmallLemmas
pub mod WayEnds
pub mod ChainTops
mod ExplainSteps
pub mod PlaceNames
pub mod RowPlaces
pub mod ChildSteps
pub mod AttributeSteps
pub mod SpotSteps
pub mod EntrySteps
pub mod ChainText
