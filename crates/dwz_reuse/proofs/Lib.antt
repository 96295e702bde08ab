mod PutSteps
mod ValueUnits
mod UnitPuts
mod UnitPlaces
mod SpotUnits
mod PartRefs
mod TopRows
mod TopSteps
mod SpotNames
mod IntoSteps
mod CommonTop
mod CommonTargets
mod SpreadSteps
mod CommonSpread
mod OwnNames
mod CommonNamed
pub mod SeedFacts
mod OperandRows
mod InsideLists
mod SpaceRows
mod UnitsFew
mod AllInside
mod LookSizes
mod CommonKnown
pub mod OwnTopNames
pub mod TopPairs
pub mod TreeRefs
pub mod FileRefers
pub mod EdgeSteps
pub mod NodeSteps
pub mod PlaceNames
pub mod RefersPut
pub mod CrossFew
pub mod FileSteps
pub mod CommonPlaced
pub mod FilesPlaced
pub mod MapTwice
pub mod BesideSaid
pub mod UnitEntries
pub mod SpaceEdges
pub mod SpaceFiles
pub mod NameNumbers
pub mod CommonSpaces
pub mod JoinedLists
pub mod JoinedFacts
pub mod TopFiles
pub mod LeastLow
mod CommonRead
mod LabelsInside
