mod SharedRows
pub mod PlainBeside
mod SupLemmas
mod OneAfter
mod ContentLemmas
mod PlacedFiles
mod FilesBy
pub mod AheadLemmas
mod EnoughRoom
mod RuleLemmas
mod AloneLemmas
mod KeptLemmas
pub mod BesideLemmas
pub mod FileLemmas
pub mod GraphLemmas
mod RoomLemmas
pub mod TreeLemmas
pub mod StepLemmas
pub mod NameLemmas
pub mod TopThere
pub mod PartLemmas
pub mod FileTops
pub mod ListLemmas
pub mod WayLemmas
pub mod BelowLemmas
pub mod SpaceLemmas
pub mod ListBuilding
pub mod UnitBuilding
pub mod SpaceMeans
pub mod AmongLemmas
pub mod ListMeans
pub mod ShowLemmas
pub mod UnitsMean
pub mod TopNameLemmas
pub mod TopLemmas
pub mod TopUnits
pub mod SpaceTextLemmas
pub mod ChainLemmas
pub mod RowUnits
pub mod IndexRoom
pub mod IndexSteps
pub mod IndexesThere
mod OpenedLemmas
mod HeadedLemmas
pub use Rattle.dwz_graph_resolve.proofs.FewRefs
pub use Rattle.dwz_graph_resolve.proofs.FileSteps
pub use Rattle.dwz_graph_resolve.proofs.JoinLemmas
pub use Rattle.dwz_graph_resolve.proofs.NamedLemmas
pub use Rattle.dwz_graph_resolve.proofs.PlaceLemmas
pub use Rattle.dwz_graph_resolve.proofs.SearchLemmas
pub use Rattle.dwz_graph_resolve.proofs.SharedLaw
pub use Rattle.dwz_graph_resolve.proofs.SurroundingLemmas
pub use Rattle.dwz_graph_resolve.proofs.UnitStarts
pub use Rattle.dwz_graph_resolve.proofs.UnitThere
pub use Rattle.dwz_graph_resolve.proofs.ValueSteps
pub mod RowSteps
pub mod StandLemmas
pub mod ListGets
pub mod TopRows
pub mod FileWalk
pub mod OwnNames
pub mod UnitFiles
pub mod FileCounts
pub mod FileRoom
pub mod FileEntries
pub mod UnitsFew
pub mod SpacesFew
pub mod FilesFew
