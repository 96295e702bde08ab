mod Numbers
mod OnceLemmas
pub mod Grouped
mod RootPlaces
mod NamedParts
mod RowParts
mod Means
mod PartLists
mod Children
mod Whole
pub mod ImportRelations
mod FilesSay
