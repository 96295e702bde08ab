pub mod Apart
pub mod MappedTops
pub mod MappedRows
pub mod WellRead
pub mod Numbered
pub mod Placed
