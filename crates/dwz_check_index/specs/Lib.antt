pub mod Index
pub mod Building
pub mod EntryRows
pub mod Mapped
pub mod Both
pub mod TwoNames
pub mod FilesRead
