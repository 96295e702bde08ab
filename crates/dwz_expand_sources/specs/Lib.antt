pub mod Sources
pub mod Building
pub mod Numbers
pub mod Walk
pub mod Copies
pub mod Rows
pub use Rattle.dwz_check_index.specs.Index
pub use Rattle.dwz_imports.specs.Imports
