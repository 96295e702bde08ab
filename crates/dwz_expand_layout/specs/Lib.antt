-- Lines of units and what attributes store are handed on: who lists this crate finds them here.
pub use Rattle.dwz_layout_items.specs.Lines
pub use Rattle.dwz_layout.specs.Attributes
pub mod Entries
pub mod Laid
pub mod Written
pub mod Shown
pub mod Depths
pub mod Laws
