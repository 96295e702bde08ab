-- Which values are entries.
pub use Rattle.dwz_unit.specs.Named.{is_entry}
