-- The sections of line tables.
use Rattle.std.specs.Prelude.{ℕ, List}
use Rattle.dwz_def_reading.specs.LineTables.{TextSections}
use Rattle.dwz_lines.specs.TableViews.{sections}

pub record LineSource : Type 0 where
  pub line : List ℕ
  pub texts : TextSections

abbrev pub line_source : List ℕ → List ℕ → List ℕ → LineSource
line_source line line_strs strs = record { line = line; texts = sections strs line_strs }
