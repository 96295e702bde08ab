-- Units of a file by itself: none is partial, and no form leads to a supplementary file.
use Rattle.std.specs.Prelude.{◌≡◌}
use Rattle.dwz_unit.specs.Rows.{Source}
use Rattle.dwz_unit.specs.declared.mode.FileKind.TheVariants.{Given}

abbrev pub AreGiven : Source → Type 0
AreGiven s = s.kind ≡ Given
