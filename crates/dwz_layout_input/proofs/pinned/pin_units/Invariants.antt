use Rattle.std.proofs.Common.{◌≡◌, ℕ, List, Ok}
use Rattle.dwz_def_tops.specs.Spots.{EntryName}
use Rattle.dwz_def_reading.specs.Documents.{DwUnit}
use Rattle.dwz_def_reading.specs.Meanings.{Around}
use Rattle.dwz_def_reading.specs.Meant.{units_meaning}
use Rattle.dwz_move.specs.Known.{KnowsRefs}
use Rattle.dwz_move.specs.Marked.{MarksIf, expression_pins}
use Rattle.dwz_unit.specs.Rows.{units_of}
use Rattle.dwz_move_files.proofs.MarkSteps.{InUnits}
use Rattle.dwz_layout_input.proofs.pinned.pin_units.Given as goal

abbrev pub invariant-loop-n : goal.invariant-loop-n
invariant-loop-n l = (around : Around ℕ) (refs : List ℕ) (name : ℕ → EntryName) (said : List (DwUnit ℕ)) → KnowsRefs around (units_of l.units) name refs l.starts l.into
    → (means : units_meaning around (units_of l.units) ≡ Ok said)
    → MarksIf (InUnits around (units_of l.units) said means name expression_pins l.n) l.fn.named.by_uleb.items l.named.by_uleb.items
