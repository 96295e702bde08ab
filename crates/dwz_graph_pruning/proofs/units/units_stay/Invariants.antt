use Rattle.std.proofs.Common.{◌≡◌, List, Ok, length}
use Rattle.dwz_def_reading.specs.Documents.{DwUnit}
use Rattle.std.proofs.Common.{ℕ}
use Rattle.dwz_def_reading.specs.Meanings.{Around, text_sections_of}
use Rattle.dwz_def_reading.specs.Meant.{units_meaning}
use Rattle.dwz_graph_pruning.proofs.UnitLemmas.{Left}
use Rattle.dwz_graph.specs.Parts.{HaveLines}
use Rattle.dwz_unit.specs.Rows.{units_of}
use Rattle.dwz_def_encoding.specs.Pruned.{UnitStays}
use Rattle.dwz_graph_pruning.proofs.units.units_stay.Given as goal

abbrev pub invariant-loop-n : goal.invariant-loop-n
invariant-loop-n l = (around : Around ℕ) (said : List (DwUnit ℕ)) → (means : units_meaning around (units_of l.units) ≡ Ok said)
    → HaveLines around (units_of l.units) (length (units_of l.units)) l.tables l.lines
    → Left (UnitStays (text_sections_of around.sources) around.sources.line l.slots) around (units_of l.units) said means l.n
