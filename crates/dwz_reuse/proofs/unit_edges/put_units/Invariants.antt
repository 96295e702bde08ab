use Rattle.std.proofs.Common.{◌≡◌, ℕ, List, Ok}
use Rattle.dwz_def_tops.specs.Spots.{EntryName}
use Rattle.dwz_def_reading.specs.Documents.{DwUnit}
use Rattle.dwz_def_reading.specs.Meanings.{Around}
use Rattle.dwz_def_reading.specs.Meant.{units_meaning}
use Rattle.dwz_move.specs.Known.{KnowsRefs}
use Rattle.dwz_unit.specs.Rows.{units_of}
use Rattle.dwz_reuse.proofs.UnitPuts.{PutsBefore}
use Rattle.dwz_reuse.proofs.unit_edges.put_units.Given as goal

abbrev pub invariant-loop-n : goal.invariant-loop-n
invariant-loop-n l = (around : Around ℕ) (refs : List ℕ) (name : ℕ → EntryName) (said : List (DwUnit ℕ)) → KnowsRefs around (units_of l.units) name refs l.starts l.into
    → units_meaning around (units_of l.units) ≡ Ok said → PutsBefore name said l.n l.fn.edges.items l.edges.items
