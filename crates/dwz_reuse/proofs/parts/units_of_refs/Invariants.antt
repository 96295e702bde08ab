use Rattle.std.proofs.Common.{◌≡◌, ℕ, take}
use Rattle.dwz_def_tops.specs.Spots.{EntryName}
use Rattle.dwz_move.specs.Known.{tops_of_refs}
use Rattle.dwz_unit.specs.Rows.{units_of}
use Rattle.dwz_reuse.specs.Puts.{NamesUnits}
use Rattle.dwz_reuse.proofs.parts.units_of_refs.Given as goal

abbrev pub invariant-loop-entry : goal.invariant-loop-entry
invariant-loop-entry l = (name : ℕ → EntryName) → NamesUnits (units_of l.units) name → l.into.items ≡ tops_of_refs name (units_of l.units) (take l.entry-index l.refs)
