use Rattle.std.proofs.Common.{List, take}
use Rattle.dwz_def_tops.specs.Spots.{EntryName}
use Rattle.dwz_graph.specs.Index.{IsIndex}
use Rattle.dwz_unit.specs.Rows.{rows_of, units_of}
use Rattle.dwz_layout_numbers.specs.Owned.{IsOwned}
use Rattle.dwz_layout_numbers.specs.Owners.{AddsOwners}
use Rattle.dwz_layout_numbers.proofs.owners.put_owners.Given as goal

abbrev pub invariant-loop-entry : goal.invariant-loop-entry
invariant-loop-entry l = record {
  owned : IsOwned l.plan l.numbers.parts.items l.numbers.olds.items l.first l.owned;
  adds : (names : List EntryName) → IsIndex names l.index
      → AddsOwners l.plan l.numbers.parts.items l.numbers.olds.items l.index.starts.unit (take l.entry (rows_of (units_of l.units))) (take l.entry names) l.initial.owners.items l.owners.items;
}
