use Rattle.std.proofs.Common.{◌≡◌, ◌++◌, map, take}
use Rattle.dwz_unit.specs.Rows.{EntryRow, rows_of, units_of}
use Rattle.dwz_layout_numbers.proofs.owners.put_own_units.Given as goal

abbrev pub invariant-loop-entry : goal.invariant-loop-entry
invariant-loop-entry l = l.owners.items ≡ l.initial.owners.items ++ map (λ (row : EntryRow). row.unit) (take l.entry (rows_of (units_of l.units)))
