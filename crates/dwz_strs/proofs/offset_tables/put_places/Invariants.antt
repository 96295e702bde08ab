use Rattle.std.proofs.Common.{◌≡◌, ◌+◌, ◌-◌, ◌*◌, ◌++◌}
use Rattle.dwz_def_reading.specs.OffsetTables.{places_from}
use Rattle.dwz_strs.proofs.offset_tables.put_places.Given as goal

abbrev pub invariant-loop-i : goal.invariant-loop-i
invariant-loop-i l = l.places.items ++ places_from (l.from + 4 * l.i) (l.count - l.i) ≡ l.initial.places.items ++ places_from l.from l.count
