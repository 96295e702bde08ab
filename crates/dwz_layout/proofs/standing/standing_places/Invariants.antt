use Rattle.std.proofs.Common.{◌≡◌, ◌-◌, ◌++◌, map, replicate, take}
use Rattle.dwz_unit.specs.Rows.{EntryRow, rows_of, units_of}
use Rattle.dwz_layout.proofs.standing.standing_places.Given as goal

abbrev pub invariant-loop-n : goal.invariant-loop-n
invariant-loop-n l = l.places.items ≡ replicate (l.entries - l.count) 0 ++ map (λ (r : EntryRow). r.entry.at) (take l.n (rows_of (units_of l.common)))
