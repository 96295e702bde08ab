use Rattle.std.proofs.Common.{◌≡◌, map, take}
use Rattle.dwz_def_reading.specs.Units.{RawUnit}
use Rattle.dwz_unit.specs.Rows.{units_of}
use Rattle.dwz_layout.proofs.standing.standing_roots.Given as goal

abbrev pub invariant-loop-n : goal.invariant-loop-n
invariant-loop-n l = l.roots.items ≡ map (λ (u : RawUnit). u.root.at) (take l.n (units_of l.common))
