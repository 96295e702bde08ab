use Rattle.std.proofs.Common.{◌≡◌, map, take}
use Rattle.dwz_unit.specs.Rows.{units_of}
use Rattle.dwz_match.proofs.offsets.roots.Given as goal

abbrev pub invariant-loop-n : goal.invariant-loop-n
invariant-loop-n l = l.offsets.items ≡ map (λ u. u.root.at) (take l.n (units_of l.units))
