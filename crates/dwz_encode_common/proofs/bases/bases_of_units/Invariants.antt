use Rattle.std.proofs.Common.{◌≡◌, map, take}
use Rattle.dwz_unit.specs.Rows.{units_of}
use Rattle.dwz_encode_common.specs.Stored.{slots_base}
use Rattle.dwz_encode_common.proofs.bases.bases_of_units.Given as goal

abbrev pub invariant-loop-n : goal.invariant-loop-n
invariant-loop-n l = l.bases.items ≡ map slots_base (take l.n (units_of l.units))
