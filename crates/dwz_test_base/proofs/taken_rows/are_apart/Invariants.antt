use Rattle.std.proofs.Common.{◌≡◌, ℕ, ◌<◌, get_or}
use Rattle.dwz_model.specs.Lists.{In}
use Rattle.dwz_takes.specs.Takes.{list_at}
use Rattle.dwz_test_base.proofs.taken_rows.are_apart.Given as goal

abbrev pub invariant-loop-unit : goal.invariant-loop-unit
invariant-loop-unit l = (u t : ℕ) → u < l.unit → In t (list_at l.rows.unit_tops u) → get_or l.units t 0 ≡ u
