use Rattle.std.proofs.Common.{◌≡◌, ℕ, take, get_or}
use Rattle.dwz_model.specs.Lists.{In}
use Rattle.dwz_test_base.proofs.taken_rows.are_of.Given as goal

abbrev pub invariant-loop-top : goal.invariant-loop-top
invariant-loop-top l = (t : ℕ) → In t (take l.top-index l.tops) → get_or l.units t 0 ≡ l.unit
