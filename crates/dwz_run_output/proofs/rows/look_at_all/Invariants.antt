use Rattle.std.proofs.Common.{ℕ, ◌<◌, [], get_or, map}
use Rattle.dwz_def_reading.specs.Values.{AreBytes}
use Rattle.dwz_run_output.proofs.rows.look_at_all.Given as goal

abbrev pub invariant-loop-content : goal.invariant-loop-content
invariant-loop-content l = (k : ℕ) → k < l.content-index → AreBytes (get_or (map (λ c. c.items) l.contents) k [])
