use Rattle.std.proofs.Common.{ℕ, List, ◌<◌, ◌^◌, map}
use Rattle.std.specs.Prelude.{All, slice_index_or}
use Rattle.dwz_run_course.proofs.looking.look_at_all.Given as goal

abbrev pub invariant-loop-content : goal.invariant-loop-content
invariant-loop-content l =
    (k : ℕ) (d : List ℕ) → k < l.content-index → All (λ byte. byte < 2 ^ 8) (slice_index_or (map (λ c. c.items) l.contents) k d)
