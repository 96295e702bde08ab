use Rattle.dwz_run_course.specs.Ungot.{GotSoFar}
use Rattle.dwz_run_course.proofs.getting.got_all.Given as goal
use Rattle.std.proofs.Common.{◌≡◌, ◌^◌, map}

abbrev pub invariant-loop-i : goal.invariant-loop-i
invariant-loop-i g l =
    GotSoFar (g.F.Files.told l.initial.files) (g.F.Files.told l.files) (2 ^ 28) l.longest l.behind (map (λ name. name.now) l.names) l.i (map (λ c. c.items) l.contents.items) l.before
    × ((g.F.Files.told l.files).last_read ≡ (g.F.Files.told l.initial.files).last_read)
