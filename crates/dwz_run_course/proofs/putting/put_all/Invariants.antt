use Rattle.std.proofs.Common.{◌≡◌, length}
use Rattle.std.specs.Vec.Iter.{into_iter_items, into_iter_len}
use Rattle.dwz_run_course.specs.Ready.{PutsSoFar}
use Rattle.dwz_run_course.proofs.putting.put_all.Given as goal

abbrev pub invariant-loop-ready : goal.invariant-loop-ready
invariant-loop-ready g l =
    PutsSoFar (g.F.Files.told l.initial.files) (g.F.Files.told l.files) l.fn.all.items (into_iter_items l.ready-iterator)
    × ((g.F.Files.told l.files).last_read ≡ (g.F.Files.told l.initial.files).last_read)
    × (length (into_iter_items l.ready-iterator) ≡ into_iter_len l.ready-iterator)
