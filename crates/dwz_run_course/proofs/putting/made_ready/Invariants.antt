use Rattle.std.proofs.Common.{◌≡◌, ◌++◌, length, map}
use Rattle.std.specs.Vec.Iter.{into_iter_items, into_iter_len}
use Rattle.dwz_run_course.specs.Ready.{ready_of}
use Rattle.dwz_run_course.proofs.putting.made_ready.Given as goal

abbrev pub invariant-loop-put : goal.invariant-loop-put
invariant-loop-put l =
    (l.all.items ++ map ready_of (into_iter_items l.put-iterator) ≡ map ready_of l.fn.puts.items)
    × (length (into_iter_items l.put-iterator) ≡ into_iter_len l.put-iterator)
