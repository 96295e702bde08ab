use Rattle.std.proofs.Common.{◌≡◌, suc, [], get_or, map}
use Rattle.std.specs.List.{range_with_len}
use Rattle.dwz_run.proofs.reused.contents_behind.Given as goal

abbrev pub invariant-loop-number : goal.invariant-loop-number
invariant-loop-number l = map (λ c. c.items) l.files.items ≡ map (λ n. get_or (map (λ c. c.items) l.contents) (suc n) []) (range_with_len 0 l.number)
