use Rattle.std.proofs.lemmas.List.Filters.{dedup_is}
use Rattle.dwz_check_rows.proofs.KeyLemmas.{in_order}
use Rattle.dwz_check_rows.proofs.keys.merge_keys.Goals as goal

pub returns : goal.returns
returns c = in_order c.args.keys.items c.sort.new.self.items c.dedup.new.self.items c.in_ok-sort.ensures.permutation c.in_ok-sort.ensures.sorted (dedup_is _ _ _ c.dedup.ensures.filtered)
