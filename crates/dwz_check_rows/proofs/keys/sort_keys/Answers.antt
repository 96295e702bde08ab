use Rattle.std.proofs.lemmas.List.Filters.{dedup_is}
use Rattle.dwz_check_rows.proofs.KeyLemmas.{in_order}
use Rattle.dwz_check_rows.proofs.keys.sort_keys.Goals as goal

pub returns : goal.returns
returns c = in_order c.args.keys.items c.sort_unstable.new.self.items c.dedup.new.self.items c.sort_unstable.ensures.permutation c.sort_unstable.ensures.sorted (dedup_is _ _ _ c.dedup.ensures.filtered)
