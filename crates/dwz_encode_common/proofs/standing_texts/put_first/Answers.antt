use Rattle.std.proofs.Common.{inr, sym}
use Rattle.std.proofs.lemmas.Map.Text.{btree_map_updates_str}
use Rattle.dwz_encode_common.proofs.standing_texts.put_first.Goals as goal

pub returns-in_ok-insert-in-None : goal.returns-in_ok-insert-in-None
returns-in_ok-insert-in-None c = inr (sym c.in-None.ensures.value, btree_map_updates_str c.args.text.now c.args.starts.now c.insert.new.self _ c.in_ok-insert-in-None.ensures.updates)
