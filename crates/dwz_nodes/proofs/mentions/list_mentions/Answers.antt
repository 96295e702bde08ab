use Rattle.std.proofs.Common.{◌++◌, List, ap, ◌∙◌}
use Rattle.std.specs.List.{flat_map}
use Rattle.std.proofs.lemmas.List.Filters.{dedup_is}
use Rattle.dwz_nodes.specs.Mentions.{mentions_at}
use Rattle.dwz_nodes.specs.declared.mentions.Mention.{Mention}
use Rattle.dwz_nodes.proofs.MentionOrder.{all-tie, listed}
use Rattle.dwz_nodes.proofs.mentions.list_mentions.Goals as goal

pub returns : goal.returns
returns c =
    let all : List Mention = flat_map (mentions_at c.args.uses.now c.args.numbers.now) c.args.pending.now in
    let once = dedup_is _ _ _ c.dedup.ensures.filtered in
    listed c.args.uses.now c.args.numbers.now c.args.pending.now _ all-tie c.mention_all.new.mentions.items c.sort_unstable.new.self.items c.dedup.new.self.items
    (c.in_ok-mention_all.ensures ∙ ap (λ (xs : List Mention). xs ++ all) c.clear.ensures.items) c.sort_unstable.ensures.permutation c.sort_unstable.ensures.sorted once
