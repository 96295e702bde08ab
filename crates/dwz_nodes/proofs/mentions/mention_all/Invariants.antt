use Rattle.std.proofs.Common.{◌≡◌, ◌++◌, take}
use Rattle.std.specs.List.{flat_map}
use Rattle.dwz_nodes.specs.Mentions.{mentions_at}
use Rattle.dwz_nodes.proofs.mentions.mention_all.Given as goal

abbrev pub invariant-loop-node : goal.invariant-loop-node
invariant-loop-node l = l.mentions.items ≡ l.initial.mentions.items ++ flat_map (mentions_at l.uses l.numbers) (take l.node-index l.pending)
