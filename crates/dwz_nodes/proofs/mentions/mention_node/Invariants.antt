use Rattle.std.proofs.Common.{◌≡◌, ◌++◌, take}
use Rattle.std.specs.Prelude.{map}
use Rattle.dwz_nodes.specs.Mentions.{mention}
use Rattle.dwz_nodes.proofs.mentions.mention_node.Given as goal

abbrev pub invariant-loop-place : goal.invariant-loop-place
invariant-loop-place l = l.mentions.items ≡ l.initial.mentions.items ++ map (mention l.number) (take l.place-index l.places)
