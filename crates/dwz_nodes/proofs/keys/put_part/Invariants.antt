use Rattle.std.proofs.Common.{◌≡◌, ◌∷◌, ◌++◌, take}
use Rattle.dwz_nodes.specs.Mentions.{words_of}
use Rattle.dwz_nodes.proofs.keys.put_part.Given as goal

abbrev pub invariant-loop-mention : goal.invariant-loop-mention
invariant-loop-mention l = l.words.items ≡ l.fn.words.items ++ l.number ∷ words_of (take l.mention-index l.run)
