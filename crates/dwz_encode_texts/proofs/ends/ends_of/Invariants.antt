use Rattle.std.proofs.Common.{◌≡◌, map, take}
use Rattle.dwz_encode_texts.specs.Texts.{texts_end}
use Rattle.dwz_encode_texts.proofs.ends.ends_of.Given as goal

abbrev pub invariant-loop-number : goal.invariant-loop-number
invariant-loop-number l = l.ends.items ≡ map texts_end (take l.number l.declarations.pairs)
