use Rattle.std.proofs.Common.{◌≡◌, take}
use Rattle.dwz_encode_texts.specs.Texts.{texts_end}
use Rattle.dwz_encode_texts.proofs.ends.texts_end.Given as goal

abbrev pub invariant-loop-k : goal.invariant-loop-k
invariant-loop-k l = l.end ≡ texts_end (take l.k l.pairs)
