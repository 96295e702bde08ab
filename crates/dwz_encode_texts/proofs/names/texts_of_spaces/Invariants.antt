use Rattle.std.proofs.Common.{◌≡◌, take}
use Rattle.dwz_encode_texts.proofs.NameSteps.{all_names}
use Rattle.dwz_encode_texts.proofs.names.texts_of_spaces.Given as goal

abbrev pub invariant-loop-number : goal.invariant-loop-number
invariant-loop-number l = l.texts.items ≡ all_names (take l.number l.file-items) (take l.number l.indexes)
