use Rattle.std.proofs.Common.{◌≡◌, ◌++◌, drop, map, take}
use Rattle.dwz_encode_texts.specs.MovedTexts.{moved_text}
use Rattle.dwz_encode_texts.proofs.moving.move_texts.Given as goal

abbrev pub invariant-loop-text : goal.invariant-loop-text
invariant-loop-text l = l.texts ≡ map (moved_text l.pruned) (take l.text-index l.fn.texts) ++ drop l.text-index l.fn.texts
