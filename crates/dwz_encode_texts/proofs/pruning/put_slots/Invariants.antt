use Rattle.std.proofs.Common.{◌≡◌, ◌++◌, drop}
use Rattle.dwz_def_encoding.specs.Pruned.{slot_uses}
use Rattle.dwz_encode_texts.proofs.pruning.put_slots.Given as goal

abbrev pub invariant-loop-place : goal.invariant-loop-place
invariant-loop-place l = l.uses.items ++ slot_uses l.strs l.offsets (drop l.place-index l.places) ≡ l.fn.uses.items ++ slot_uses l.strs l.offsets l.places
