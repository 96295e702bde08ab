-- The two sections of a file that hold texts and their slots, once just the texts stay that are used.
use Rattle.std.specs.Prelude.{◌≡◌, ℕ, List, ◌++◌}
use Rattle.dwz_strs.specs.Pruned.{IsPruned}
use Rattle.dwz_def_encoding.specs.Pruned.{known_slots, number_in_slot, slot_after, slot_uses}
use Rattle.dwz_def_output.specs.Contents.{with_slots}
use Rattle.dwz_encode_texts.specs.declared.pruning.PrunedFile.{PrunedFile}

-- all uses: those of values, and the numbers of slots that name a text
abbrev pub file_uses : (strs offsets of_values : List ℕ) → List ℕ
file_uses strs offsets of_values = of_values ++ slot_uses strs offsets (known_slots offsets)

-- just the texts stay that are used, and each slot that names one has its new number
pub record IsPrunedFile (strs offsets of_values : List ℕ) (p : PrunedFile) : Type 0 where
  pub texts : IsPruned strs (file_uses strs offsets of_values) p.strs
  pub slots : p.offsets.items
      ≡ with_slots (λ place. slot_after strs (file_uses strs offsets of_values) (number_in_slot offsets place)) (known_slots offsets)
      offsets
