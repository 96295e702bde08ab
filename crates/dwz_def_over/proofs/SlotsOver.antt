-- The slots of `.debug_str_offsets` get their new numbers, and all other bytes of it stay; of `.debug_str` nothing is left where it was empty.
use Rattle.std.proofs.Common.{◌≡◌, ℕ, ◌^◌, ◌<◌, ◌≤◌, Bool, true, false, cond, List, [], ◌∷◌, length, take, drop, map, refl, sym, ap, subst, ◌∙◌, arith, lit<}
use Rattle.std.specs.Prelude.{is_some}
use Rattle.std.proofs.lemmas.List.{length-take}
use Rattle.std.proofs.Math.Nat.{pow-le-pow_right}
use Rattle.dwz_def_reading.specs.Spelling.{le_bytes}
use Rattle.dwz_def_reading.specs.Base.TheVariants.{Info as FromInfo}
use Rattle.dwz_def_reading.specs.OffsetTables.{AreSlots}
use Rattle.dwz_def_reading.specs.Pruning.{is_kept, new_number, pruned}
use Rattle.dwz_def_reading.specs.Texts.{text_at}
use Rattle.dwz_def_reading.specs.Values.{AreBytes}
use Rattle.dwz_def_reading.proofs.PruneLemmas.{length_kept}
use Rattle.dwz_def_reading.proofs.OffsetLemmas.{slots_again}
use Rattle.dwz_def_reading.proofs.WrittenLemmas.{drop_bytes, le_value-less}
use Rattle.dwz_def_reading.specs.declared.exprs.Operand.{Operand}
use Rattle.dwz_def_reading.specs.PatchedLists.{with_operands}
use Rattle.dwz_def_reading.specs.Patching.{written_at}
use Rattle.dwz_def_reading.specs.Documents.{Doc}
use Rattle.dwz_def_encoding.specs.Pruned.{AreNewSlots, known_slots, number_in_slot, slot_after, slots_or_none}
use Rattle.dwz_def_encoding.proofs.ReadAgain.{take_bytes}
use Rattle.dwz_def_readback.specs.AllFiles.{FileReads}
use Rattle.dwz_def_readback.specs.Files.{Run, sources, CommonFile, OffsetsIfBy, strs_if_by, uses_by}
use Rattle.dwz_def_output.specs.Contents.{offsets_after_by, strs_after_by, with_slots, new_slot_by, offsets_if_by}
use Rattle.dwz_def_output.proofs.GivenSections.{none_if_none}
use Rattle.dwz_def_output.proofs.ListsWritten.{over_len}
use Rattle.dwz_def_output.proofs.SlotsMade.{new_slots}

-- a slot as an operand of four bytes
abbrev slot_op : (ℕ → ℕ) → ℕ → Operand
slot_op new place = record { at = place; width = 4; uleb = false; base = FromInfo; number = new place }

slots_are : (new : ℕ → ℕ) (places bytes : List ℕ) → with_slots new places bytes ≡ with_operands (map (slot_op new) places) bytes
unfolding with_slots with_operands
slots_are new [] bytes = refl
slots_are new (p ∷ places) bytes = slots_are new places (written_at p (le_bytes 4 (new p)) bytes)

-- ---- numbers don't grow

slot_small : (strs some : List ℕ) (n : ℕ) → slot_after strs some n ≤ n
slot_small strs some n = by (is_some (text_at strs n)) where
  kept : new_number strs some n ≤ n
  kept = let fewer = length_kept (is_kept strs some) 0 (take n strs) in omega (arith, fewer, length-take n strs)

  by : (b : Bool) → cond b (new_number strs some n) n ≤ n
  by true = kept
  by false = omega arith

slot_fits : (bytes : List ℕ) (place : ℕ) → AreBytes bytes → number_in_slot bytes place < 256 ^ 4
slot_fits bytes place are =
    let four = take 4 (drop place bytes) in
    let less = le_value-less four (take_bytes 4 (drop place bytes) (drop_bytes place bytes are)) in
    let few : length four ≤ 4 = omega (arith, length-take 4 (drop place bytes)) in
    let most = pow-le-pow_right {n = 256} (lit< tt) {i = length four} {j = 4} few in
    omega (arith, less, most)

-- ---- in a file that reads

module _ (cf : CommonFile) (r : Run) (file : ℕ) (doc : Doc ℕ) (read : FileReads (r.input.bytes file) (r.input.raw file) (r.input.prunes file) doc) (are : AreBytes (sources r file).offsets) where
  pub offsets_made : OffsetsIfBy (r.input.prunes file) cf r file (offsets_after_by cf r file)
  unfolding offsets_after_by
  offsets_made = by (r.input.prunes file) refl where
    by : (b : Bool) → r.input.prunes file ≡ b → OffsetsIfBy b cf r file (offsets_if_by b cf r file)
    by true e =
        let p = read.prunable.0 e in
        let places : known_slots (sources r file).offsets ≡ p.places = ap slots_or_none (slots_again (sources r file).offsets p.places p.slots) in
        let slots : AreSlots (sources r file).offsets (known_slots (sources r file).offsets) = subst (AreSlots (sources r file).offsets) (sym places) p.slots in
        subst (AreNewSlots (slot_after (sources r file).strs (uses_by cf r file)) (known_slots (sources r file).offsets) (sources r file).offsets)
        (sym (slots_are (new_slot_by cf r file) (known_slots (sources r file).offsets) (sources r file).offsets))
        (new_slots (new_slot_by cf r file) (known_slots (sources r file).offsets) (sources r file).offsets slots (slot_after (sources r file).strs (uses_by cf r file)) (λ place. refl)
        (λ place.
        (let less = slot_small (sources r file).strs (uses_by cf r file) (number_in_slot (sources r file).offsets place) in
        let fits = slot_fits (sources r file).offsets place are in
        omega (arith, less, fits))))
    by false e = refl

-- ---- no bytes come where there were none

slots_len : (new : ℕ → ℕ) (places bytes : List ℕ) → length (with_slots new places bytes) ≡ length bytes
slots_len new places bytes = ap length (slots_are new places bytes) ∙ over_len (map (slot_op new) places) bytes

pub no_offsets : (cf : CommonFile) (r : Run) (file : ℕ) → (sources r file).offsets ≡ [] → offsets_after_by cf r file ≡ []
unfolding offsets_after_by
no_offsets cf r file none = by (r.input.prunes file) where
  by : (b : Bool) → offsets_if_by b cf r file ≡ []
  by true = none_if_none (sources r file).offsets (offsets_if_by true cf r file) (slots_len (new_slot_by cf r file) (known_slots (sources r file).offsets) (sources r file).offsets) none
  by false = none

pub no_strs : (cf : CommonFile) (r : Run) (file : ℕ) → (sources r file).strs ≡ [] → strs_after_by cf r file ≡ []
unfolding strs_after_by
no_strs cf r file none = by (r.input.prunes file) where
  by : (b : Bool) → strs_if_by b cf r file ≡ []
  by true =
      let few = length_kept (is_kept (sources r file).strs (uses_by cf r file)) 0 (sources r file).strs in
      let size : length (sources r file).strs ≡ 0 = ap length none in
      none_if_none (sources r file).strs (pruned (sources r file).strs (uses_by cf r file)) (omega (arith, few, size)) none
  by false = none
