-- The slots of `.debug_str_offsets` get their new numbers, and all other bytes of it stay; of `.debug_str` nothing is left where it was empty.
use Rattle.std.proofs.Common.{◌≡◌, ◌⊎◌, ℕ, zero, suc, ◌+◌, ◌-◌, ◌*◌, ◌^◌, ◌<◌, ◌≤◌, Bool, true, false, cond, List, [], ◌∷◌, ◌++◌, length, take, drop, get_or, map, refl, sym, ap, subst, ◌∙◌, inl, inr}
use Rattle.std.proofs.Common.{arith, lit<}
use Rattle.std.specs.Prelude.{is_some}
use Rattle.std.proofs.lemmas.List.{ext_get_or, get_or-drop, get_or-take, length-append, length-drop, length-take, length-take-le, map-append}
use Rattle.std.proofs.Math.Nat.{pow-le-pow_right}
use Rattle.std.proofs.Math.Seq.{drop-append_seam, take-append_seam}
use Rattle.dwz_def_reading.specs.Spelling.{SpellsFixed, le_bytes, le_value}
use Rattle.dwz_def_reading.proofs.FixedLemmas.{fixed_written}
use Rattle.dwz_model.specs.declared.place.Base.TheVariants.{Info as FromInfo}
use Rattle.dwz_def_reading.specs.Lists.{In}
use Rattle.dwz_def_reading.specs.OffsetTables.{AreSlots, SpellContributions, places_from, slot_places}
use Rattle.dwz_def_reading.specs.Parts.{StandsAt}
use Rattle.dwz_def_reading.specs.Pruning.{is_kept, new_number, pruned}
use Rattle.dwz_def_reading.specs.Texts.{text_at}
use Rattle.dwz_def_reading.specs.Values.{AreBytes}
use Rattle.dwz_def_reading.proofs.PruneLemmas.{length_kept}
use Rattle.dwz_def_reading.proofs.OffsetLemmas.{slots_again}
use Rattle.dwz_def_reading.proofs.WrittenLemmas.{drop_bytes, le_value-less}
use Rattle.dwz_def_reading.proofs.ListFacts.{in_map as map_in}
use Rattle.dwz_def_reading.specs.declared.exprs.Operand.{Operand}
use Rattle.dwz_def_reading.specs.PatchedLists.{with_operands}
use Rattle.dwz_def_reading.specs.Patching.{written_at}
use Rattle.dwz_def_reading.specs.Shared.{HasByte}
use Rattle.dwz_def_reading.proofs.CutLemmas.{Lie, le_len, lie_from}
use Rattle.dwz_def_reading.proofs.NamedAgain.{in_map}
use Rattle.dwz_def_reading.proofs.PatchedListLemmas.{cut_at}
use Rattle.dwz_def_reading.specs.Documents.{Doc}
use Rattle.dwz_def_encoding.specs.Pruned.{AreNewSlots, known_slots, number_in_slot, slot_after, slots_or_none}
use Rattle.dwz_def_encoding.proofs.ReadAgain.{take_bytes}
use Rattle.dwz_def_readback.specs.AllFiles.{FileReads}
use Rattle.dwz_def_readback.specs.Files.{OffsetsIf, Run, sources, strs_if, uses}
use Rattle.dwz_def_output.specs.Contents.{offsets_after_by, strs_after_by}
use Rattle.dwz_def_output.specs.Contents.{new_slot, offsets_after, offsets_if, strs_after, with_slots}
use Rattle.dwz_def_output.proofs.GivenSections.{none_if_none}
use Rattle.dwz_def_output.proofs.ListsWritten.{over_byte, over_len, spelled}
use Rattle.dwz_def_output.proofs.OperandNumbers.{lies_within}

-- a slot as an operand of four bytes
abbrev slot_op : (ℕ → ℕ) → ℕ → Operand
slot_op new place = record { at = place; width = 4; uleb = false; base = FromInfo; number = new place }

slots_are : (new : ℕ → ℕ) (places bytes : List ℕ) → with_slots new places bytes ≡ with_operands (map (slot_op new) places) bytes
unfolding with_slots with_operands
slots_are new [] bytes = refl
slots_are new (p ∷ places) bytes = slots_are new places (written_at p (le_bytes 4 (new p)) bytes)

-- ---- slots stand in order

places_lie : (new : ℕ → ℕ) (at count end : ℕ) (rest : List Operand) → Lie (at + 4 * count) end rest → Lie at end (map (slot_op new) (places_from at count) ++ rest)
places_lie new at zero end rest h = lie_from at (at + 4 * 0) end rest (omega arith) h
places_lie new at (suc count) end rest h =
    let same : at + 4 * suc count ≡ at + 4 + 4 * count = omega arith in
    (omega arith, omega arith, places_lie new (at + 4) count end rest (subst (λ (n : ℕ). Lie n end rest) same h))

slots_lie : (new : ℕ → ℕ) (at : ℕ) (counts bytes : List ℕ) → SpellContributions counts bytes → Lie at (at + length bytes) (map (slot_op new) (slot_places at counts))
slots_lie new at [] bytes e = omega arith
slots_lie new at (count ∷ counts) bytes s =
    let c = s.first in
    let size : length s.front ≡ 8 + 4 * count =
    omega (
      arith,
      ap length c.parts,
      c.len_is.len,
      c.version_is_5.len,
      c.padding_is,
      c.slots_are,
      length-append c.len (c.version ++ (c.padding ++ c.slots)),
      length-append c.version
          (c.padding ++ c.slots),
      length-append c.padding c.slots,
    ) in
    let whole : at + length bytes ≡ at + (8 + 4 * count) + length s.back = omega (arith, ap length s.parts, length-append s.front s.back, size) in
    let rest = map (slot_op new) (slot_places (at + (8 + 4 * count)) counts) in
    let later : Lie (at + (8 + 4 * count)) (at + length bytes) rest = subst (λ (n : ℕ). Lie (at + (8 + 4 * count)) n rest) (sym whole) (slots_lie new (at + (8 + 4 * count)) counts s.back s.second) in
    let from : at + (8 + 4 * count) ≡ at + 8 + 4 * count = omega arith in
    let all = places_lie new (at + 8) count (at + length bytes) rest (subst (λ (n : ℕ). Lie n (at + length bytes) rest) from later) in
    subst (Lie at (at + length bytes)) (sym (map-append (slot_op new) (places_from (at + 8) count) (slot_places (at + (8 + 4 * count)) counts)))
    (lie_from at (at + 8) (at + length bytes) (map (slot_op new) (places_from (at + 8) count) ++ rest) (omega arith) all)

-- two with a byte in common are one
one_op : (at end : ℕ) (os : List Operand) → Lie at end os → (o p : Operand) → In o os → In p os → (b : ℕ) → HasByte o b → HasByte p b → o ≡ p
one_op at end [] h o p is there b x y = absurd is
one_op at end (q ∷ os) h o p (inl s) (inl t) b x y = sym s ∙ t
one_op at end (q ∷ os) h o p (inl s) (inr t) b x y =
    let from = (lies_within (q.at + q.width) end os h.2 p t).from in
    let high : b < q.at + q.width = subst (λ (w : Operand). b < w.at + w.width) (sym s) x.1 in
    let low = y.0 in
    absurd (omega (arith, from, high, low))
one_op at end (q ∷ os) h o p (inr s) (inl t) b x y =
    let from = (lies_within (q.at + q.width) end os h.2 o s).from in
    let high : b < q.at + q.width = subst (λ (w : Operand). b < w.at + w.width) (sym t) y.1 in
    let low = x.0 in
    absurd (omega (arith, from, high, low))
one_op at end (q ∷ os) h o p (inr s) (inr t) b x y = one_op (q.at + q.width) end os h.2 o p s t b x y

-- ---- what is written

module _ (new : ℕ → ℕ) (places old : List ℕ) (are : AreSlots old places) where
  abbrev ops : List Operand
  ops = map (slot_op new) places

  abbrev out : List ℕ
  out = with_operands ops old

  lie : Lie 0 (length old) ops
  lie = subst (λ (ps : List ℕ). Lie 0 (length old) (map (slot_op new) ps)) (sym are.2) (subst (λ (n : ℕ). Lie 0 n (map (slot_op new) (slot_places 0 are.0)))
      (let e : 0 + length old ≡ length old = omega arith in e) (slots_lie new 0 are.0 old are.1))

  ends : (o : Operand) → In o ops → o.at + o.width ≤ length old
  ends o there = (lies_within 0 (length old) ops lie o there).to

  slot_there : (place : ℕ) → In place places → In (slot_op new place) ops
  slot_there place there = map_in (slot_op new) place places there

  len : length out ≡ length old
  len = over_len ops old

  slot_byte : (place : ℕ) → In place places → (k : ℕ) → k < 4 → get_or out (place + k) 0 ≡ get_or (le_bytes 4 (new place)) k 0
  slot_byte place there k less = elim (over_byte ops old ends (place + k)) [
    | inl is ↦
        let o = slot_op new place in
        let same : is.operand ≡ o = one_op 0 (length old) ops lie is.operand o is.there (slot_there place there) (place + k) is.has (omega arith, omega (arith, less)) in
        let count : place + k - place ≡ k = omega arith in
        is.value_is ∙ ap (λ (x : Operand). get_or (spelled x) (place + k - x.at) 0) same ∙ ap (λ (n : ℕ). get_or (le_bytes 4 (new place)) n 0) count
    | inr free ↦ absurd (free.0 (slot_op new place) (slot_there place there) (omega arith, omega (arith, less)))
  ]

  written : (place : ℕ) → In place places → take 4 (drop place out) ≡ le_bytes 4 (new place)
  written place there =
      let end = ends (slot_op new place) (slot_there place there) in
      let size = le_len 4 (new place) in
      let taken : length (take 4 (drop place out)) ≡ 4 = length-take-le 4 (drop place out) (omega (arith, length-drop place out, len, end)) in
      ext_get_or 0 (take 4 (drop place out)) (le_bytes 4 (new place)) (taken ∙ sym size)
      (λ i lt. (let less : i < 4 = omega (arith, lt, taken) in get_or-take 4 (drop place out) i 0 less ∙ get_or-drop place out i 0 ∙ slot_byte place there i less))

  stays : (b : ℕ) → ((place : ℕ) → In place places → (b < place) ⊎ (place + 4 ≤ b)) → get_or out b 0 ≡ get_or old b 0
  stays b apart = elim (over_byte ops old ends b) [
    | inl is ↦
        (let m = in_map (slot_op new) is.operand places is.there in
        let has : HasByte (slot_op new m.0) b = subst (λ (x : Operand). HasByte x b) (sym m.2) is.has in
        absurd (elim (apart m.0 m.1) [ inl before ↦ (let low = has.0 in omega (arith, before, low)) | inr behind ↦ (let high = has.1 in omega (arith, behind, high)) ]))
    | inr free ↦ free.1
  ]

  -- what stands in a slot
  stands_in : (place n : ℕ) → StandsAt (SpellsFixed 4) old place n → number_in_slot old place ≡ n
  stands_in place n s =
      let behind : drop place old ≡ s.front ++ s.after =
      ap (drop place) s.parts ∙ ap (λ (k : ℕ). drop k (s.before ++ (s.front ++ s.after))) (sym s.length_before) ∙ drop-append_seam s.before (s.front ++ s.after) in
      let four : take 4 (drop place old) ≡ s.front = ap (take 4) behind ∙ ap (λ (k : ℕ). take k (s.front ++ s.after)) (sym s.spelled.len) ∙ take-append_seam s.front s.after in
      ap le_value four ∙ sym s.spelled.value

  pub new_slots : (number : ℕ → ℕ) → ((place : ℕ) → new place ≡ number (number_in_slot old place)) → ((place : ℕ) → number (number_in_slot old place) < 256 ^ 4) → AreNewSlots number places old out
  new_slots number is small = record {
    len = len;
    slots = λ place n there s.
        (let value : new place ≡ number n = is place ∙ ap number (stands_in place n s) in
        let fits : number n < 256 ^ 4 = subst (λ (k : ℕ). number k < 256 ^ 4) (stands_in place n s) (small place) in
        let end = ends (slot_op new place) (slot_there place there) in
        let cut = cut_at place (place + 4) out (omega arith) in
        let four : place + 4 - place ≡ 4 = omega arith in
        let front : take (place + 4 - place) (drop place out) ≡ le_bytes 4 (number n) = ap (λ (k : ℕ). take k (drop place out)) four ∙ written place there ∙ ap (le_bytes 4) value in
        record {
          before = take place out;
          front = le_bytes 4 (number n);
          after = drop (place + 4) out;
          spelled = fixed_written 4 (number n) fits;
          length_before = length-take-le place out (omega (arith, len, end));
          parts = cut ∙ ap (λ (w : List ℕ). take place out ++ (w ++ drop (place + 4) out)) front;
        });
    others = stays;
  }

-- ---- numbers don't grow

slot_small : (strs some : List ℕ) (n : ℕ) → slot_after strs some n ≤ n
slot_small strs some n = by (is_some (text_at strs n)) where
  kept : new_number strs some n ≤ n
  kept = let fewer = length_kept (is_kept strs some) 0 (take n strs) in omega (arith, fewer, length-take n strs)

  by : (b : Bool) → cond b (new_number strs some n) n ≤ n
  by true = kept
  by false = omega arith

slot_fits : (bytes : List ℕ) (place : ℕ) → AreBytes bytes → number_in_slot bytes place < 256 ^ 4
slot_fits bytes place are =
    let four = take 4 (drop place bytes) in
    let less = le_value-less four (take_bytes 4 (drop place bytes) (drop_bytes place bytes are)) in
    let few : length four ≤ 4 = omega (arith, length-take 4 (drop place bytes)) in
    let most = pow-le-pow_right {n = 256} (lit< tt) {i = length four} {j = 4} few in
    omega (arith, less, most)

-- ---- in a file that reads

module _ (r : Run) (file : ℕ) (doc : Doc ℕ) (read : FileReads (r.input.bytes file) (r.input.raw file) (r.input.prunes file) doc) (are : AreBytes (sources r file).offsets) where
  pub offsets_made : OffsetsIf (r.input.prunes file) r file (offsets_after r file)
  unfolding offsets_after_by
  offsets_made = by (r.input.prunes file) refl where
    by : (b : Bool) → r.input.prunes file ≡ b → OffsetsIf b r file (offsets_if b r file)
    by true e =
        let p = read.prunable.0 e in
        let places : known_slots (sources r file).offsets ≡ p.places = ap slots_or_none (slots_again (sources r file).offsets p.places p.slots) in
        let slots : AreSlots (sources r file).offsets (known_slots (sources r file).offsets) = subst (AreSlots (sources r file).offsets) (sym places) p.slots in
        subst (AreNewSlots (slot_after (sources r file).strs (uses r file)) (known_slots (sources r file).offsets) (sources r file).offsets)
        (sym (slots_are (new_slot r file) (known_slots (sources r file).offsets) (sources r file).offsets))
        (new_slots (new_slot r file) (known_slots (sources r file).offsets) (sources r file).offsets slots (slot_after (sources r file).strs (uses r file)) (λ place. refl)
        (λ place.
        (let less = slot_small (sources r file).strs (uses r file) (number_in_slot (sources r file).offsets place) in
        let fits = slot_fits (sources r file).offsets place are in
        omega (arith, less, fits))))
    by false e = refl

-- ---- no bytes come where there were none

slots_len : (new : ℕ → ℕ) (places bytes : List ℕ) → length (with_slots new places bytes) ≡ length bytes
slots_len new places bytes = ap length (slots_are new places bytes) ∙ over_len (map (slot_op new) places) bytes

pub no_offsets : (r : Run) (file : ℕ) → (sources r file).offsets ≡ [] → offsets_after r file ≡ []
unfolding offsets_after_by
no_offsets r file none = by (r.input.prunes file) where
  by : (b : Bool) → offsets_if b r file ≡ []
  by true = none_if_none (sources r file).offsets (offsets_if true r file) (slots_len (new_slot r file) (known_slots (sources r file).offsets) (sources r file).offsets) none
  by false = none

pub no_strs : (r : Run) (file : ℕ) → (sources r file).strs ≡ [] → strs_after r file ≡ []
unfolding strs_after_by
no_strs r file none = by (r.input.prunes file) where
  by : (b : Bool) → strs_if b r file ≡ []
  by true =
      let few = length_kept (is_kept (sources r file).strs (uses r file)) 0 (sources r file).strs in
      let size : length (sources r file).strs ≡ 0 = ap length none in
      none_if_none (sources r file).strs (pruned (sources r file).strs (uses r file)) (omega (arith, few, size)) none
  by false = none
