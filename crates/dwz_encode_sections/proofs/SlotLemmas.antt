-- Slots get their numbers one by one: those that had their turn have new numbers, and bytes of no such slot are the old ones.
use Rattle.std.proofs.Common.{◌≡◌, ◌⊎◌, ℕ, zero, suc, ◌+◌, ◌-◌, ◌^◌, ◌<◌, ◌≤◌, true, false, cond, List, [], ◌∷◌, ◌++◌, length, take, drop, get_or, map, Option, Some, None, All, Contains, IsSome, refl}
use Rattle.std.proofs.Common.{sym, ap, subst, ◌∙◌, inl, inr, arith}
use Rattle.std.specs.Prelude.{is_some, SomeIff}
use Rattle.std.proofs.Math.Seq.{drop-append_seam, take-append_seam}
use Rattle.std.proofs.lemmas.List.{ext_get_or, get_or-drop, get_or-take, length-drop, length-take-le, take_all, take_more}
use Rattle.std.proofs.lemmas.List.Elements.{All-contains}
use Rattle.std.specs.Option.{unwrap_or}
use Rattle.dwz_def_reading.specs.Spelling.{SpellsFixed, le_bytes, le_value}
use Rattle.dwz_def_reading.proofs.FixedLemmas.{fixed_written}
use Rattle.dwz_def_reading.specs.Lists.{Each, In}
use Rattle.dwz_def_reading.specs.Parts.{StandsAt}
use Rattle.dwz_def_reading.specs.OffsetTables.{slots_in}
use Rattle.dwz_def_reading.specs.Pruning.{new_number}
use Rattle.dwz_def_reading.specs.Texts.{text_at}
use Rattle.dwz_def_reading.proofs.ListFacts.{in_cases, in_left, in_map, in_right}
use Rattle.dwz_def_reading.specs.Patching.{written_at}
use Rattle.dwz_def_reading.proofs.CutLemmas.{le_len}
use Rattle.dwz_def_reading.proofs.PatchedListLemmas.{cut_at}
use Rattle.dwz_def_reading.proofs.WriteOver.{written_in, written_len, written_other}
use Rattle.dwz_def_tops.specs.Lists.{EachPair}
use Rattle.dwz_def_tops.proofs.Members.{each_in, in_filter}
use Rattle.dwz_strs.specs.Pruned.{IsPruned, Pruning, moved_in}
use Rattle.dwz_def_encoding.specs.Pruned.{AreNewSlots, known_slots, number_in_slot, slot_after, slot_uses, slots_or_none}
use Rattle.dwz_def_encoding.proofs.SlotsLemmas.{slots_stand}
use Rattle.dwz_encode_sections.specs.Slots.{moved_or_same}

-- ---- bytes written over others

-- four bytes at a place are those bytes
four_are : (place : ℕ) (bytes four : List ℕ) → place + 4 ≤ length bytes → length four ≡ 4 → ((k : ℕ) → k < 4 → get_or bytes (place + k) 0 ≡ get_or four k 0) → take 4 (drop place bytes) ≡ four
four_are place bytes four end size same =
    let taken : length (take 4 (drop place bytes)) ≡ 4 = length-take-le 4 (drop place bytes) (omega (arith, length-drop place bytes, end)) in
    ext_get_or 0 (take 4 (drop place bytes)) four (taken ∙ sym size)
    (λ i lt. (let less : i < 4 = omega (arith, lt, taken) in get_or-take 4 (drop place bytes) i 0 less ∙ get_or-drop place bytes i 0 ∙ same i less))

four_same : (place : ℕ) (bytes others : List ℕ) → place + 4 ≤ length bytes → length others ≡ length bytes → ((k : ℕ) → k < 4 → get_or bytes (place + k) 0 ≡ get_or others (place + k) 0)
    → number_in_slot bytes place ≡ number_in_slot others place
four_same place bytes others end size same =
    let taken : length (take 4 (drop place others)) ≡ 4 = length-take-le 4 (drop place others) (omega (arith, length-drop place others, end, size)) in
    ap le_value (four_are place bytes (take 4 (drop place others)) end taken (λ k lt. same k lt ∙ sym (get_or-drop place others k 0) ∙ sym (get_or-take 4 (drop place others) k 0 lt)))

-- ---- places in order

each_get : {X : Type 0} (P : X → Type 0) (xs : List X) (i : ℕ) (d : X) → Each P xs → i < length xs → P (get_or xs i d)
each_get P [] i d h lt = absurd (omega (arith, lt))
each_get P (x ∷ xs) zero d h lt = h.0
each_get P (x ∷ xs) (suc i) d h lt = each_get P xs i d h.1 (omega (arith, lt))

pair_get : {X : Type 0} (R : X → X → Type 0) (xs : List X) (i : ℕ) (d q : X) → EachPair R xs → i < length xs → In q (take i xs) → R q (get_or xs i d)
pair_get R [] i d q h lt there = absurd (omega (arith, lt))
pair_get R (x ∷ xs) zero d q h lt there = absurd there
pair_get R (x ∷ xs) (suc i) d q h lt (inl same) = subst (λ y. R y (get_or xs i d)) same (each_get (R x) xs i d h.0 (omega (arith, lt)))
pair_get R (x ∷ xs) (suc i) d q h lt (inr later) = pair_get R xs i d q h.1 (omega (arith, lt)) later

last_or_before : (xs : List ℕ) (i q : ℕ) → i < length xs → In q (take (i + 1) xs) → In q (take i xs) ⊎ (get_or xs i 0 ≡ q)
last_or_before xs i q lt there = elim (in_cases q (take i xs) (get_or xs i 0 ∷ [])
    (subst (In q) (take_more xs i 0 lt) there)) [ inl a ↦ inl a | inr b ↦ elim b [ inl same ↦ inr same | inr none ↦ absurd none ] ]

in_take : (xs : List ℕ) (i q : ℕ) → In q (take i xs) → In q xs
in_take xs zero q there = absurd there
in_take [] (suc i) q there = absurd there
in_take (x ∷ xs) (suc i) q (inl same) = inl same
in_take (x ∷ xs) (suc i) q (inr later) = inr (in_take xs i q later)

-- ---- slot by slot

pub record SlotsDone (number : ℕ → ℕ) (places old out : List ℕ) (i : ℕ) : Type 0 where
  pub len : length out ≡ length old
  pub slots : (place : ℕ) → In place (take i places) → number_in_slot out place ≡ number (number_in_slot old place)
  pub others : (b : ℕ) → ((place : ℕ) → In place (take i places) → (b < place) ⊎ (place + 4 ≤ b)) → get_or out b 0 ≡ get_or old b 0

abbrev pub Stand : List ℕ → List ℕ → Type 0
Stand section places = Each (λ p. p + 4 ≤ length section) places × EachPair (λ p q. p + 4 ≤ q) places

pub stand : (section places : List ℕ) → slots_in section ≡ Some places → Stand section places
stand section places e = subst (Stand section) (ap slots_or_none e) (slots_stand section)

pub end_of : (section places : List ℕ) (i : ℕ) → Stand section places → i < length places → get_or places i 0 + 4 ≤ length section
end_of section places i s lt = each_get (λ p. p + 4 ≤ length section) places i 0 s.0 lt

pub none_done : (number : ℕ → ℕ) (places old out : List ℕ) → out ≡ old → SlotsDone number places old out 0
none_done number places old out same = record { len = ap length same; slots = λ place there. absurd there; others = λ b apart. ap (λ (w : List ℕ). get_or w b 0) same }

pub slot_step : (number : ℕ → ℕ) (places old out new : List ℕ) (i m : ℕ) → Stand old places → i < length places → m ≡ number (number_in_slot old (get_or places i 0)) → m < 256 ^ 4 → new ≡ written_at
    (get_or places i 0) (le_bytes 4 m) out
    → SlotsDone number places old out i → SlotsDone number places old new (i + 1)
slot_step number places old out new i m s lt is fits written h = record { len = len; slots = slots; others = others } where
  p : ℕ
  p = get_or places i 0

  four : List ℕ
  four = le_bytes 4 m

  size : length four ≡ 4
  size = le_len 4 m

  len : length new ≡ length old
  len = ap length written ∙ written_len p four out ∙ h.len

  end : p + 4 ≤ length out
  end = let e = end_of old places i s lt in omega (arith, e, h.len)

  -- bytes of no slot that it has
  apart : (b : ℕ) → (b < p) ⊎ (p + 4 ≤ b) → get_or new b 0 ≡ get_or out b 0
  apart b out_of = ap (λ (w : List ℕ). get_or w b 0) written ∙ written_other p four out b (elim out_of [ inl before ↦ inl before | inr behind ↦ inr (omega (arith, behind, size)) ])

  own : number_in_slot new p ≡ number (number_in_slot old p)
  own =
      ap le_value (four_are p new four (omega (arith, end, len, h.len)) size
      (λ k less. ap (λ (w : List ℕ). get_or w (p + k) 0) written ∙ written_in p four out k (omega (arith, less, size)) (omega (arith, end, size))))
      ∙ sym (fixed_written 4 m fits).value
      ∙ is

  slots : (place : ℕ) → In place (take (i + 1) places) → number_in_slot new place ≡ number (number_in_slot old place)
  slots place there = elim (last_or_before places i place lt there) [
    | inl before ↦
        (let behind = pair_get (λ a b. a + 4 ≤ b) places i 0 place s.1 lt before in
        four_same place new out (omega (arith, behind, end, len, h.len)) (h.len ∙ sym len) (λ k less. apart (place + k) (inl (omega (arith, less, behind)))) ∙ h.slots place before)
    | inr same ↦ subst (λ (q : ℕ). number_in_slot new q ≡ number (number_in_slot old q)) same own
  ]

  others : (b : ℕ) → ((place : ℕ) → In place (take (i + 1) places) → (b < place) ⊎ (place + 4 ≤ b)) → get_or new b 0 ≡ get_or old b 0
  others b free = apart b (free p (now p refl)) ∙ h.others b (λ place there. free place (more place there)) where
    more : (place : ℕ) → In place (take i places) → In place (take (i + 1) places)
    more place there = subst (In place) (sym (take_more places i 0 lt)) (in_left place (take i places) (p ∷ []) there)

    now : (place : ℕ) → p ≡ place → In place (take (i + 1) places)
    now place same = subst (In place) (sym (take_more places i 0 lt)) (in_right place (take i places) (p ∷ []) (inl same))

-- ---- all of them

-- what stands in a slot
stands_in : (old : List ℕ) (place n : ℕ) → StandsAt (SpellsFixed 4) old place n → number_in_slot old place ≡ n
stands_in old place n s =
    let behind : drop place old ≡ s.front ++ s.after =
    ap (drop place) s.parts ∙ ap (λ (k : ℕ). drop k (s.before ++ (s.front ++ s.after))) (sym s.length_before) ∙ drop-append_seam s.before (s.front ++ s.after) in
    let four : take 4 (drop place old) ≡ s.front = ap (take 4) behind ∙ ap (λ (k : ℕ). take k (s.front ++ s.after)) (sym s.spelled.len) ∙ take-append_seam s.front s.after in
    ap le_value four ∙ sym s.spelled.value

pub slots_done : (number : ℕ → ℕ) (places old out : List ℕ) (i : ℕ) → Stand old places → length places ≤ i → SlotsDone number places old out i → AreNewSlots number places old out
slots_done number places old out i s le h = record {
  len = h.len;
  slots = λ place n there is.
      (let end = each_in (λ p. p + 4 ≤ length old) place places s.0 there in
      let four : place + 4 - place ≡ 4 = omega arith in
      let taken : length (take (place + 4 - place) (drop place out)) ≡ 4 = length-take-le (place + 4 - place) (drop place out) (omega (arith, length-drop place out, end, h.len)) ∙ four in
      let value : le_value (take (place + 4 - place) (drop place out)) ≡ number n = ap (λ (k : ℕ). le_value (take k (drop place out))) four ∙ h.slots place (all place there) ∙ ap number
      (stands_in old place n is) in
      record {
        before = take place out;
        front = take (place + 4 - place) (drop place out);
        after = drop (place + 4) out;
        spelled = record { len = taken; value = sym value };
        length_before = length-take-le place out (omega (arith, h.len, end));
        parts = cut_at place (place + 4) out (omega arith);
      });
  others = λ b apart. h.others b (λ place there. apart place (in_take places i place there));
} where
  all : (place : ℕ) → In place places → In place (take i places)
  all place there = subst (In place) (sym (take_all i places le)) there

-- ---- of texts that are pruned

pub slots_law : (strs offsets uses new : List ℕ) (p : Pruning) → IsPruned strs uses p → All (λ used. IsSome (text_at strs used)) uses →
    ((n : ℕ) → In n (slot_uses strs offsets (known_slots offsets)) → Contains uses n)
    → AreNewSlots (moved_or_same p) (known_slots offsets) offsets new → AreNewSlots (slot_after strs uses) (known_slots offsets) offsets new
unfolding slot_uses
slots_law strs offsets uses new p is texts used h = record {
  len = h.len;
  slots = λ place n there s. subst (StandsAt (SpellsFixed 4) new place) (same place n there (stands_in offsets place n s)) (h.slots place n there s);
  others = h.others;
} where
  same : (place n : ℕ) → In place (known_slots offsets) → number_in_slot offsets place ≡ n → moved_or_same p n ≡ slot_after strs uses n
  same place n there e = by (moved_in p n) refl (text_at strs n) refl where
    by : (o : Option ℕ) → moved_in p n ≡ o → (t : Option (List ℕ)) → text_at strs n ≡ t → unwrap_or o n ≡ cond (is_some t) (new_number strs uses n) n
    by (Some m) eo (Some t) et = (subst (λ (o : Option ℕ). SomeIff o (Contains uses n) (new_number strs uses n)) eo (is.moved n)).1
    by (Some m) eo None et =
        (let no : false ≡ true = subst (λ (t : Option (List ℕ)). IsSome t) et
        (All-contains (λ used. IsSome (text_at strs used)) uses n texts (subst (λ (o : Option ℕ). SomeIff o (Contains uses n) (new_number strs uses n)) eo (is.moved n)).0) in cc)
    by None eo (Some t) et =
        let numbers = map (number_in_slot offsets) (known_slots offsets) in
        let there_too : In n numbers = subst (λ (m : ℕ). In m numbers) e (in_map (number_in_slot offsets) place (known_slots offsets) there) in
        let one = used n (in_filter (λ m. is_some (text_at strs m)) n numbers there_too (ap is_some et)) in
        absurd (subst (λ (o : Option ℕ). SomeIff o (Contains uses n) (new_number strs uses n)) eo (is.moved n) one)
    by None eo None et = refl
