-- Slot by slot: the numbers that name a text, and the new numbers.
use Rattle.std.proofs.Common.{◌≡◌, ℕ, ◌+◌, ◌-◌, ◌<◌, ◌≤◌, Bool, true, false, cond, List, [], ◌∷◌, ◌++◌, drop, get_or, length, take, is_some, refl, sym, ap, ◌∙◌, append_assoc, append-nil}
use Rattle.std.proofs.lemmas.List.{drop_all}
use Rattle.std.proofs.lemmas.Option.{slice_get-get_or}
use Rattle.dwz_def_reading.specs.Spelling.{le_bytes, le_value}
use Rattle.dwz_def_reading.specs.Texts.{text_at}
use Rattle.dwz_def_reading.proofs.ListFacts.{drop_here, whole_rest}
use Rattle.dwz_def_reading.specs.Patching.{written_at}
use Rattle.dwz_def_reading.proofs.WriteOver.{written_len}
use Rattle.dwz_def_encoding.specs.Pruned.{number_in_slot, slot_uses}
use Rattle.dwz_def_output.specs.Contents.{with_slots}

-- the number that is read in a slot
pub front_is : (offsets : List ℕ) (place number : ℕ) → number ≡ le_value (take 4 (take (length offsets - place) (drop place offsets))) → number ≡ number_in_slot offsets place
front_is offsets place number is = is ∙ ap (λ (w : List ℕ). le_value (take 4 w)) (whole_rest offsets place)

-- ---- numbers that name a text

module _ (strs offsets : List ℕ) where
  first_slot : (place : ℕ) (places : List ℕ) → slot_uses strs offsets (place ∷ places)
      ≡ cond (is_some (text_at strs (number_in_slot offsets place))) (number_in_slot offsets place ∷ slot_uses strs offsets places) (slot_uses strs offsets places)
  unfolding slot_uses
  first_slot place places = refl

  no_slot : slot_uses strs offsets [] ≡ []
  unfolding slot_uses
  no_slot = refl

  module _ (places : List ℕ) (i number : ℕ) (out all : List ℕ) (lt : i < length places) (is : number ≡ number_in_slot offsets (get_or places i 0)) where
    next : drop i places ≡ get_or places i 0 ∷ drop (i + 1) places
    next = drop_here places i (get_or places i 0) (slice_get-get_or places i 0 lt)

    pub slot_named : (new : List ℕ) → is_some (text_at strs number) ≡ true → new ≡ out ++ number ∷ [] → out ++ slot_uses strs offsets (drop i places) ≡ all
        → new ++ slot_uses strs offsets (drop (i + 1) places) ≡ all
    slot_named new some push so =
        let place = get_or places i 0 in
        let rest = slot_uses strs offsets (drop (i + 1) places) in
        let yes : is_some (text_at strs (number_in_slot offsets place)) ≡ true = ap (λ (n : ℕ). is_some (text_at strs n)) (sym is) ∙ some in
        ap (λ (w : List ℕ). w ++ rest) (push ∙ ap (λ (n : ℕ). out ++ n ∷ []) is)
        ∙ append_assoc out (number_in_slot offsets place ∷ []) rest
        ∙ sym (ap (λ (w : List ℕ). out ++ w) (ap (slot_uses strs offsets) next ∙ first_slot place (drop (i + 1) places) ∙ ap (λ (b : Bool). cond b (number_in_slot offsets place ∷ rest) rest) yes))
        ∙ so

    pub slot_other : is_some (text_at strs number) ≡ false → out ++ slot_uses strs offsets (drop i places) ≡ all → out ++ slot_uses strs offsets (drop (i + 1) places) ≡ all
    slot_other none so =
        let place = get_or places i 0 in
        let rest = slot_uses strs offsets (drop (i + 1) places) in
        let no : is_some (text_at strs (number_in_slot offsets place)) ≡ false = ap (λ (n : ℕ). is_some (text_at strs n)) (sym is) ∙ none in
        sym (ap (λ (w : List ℕ). out ++ w) (ap (slot_uses strs offsets) next ∙ first_slot place (drop (i + 1) places) ∙ ap (λ (b : Bool). cond b (number_in_slot offsets place ∷ rest) rest) no))
        ∙ so

  pub slots_end : (places : List ℕ) (i : ℕ) (out all : List ℕ) → length places ≤ i → out ++ slot_uses strs offsets (drop i places) ≡ all → out ≡ all
  slots_end places i out all le so = sym (append-nil out) ∙ sym (ap (λ (w : List ℕ). out ++ w) (ap (slot_uses strs offsets) (drop_all i places le) ∙ no_slot)) ∙ so

-- ---- new numbers

module _ (number : ℕ → ℕ) where
  pub written_step : (places : List ℕ) (i m : ℕ) (out new all : List ℕ) → i < length places → m ≡ number (get_or places i 0) → new ≡ written_at (get_or places i 0) (le_bytes 4 m) out
      → with_slots number (drop i places) out ≡ all → with_slots number (drop (i + 1) places) new ≡ all
  unfolding with_slots
  written_step places i m out new all lt is written so =
      let place = get_or places i 0 in
      ap (with_slots number (drop (i + 1) places)) (written ∙ ap (λ (n : ℕ). written_at place (le_bytes 4 n) out) is)
      ∙ sym (ap (λ (w : List ℕ). with_slots number w out) (drop_here places i place (slice_get-get_or places i 0 lt)))
      ∙ so

  pub written_end : (places : List ℕ) (i : ℕ) (out all : List ℕ) → length places ≤ i → with_slots number (drop i places) out ≡ all → out ≡ all
  unfolding with_slots
  written_end places i out all le so = sym (ap (λ (w : List ℕ). with_slots number w out) (drop_all i places le)) ∙ so

pub same_len : (at : ℕ) (new old out before : List ℕ) → out ≡ written_at at new before → length before ≡ length old → length out ≡ length old
same_len at new old out before is same = ap length is ∙ written_len at new before ∙ same
