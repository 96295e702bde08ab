-- Contributions one after the other: what is left decides the rest.
use Rattle.std.proofs.Common.{◌≡◌, ℕ, zero, suc, ◌+◌, ◌-◌, ◌*◌, ◌<◌, ◌≤◌, Bool, true, false, cond, List, [], ◌∷◌, ◌++◌, length, drop, Option, Some, None, refl, sym, ap, ◌∙◌, arith, append_assoc}
use Rattle.std.proofs.Common.{append-nil, length-drop}
use Rattle.std.specs.Option.{option_map}
use Rattle.std.proofs.lemmas.List.{drop-drop, drop_all}
use Rattle.dwz_def_reading.specs.OffsetTables.{count_at, counts_in, is_contribution, places_from, slot_places, slots_in}
use Rattle.dwz_def_reading.proofs.OffsetLemmas.{counts_end, counts_step, whole}

-- ---- places

pub one_place : (start count i at : ℕ) (old new all : List ℕ) → i < count → at ≡ start + 4 * i → new ≡ old ++ at ∷ [] → old ++ places_from (start + 4 * i) (count - i) ≡ all
    → new ++ places_from (start + 4 * (i + 1)) (count - (i + 1)) ≡ all
one_place start count i at old new all lt is_at is so_far =
    let left : count - i ≡ suc (count - (i + 1)) = omega (arith, lt) in
    let next : start + 4 * i + 4 ≡ start + 4 * (i + 1) = omega arith in
    let parts : places_from (start + 4 * i) (count - i) ≡ at ∷ places_from (start + 4 * (i + 1)) (count - (i + 1)) =
    ap (places_from (start + 4 * i)) left ∙ (λ j. sym is_at j ∷ places_from (next j) (count - (i + 1))) in
    rw (is, append_assoc) (ap (λ (w : List ℕ). old ++ w) (sym parts) ∙ so_far)

pub all_places : (start count i : ℕ) (old all : List ℕ) → count ≤ i → old ++ places_from (start + 4 * i) (count - i) ≡ all → old ≡ all
all_places start count i old all le so_far =
    let none : count - i ≡ 0 = omega (arith, le) in
    sym (append-nil old) ∙ ap (λ (n : ℕ). old ++ places_from (start + 4 * i) n) (sym none) ∙ so_far

-- ---- contributions

-- with what is left the places so far make the answer
pub record SlotsSoFar (section : List ℕ) (at : ℕ) (places : List ℕ) : Type 0 where
  pub within : at ≤ length section
  pub most : ℕ
  pub enough : length section ≤ at + most
  pub answer : option_map (λ (counts : List ℕ). places ++ slot_places at counts) (counts_in most (drop at section)) ≡ slots_in section

same_map : {A B : Type 0} (f g : A → B) → ((x : A) → f x ≡ g x) → (o : Option A) → option_map f o ≡ option_map g o
same_map f g same None = refl
same_map f g same (Some x) = ap (λ y. Some y) (same x)

pub no_slots_yet : (section : List ℕ) → SlotsSoFar section 0 []
no_slots_yet section = record {
  within = omega arith;
  most = length section;
  enough = omega arith;
  answer = refl;
}

module _ (section : List ℕ) (at : ℕ) (places : List ℕ) (so_far : SlotsSoFar section at places) where
  pub no_more : length section ≤ at → Some places ≡ slots_in section
  no_more le =
      let none : drop at section ≡ [] = drop_all at section le in
      ap (λ (w : List ℕ). Some w) (sym (append-nil places))
      ∙ ap (option_map (λ (counts : List ℕ). places ++ slot_places at counts)) (sym (ap (counts_in so_far.most) none ∙ counts_end so_far.most))
      ∙ so_far.answer

  left : at < length section → 0 < length (drop at section)
  left lt = omega (arith, lt, length-drop at section)

  pub not_a_row : at < length section → is_contribution (drop at section) ≡ false → None ≡ slots_in section
  not_a_row lt e = go so_far.most so_far.enough so_far.answer where
    go : (most : ℕ) → length section ≤ at + most → option_map (λ (counts : List ℕ). places ++ slot_places at counts) (counts_in most (drop at section)) ≡ slots_in section → None ≡ slots_in section
    go zero enough answer = absurd (omega (arith, enough, lt))
    go (suc most) enough answer =
        ap (option_map (λ (counts : List ℕ). places ++ slot_places at counts))
        (sym (counts_step most (drop at section) (left lt)
        ∙ ap (λ (b : Bool). cond b (option_map (λ (counts : List ℕ). count_at (drop at section) ∷ counts) (counts_in most (drop (8 + 4 * count_at (drop at section)) (drop at section)))) None) e))
        ∙ answer

  pub fits : is_contribution (drop at section) ≡ true → at + (8 + 4 * count_at (drop at section)) ≤ length section
  fits e = let w = whole (drop at section) e in omega (arith, w.size, w.fits, w.long, so_far.within, length-drop at section)

  joined_rows : (end : ℕ) (new : List ℕ) → end ≡ at + (8 + 4 * count_at (drop at section)) → new ≡ places ++ places_from (at + 8) (count_at (drop at section)) → (o : Option (List ℕ))
      → option_map (λ (counts : List ℕ). new ++ slot_places end counts) o ≡ option_map (λ (counts : List ℕ). places ++ slot_places at counts)
      (option_map (λ (counts : List ℕ). count_at (drop at section) ∷ counts) o)
  joined_rows end new is_end is_new None = refl
  joined_rows end new is_end is_new (Some counts) =
      ap (λ (w : List ℕ). Some w) ((λ j. is_new j ++ slot_places (is_end j) counts) ∙ append_assoc places (places_from (at + 8) (count_at (drop at section)))
      (slot_places (at + (8 + 4 * count_at (drop at section))) counts))

  pub next_row : (end : ℕ) (new : List ℕ) → at < length section → is_contribution (drop at section) ≡ true → end ≡ at + (8 + 4 * count_at (drop at section))
      → new ≡ places ++ places_from (at + 8) (count_at (drop at section)) → SlotsSoFar section end new
  next_row end new lt e is_end is_new = go so_far.most so_far.enough so_far.answer where
    go : (most : ℕ) → length section ≤ at + most → option_map (λ (counts : List ℕ). places ++ slot_places at counts) (counts_in most (drop at section)) ≡ slots_in section → SlotsSoFar section end new
    go zero enough answer = absurd (omega (arith, enough, lt))
    go (suc most) enough answer =
        let count = count_at (drop at section) in
        let behind : drop (8 + 4 * count) (drop at section) ≡ drop end section = drop-drop (8 + 4 * count) at section ∙ ap (λ (n : ℕ). drop n section) (sym is_end) in
        let step : counts_in (suc most) (drop at section) ≡ option_map (λ (counts : List ℕ). count ∷ counts) (counts_in most (drop end section)) =
        counts_step most (drop at section) (left lt)
        ∙ ap (λ (b : Bool). cond b (option_map (λ (counts : List ℕ). count ∷ counts) (counts_in most (drop (8 + 4 * count) (drop at section)))) None) e
        ∙ ap (λ (w : List ℕ). option_map (λ (counts : List ℕ). count ∷ counts) (counts_in most w)) behind in
        let joined : (o : Option (List ℕ)) → option_map (λ (counts : List ℕ). new ++ slot_places end counts) o
        ≡ option_map (λ (counts : List ℕ). places ++ slot_places at counts) (option_map (λ (counts : List ℕ). count ∷ counts) o) = joined_rows end new is_end is_new in
        record {
          within = omega (arith, is_end, fits e);
          most = most;
          enough = omega (arith, is_end, enough);
          answer = joined (counts_in most (drop end section)) ∙ ap (option_map (λ (counts : List ℕ). places ++ slot_places at counts)) (sym step) ∙ answer;
        }
