-- The place beside a number that was searched; sets whose units have their places beside where they began.
use Rattle.std.proofs.Common.{◌≡◌, ℕ, zero, suc, ◌+◌, ◌<◌, ◌≤◌, Bool, true, false, cond, eqb, List, [], ◌∷◌, ◌++◌, length, get_or, map, take, Result, Ok, IfOk, IsOkAnd, refl, sym, ap, subst, ◌∙◌, inl}
use Rattle.std.proofs.Common.{inr, arith}
use Rattle.std.specs.List.Sorted.{IsStrictlyIncreasing}
use Rattle.std.proofs.lemmas.Bool.{cases_lt, eq-eqb, eqb-true, ne_eqb}
use Rattle.std.proofs.lemmas.List.{length-map, map-append, take_all, take_more}
use Rattle.std.proofs.lemmas.List.Kept.{AllPairs-from_increasing}
use Rattle.dwz_model.specs.declared.fault.Fault.{Fault}
use Rattle.dwz_def_reading.specs.Input.{input}
use Rattle.dwz_def_reading.specs.Lists.{In}
use Rattle.dwz_def_reading.specs.Patching.{with_units}
use Rattle.dwz_def_reading.specs.Ranges.{RangeSet, SpellsSets, sets_at}
use Rattle.dwz_def_reading.proofs.RangeLemmas.{sets_agree}
use Rattle.dwz_aranges.specs.Patching.{IsPatched}
use Rattle.dwz_aranges.specs.Views.{any_unit, set_view, set_views}
use Rattle.dwz_aranges.specs.declared.sets.Set.{Set}
use Rattle.dwz_aranges.proofs.PatchedMeans.{of_any}
use Rattle.dwz_encode_sections.specs.Ranges.{AreMoved, beside}

-- ---- beside a number

beside_first : (starts places : List ℕ) (i n : ℕ) → i < length starts → get_or starts i 0 ≡ n → ((k : ℕ) → k < i → get_or starts k 0 ≡ n → ⊥) → beside starts places n ≡ get_or places i 0
unfolding beside
beside_first [] places i n lt at before = absurd (omega (arith, lt))
beside_first (s ∷ starts) [] i n lt at before = refl
beside_first (s ∷ starts) (p ∷ places) zero n lt at before = ap (λ (b : Bool). cond b p (beside starts places n)) (eq-eqb s n at)
beside_first (s ∷ starts) (p ∷ places) (suc i) n lt at before =
    ap (λ (b : Bool). cond b p (beside starts places n)) (ne_eqb s n (before 0 (omega arith)))
    ∙ beside_first starts places i n (omega (arith, lt)) at (λ k less. before (suc k) (omega (arith, less)))

beside_none : (starts places : List ℕ) (n : ℕ) → ((k : ℕ) → k < length starts → get_or starts k 0 ≡ n → ⊥) → beside starts places n ≡ 0
unfolding beside
beside_none [] places n none = refl
beside_none (s ∷ starts) [] n none = refl
beside_none (s ∷ starts) (p ∷ places) n none =
    ap (λ (b : Bool). cond b p (beside starts places n)) (ne_eqb s n (none 0 (omega arith)))
    ∙ beside_none starts places n (λ k less. none (suc k) (omega (arith, less)))

pub found_beside : (starts places : List ℕ) (i n : ℕ) → IsStrictlyIncreasing starts → i < length starts → get_or starts i 0 ≡ n → get_or places i 0 ≡ beside starts places n
found_beside starts places i n rises lt at =
    sym (beside_first starts places i n lt at (λ k less same. (let pair = AllPairs-from_increasing starts rises k i 0 less lt in omega (arith, pair, same, at))))

pub none_beside : (starts places : List ℕ) (i n : ℕ) → ((k : ℕ) → k < i → get_or starts k 0 < n) → ((k : ℕ) → i ≤ k → k < length starts → n < get_or starts k 0) → 0 ≡ beside starts places n
none_beside starts places i n below above =
    sym (beside_none starts places n (λ k lt same. elim (cases_lt k i) [
      | inl less ↦ (let low = below k less in omega (arith, low, same))
      | inr more ↦
          (let high = above k more lt in omega (arith, high, same))
    ]))

beside_own : (place : ℕ → ℕ) (starts : List ℕ) (n : ℕ) → In n starts → beside starts (map place starts) n ≡ place n
unfolding beside
beside_own place [] n there = absurd there
beside_own place (s ∷ starts) n there = by (λ later. beside_own place starts n later) (eqb s n) refl there where
  by : (In n starts → beside starts (map place starts) n ≡ place n) → (b : Bool) → eqb s n ≡ b → In n (s ∷ starts) → cond b (place s) (beside starts (map place starts) n) ≡ place n
  by more true e is = ap place (eqb-true s n e)
  by more false e (inl same) = (let no : false ≡ true = sym e ∙ eq-eqb s n same in cc)
  by more false e (inr later) = more later

-- ---- the numbers of sets

pub numbers_more : (f : Set → ℕ) (sets : List Set) (i : ℕ) (d : Set) (numbers new : List ℕ) → i < length sets → numbers ≡ map f (take i sets) → new ≡ numbers ++ f (get_or sets i d) ∷ []
    → new ≡ map f (take (i + 1) sets)
numbers_more f sets i d numbers new lt so is =
    is ∙ ap (λ (w : List ℕ). w ++ f (get_or sets i d) ∷ []) so ∙ sym (map-append f (take i sets) (get_or sets i d ∷ [])) ∙ sym (ap (map f) (take_more sets i d lt))

pub numbers_all : (f : Set → ℕ) (sets : List Set) (i : ℕ) (numbers : List ℕ) → length sets ≤ i → numbers ≡ map f (take i sets) → numbers ≡ map f sets
numbers_all f sets i numbers le so = so ∙ ap (map f) (take_all i sets le)

map_views : (starts places : List ℕ) (sets : List Set) → map (λ (s : Set). beside starts places s.unit) sets ≡ map (λ (s : RangeSet). beside starts places s.unit) (set_views sets)
map_views starts places [] = refl
map_views starts places (s ∷ sets) = ap (λ (w : List ℕ). beside starts places s.unit ∷ w) (map_views starts places sets)

pub as_many_sets : (starts places section numbers : List ℕ) (sets : List Set) → sets_at any_unit (input section 0) ≡ Ok (set_views sets) → numbers ≡ map
    (λ (s : Set). beside starts places s.unit) sets
    → IsOkAnd (sets_at any_unit (input section 0)) (λ found. length found ≡ length numbers)
as_many_sets starts places section numbers sets read are =
    subst (λ (r : Result (List RangeSet) Fault). IsOkAnd r (λ found. length found ≡ length numbers)) (sym read)
    (length-map sets set_view ∙ sym (length-map sets (λ (s : Set). beside starts places s.unit)) ∙ sym (ap length are))

pub moved_sets : (starts places section numbers new : List ℕ) (sets : List Set) → sets_at any_unit (input section 0) ≡ Ok (set_views sets) → numbers ≡ map
    (λ (s : Set). beside starts places s.unit) sets → IsPatched section numbers new → AreMoved starts places section new
moved_sets starts places section numbers new sets read are is =
    let whole = subst (λ (r : Result (List RangeSet) Fault). IfOk r (λ found. new ≡ with_units found numbers section)) read is in
    subst (λ (r : Result (List RangeSet) Fault). IfOk r (λ found. new ≡ with_units found (map (λ (s : RangeSet). beside starts places s.unit) found) section)) (sym read)
    (whole ∙ ap (λ (w : List ℕ). with_units (set_views sets) w section) (are ∙ map_views starts places sets))

-- what stands for a set where there is none
abbrev pub no_set : Set
no_set = record { at = 0; unit = 0 }

-- ---- the sets of a file

own_places : (is_unit : ℕ → Bool) (place : ℕ → ℕ) (starts : List ℕ) → ((n : ℕ) → is_unit n ≡ true → In n starts) → (sets : List RangeSet) (start : ℕ) (bytes : List ℕ)
    → SpellsSets is_unit sets start bytes
    → map (λ (s : RangeSet). beside starts (map place starts) s.unit) sets ≡ map (λ (s : RangeSet). place s.unit) sets
own_places is_unit place starts known [] start bytes s = refl
own_places is_unit place starts known (set ∷ sets) start bytes s =
    let unit : is_unit set.unit ≡ true = ap is_unit s.first.unit ∙ s.first.known in
    let own = beside_own place starts set.unit (known set.unit unit) in
    let rest = own_places is_unit place starts known sets (start + length s.first_bytes) s.second_bytes s.second in
    (λ i. own i ∷ rest i)

pub ranges_law : (is_unit : ℕ → Bool) (place : ℕ → ℕ) (starts section new : List ℕ) (sets : List RangeSet) → SpellsSets is_unit sets 0 section → ((n : ℕ) → is_unit n ≡ true → In n starts)
    → AreMoved starts (map place starts) section new → new ≡ with_units sets (map (λ (s : RangeSet). place s.unit) sets) section
ranges_law is_unit place starts section new sets s known moved =
    let read : sets_at any_unit (input section 0) ≡ Ok sets = ((sets_agree any_unit (input section 0)).ok sets).1 (of_any is_unit sets 0 section s) in
    subst (λ (r : Result (List RangeSet) Fault). IfOk r (λ found. new ≡ with_units found (map (λ (s : RangeSet). beside starts (map place starts) s.unit) found) section)) read moved
    ∙ ap (λ (w : List ℕ). with_units sets w section) (own_places is_unit place starts known sets 0 section s)
