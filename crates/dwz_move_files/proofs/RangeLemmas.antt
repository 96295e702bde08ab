-- The tops of a unit stand one behind the other.
use Rattle.std.proofs.Common.{◌≡◌, ◌≢◌, ℕ, zero, suc, ◌+◌, ◌-◌, ◌<◌, ◌≤◌, Bool, true, false, List, [], ◌∷◌, length, drop, Option, Some, None, slice_get, refl, sym, ap, subst, ◌∙◌}
use Rattle.std.proofs.Common.{⊎_elim, arith}
use Rattle.std.proofs.lemmas.List.{length-drop}
use Rattle.std.specs.Prelude.{◌↔◌, ◌==◌, ◌&&◌, nat_lt, not}
use Rattle.std.proofs.lemmas.Bool.{cases_lt, eq-eqb, eqb-true, false≢true, le-ltb, lt-ltb, ne_eqb}
use Rattle.dwz_def_reading.proofs.ListFacts.{got_below, got_there, same_got}
use Rattle.dwz_def_tops.specs.Alike.{is_number, unit_in}
use Rattle.dwz_def_tops.specs.Spots.{Top}
use Rattle.dwz_graph.specs.declared.index.TopEntry.{TopEntry}
use Rattle.dwz_move.specs.Bound.{HasTops}
use Rattle.dwz_move_files.specs.Ranges.{Continues, HaveUnits}

-- ---- what a number's unit is

-- the tops from that number on
abbrev Numbered : ℕ → List Top → Type 0
Numbered n tops = (k : ℕ) (t : Top) → slice_get tops k ≡ Some t → t.number ≡ n + k

unit_at : (n : ℕ) (tops : List Top) → Numbered n tops → (k : ℕ) (t : Top) → slice_get tops k ≡ Some t → unit_in tops (n + k) ≡ Some t.unit
unfolding unit_in
unit_at n [] h k t e = absurd cc
unit_at n (x ∷ tops) h zero t e =
    let same : x ≡ t = cc in
    let number = h 0 x refl in
    ap (λ (b : Bool). elim b as (λ _. Option ℕ) [ true ↦ Some x.unit | false ↦ unit_in tops (n + 0) ]) (eq-eqb x.number (n + 0) number) ∙ ap (λ (w : Top). Some w.unit) same
unit_at n (x ∷ tops) h (suc k) t e =
    let number = h 0 x refl in
    let other : x.number ≡ n + suc k → ⊥ = λ q. omega (arith, q, number) in
    let z : n + suc k ≡ suc n + k = omega arith in
    ap (λ (b : Bool). elim b as (λ _. Option ℕ) [ true ↦ Some x.unit | false ↦ unit_in tops (n + suc k) ]) (ne_eqb x.number (n + suc k) other)
    ∙ ap (unit_in tops) z
    ∙ unit_at (suc n) tops (λ j u q. (let m = h (suc j) u q in omega (arith, m))) k t e

none_behind : (n : ℕ) (tops : List Top) → Numbered n tops → (m : ℕ) → n + length tops ≤ m → unit_in tops m ≡ None
unfolding unit_in
none_behind n [] h m le = refl
none_behind n (x ∷ tops) h m le =
    let number = h 0 x refl in
    let other : x.number ≡ m → ⊥ = λ q. omega (arith, q, number, le) in
    ap (λ (b : Bool). elim b as (λ _. Option ℕ) [ true ↦ Some x.unit | false ↦ unit_in tops m ]) (ne_eqb x.number m other)
    ∙ none_behind (suc n) tops (λ j u q. (let k = h (suc j) u q in omega (arith, k))) m (omega arith)

-- ---- tests of numbers

not_lt : (m n : ℕ) → n ≤ m → nat_lt m n ≡ false
not_lt m n le = le-ltb m n le

in_range : (f e n : ℕ) → f ≤ n → n < e → (not (nat_lt n f) && nat_lt n e) ≡ true
in_range f e n low high = (λ i. not (not_lt n f low i) && lt-ltb n e high i)

below_range : (f e n : ℕ) → n < f → (not (nat_lt n f) && nat_lt n e) ≡ false
below_range f e n lt = (λ i. not (lt-ltb n f lt i) && nat_lt n e)

behind_range : (f e n : ℕ) → f ≤ n → e ≤ n → (not (nat_lt n f) && nat_lt n e) ≡ false
behind_range f e n low le = (λ i. not (not_lt n f low i) && not_lt n e le i)

-- ---- of the unit of the one before it

pub none_before : (tops : List TopEntry) (i : ℕ) (x : TopEntry) → i ≡ 0 → (false ≡ true) ↔ Continues tops i x
none_before tops i x z = (λ e. absurd (false≢true e), λ h. absurd (let at = h.2 in omega arith))

get_drop : {X : Type 0} (i k : ℕ) (xs : List X) → slice_get (drop i xs) k ≡ slice_get xs (i + k)
get_drop {X} zero k xs = (let z : k ≡ 0 + k = omega arith in ap (slice_get xs) z)
get_drop {X} (suc i) k [] = refl
get_drop {X} (suc i) k (x ∷ xs) = get_drop i k xs ∙ (let z : suc (i + k) ≡ suc i + k = omega arith in ap (slice_get (x ∷ xs)) z)

pub one_before : (tops : List TopEntry) (i : ℕ) (x a b : TopEntry) (r : Bool) → 0 < i → slice_get tops (i - 1) ≡ Some a → slice_get tops i ≡ Some b → r ≡ (a.unit == b.unit) → slice_get tops i ≡ Some x
    → (r ≡ true) ↔ Continues tops i x
one_before tops i x a b r lt p here e got =
    let same : b ≡ x = same_got tops i b x here got in
    let at : suc (i - 1) ≡ i = omega arith in (
      λ q. (i - 1, a, at, p, eqb-true a.unit b.unit (sym e ∙ q) ∙ ap (λ (w : TopEntry). w.unit) same),
      λ h. (
          let back : h.0 ≡ i - 1 = (let z = h.2 in omega arith) in
          let one : h.1 ≡ a = same_got tops (i - 1) h.1 a (subst (λ (k : ℕ). slice_get tops k ≡ Some h.1) back h.3) p in
          e ∙ eq-eqb a.unit b.unit (ap (λ (w : TopEntry). w.unit) (sym one) ∙ h.4 ∙ ap (λ (w : TopEntry). w.unit) (sym same))),
    )

-- ---- the range

module _ (all : List Top) (first : ℕ) (tops : List TopEntry) (h : HaveUnits all first tops) (i : ℕ) (x : TopEntry) (got : slice_get tops i ≡ Some x) where
  number : (n : ℕ) (t : Top) → slice_get all n ≡ Some t → unit_in all n ≡ Some t.unit
  number n t e = let z : 0 + n ≡ n = omega arith in subst (λ (k : ℕ). unit_in all k ≡ Some t.unit) z (unit_at 0 all (λ k u q. (let m = h.numbered k u q in omega (arith, m))) n t e)

  is_unit : (n : ℕ) (t : Top) → slice_get all n ≡ Some t → t.unit ≡ x.unit → is_number (unit_in all n) x.unit ≡ true
  is_unit n t e q = ap (λ (o : Option ℕ). is_number o x.unit) (number n t e) ∙ eq-eqb t.unit x.unit q

  no_unit : (n : ℕ) (t : Top) → slice_get all n ≡ Some t → t.unit ≢ x.unit → is_number (unit_in all n) x.unit ≡ false
  no_unit n t e q = ap (λ (o : Option ℕ). is_number o x.unit) (number n t e) ∙ ne_eqb t.unit x.unit q

  none_there : (n : ℕ) → length all ≤ n → is_number (unit_in all n) x.unit ≡ false
  none_there n le = ap (λ (o : Option ℕ). is_number o x.unit) (none_behind 0 all (λ k u q. (let m = h.numbered k u q in omega (arith, m))) n (omega arith))

  -- the top of all with the number of one of these
  top_of : (k : ℕ) (y : TopEntry) → slice_get tops k ≡ Some y → (t : Top) × (slice_get all (first + k) ≡ Some t) × (t.unit ≡ y.unit)
  top_of k y e =
      let lt = got_below tops k y e in
      let within = h.within in
      let t = got_there all (first + k) (omega arith) in
      (t.0, t.1, h.there k y t.0 e t.1)

  -- it is the first of its unit
  abbrev pub IsFirst : Type 0
  IsFirst = (j : ℕ) (y : TopEntry) → suc j ≡ i → slice_get tops j ≡ Some y → y.unit ≢ x.unit

  -- so many from it on are of its unit
  pub record IsRun (run : ℕ) : Type 0 where
    pub some : 0 < run
    pub within : i + run ≤ length tops
    pub same : (k : ℕ) (y : TopEntry) → k < run → slice_get tops (i + k) ≡ Some y → y.unit ≡ x.unit
    pub next : (y : TopEntry) → slice_get tops (i + run) ≡ Some y → y.unit ≢ x.unit

  before_it : IsFirst → (n : ℕ) (s : Top) → n < first + i → slice_get all n ≡ Some s → s.unit ≢ x.unit
  before_it is n s lt e q = ⊎_elim
      (λ low. h.before n i s x low e got q)
      (λ high. (
      let k = n - first in
      let at = got_below tops i x got in
      let y = got_there tops (i - 1) (omega arith) in
      let one : suc (i - 1) ≡ i = omega arith in
      let t = top_of (i - 1) y.0 y.1 in
      let here = top_of i x got in
      let up = h.rise n (first + (i - 1)) s t.0 (omega arith) e t.1 in
      let over = h.rise (first + (i - 1)) (first + i) t.0 here.0 (omega arith) t.1 here.1 in
      let a = t.2 in
      let b = here.2 in
      let same : y.0.unit ≡ x.unit = omega arith in
      is (i - 1) y.0 one y.1 same))
      (cases_lt n first)

  behind_it : (run : ℕ) → IsRun run → (n : ℕ) (s : Top) → first + i + run ≤ n → slice_get all n ≡ Some s → s.unit ≢ x.unit
  behind_it run r n s le e q = ⊎_elim
      (λ low. (
      let within = r.within in
      let y = got_there tops (i + run) (omega arith) in
      let t = top_of (i + run) y.0 y.1 in
      let here = top_of i x got in
      let up = h.rise (first + i) (first + (i + run)) here.0 t.0 (omega arith) here.1 t.1 in
      let over = h.rise (first + (i + run)) n t.0 s (omega arith) t.1 e in
      let a = t.2 in
      let b = here.2 in
      let same : y.0.unit ≡ x.unit = omega arith in
      r.next y.0 y.1 same))
      (λ high. h.behind n i s x high e got q)
      (cases_lt n (first + length tops))

  -- what stands from it on
  pub run_is : (part : List TopEntry) (unit run : ℕ) → part ≡ drop i tops → unit ≡ x.unit → run ≤ length part → ((k : ℕ) (y : TopEntry) → k < run → slice_get part k ≡ Some y → y.unit ≡ unit)
      → ((y : TopEntry) → slice_get part run ≡ Some y → y.unit ≢ unit) → IsRun run
  run_is part unit run part_is unit_is within same next =
      let at : (k : ℕ) (y : TopEntry) → slice_get tops (i + k) ≡ Some y → slice_get part k ≡ Some y = (λ k y e. ap (λ (w : List TopEntry). slice_get w k) part_is ∙ get_drop i k tops ∙ e) in
      let long = ap (λ (w : List TopEntry). length w) part_is in
      let lt = got_below tops i x got in
      record {
        some = by run next (let z : i + 0 ≡ i = omega arith in at 0 x (ap (slice_get tops) z ∙ got));
        within = omega (arith, length-drop i tops);
        same = λ k y less e. same k y less (at k y e) ∙ unit_is;
        next = λ y e q. next y (at run y e) (q ∙ sym unit_is);
      }
    where
      by : (n : ℕ) → ((y : TopEntry) → slice_get part n ≡ Some y → y.unit ≢ unit) → slice_get part 0 ≡ Some x → 0 < n
      by zero h e = absurd (h x e (sym unit_is))
      by (suc n) h e = omega arith

  pub first_here : (Continues tops i x → ⊥) → IsFirst
  first_here none j y at e same = none (j, y, at, e, same)

  pub range_is : (run : ℕ) → IsFirst → IsRun run → HasTops all x.unit (record { first = first + i; end = first + (i + run) })
  range_is run is r n = ⊎_elim below (λ ge. ⊎_elim (inside ge) (behind ge) (cases_lt n (first + (i + run)))) (cases_lt n (first + i)) where
    below : n < first + i → is_number (unit_in all n) x.unit ≡ (not (nat_lt n (first + i)) && nat_lt n (first + (i + run)))
    below lt =
        let at = got_below tops i x got in
        let within = h.within in
        let s = got_there all n (omega arith) in
        no_unit n s.0 s.1 (before_it is n s.0 lt s.1) ∙ sym (below_range (first + i) (first + (i + run)) n lt)

    inside : first + i ≤ n → n < first + (i + run) → is_number (unit_in all n) x.unit ≡ (not (nat_lt n (first + i)) && nat_lt n (first + (i + run)))
    inside ge lt =
        let within = r.within in
        let k = n - (first + i) in
        let y = got_there tops (i + (n - (first + i))) (omega arith) in
        let t = top_of (i + (n - (first + i))) y.0 y.1 in
        let at : first + (i + (n - (first + i))) ≡ n = omega arith in
        let here : slice_get all n ≡ Some t.0 = subst (λ (j : ℕ). slice_get all j ≡ Some t.0) at t.1 in
        is_unit n t.0 here (t.2 ∙ r.same (n - (first + i)) y.0 (omega arith) y.1) ∙ sym (in_range (first + i) (first + (i + run)) n ge lt)

    behind : first + i ≤ n → first + (i + run) ≤ n → is_number (unit_in all n) x.unit ≡ (not (nat_lt n (first + i)) && nat_lt n (first + (i + run)))
    behind ge le = ⊎_elim
        (λ lt. (let s = got_there all n lt in no_unit n s.0 s.1 (behind_it run r n s.0 (omega arith) s.1)))
        (λ out. none_there n out)
        (cases_lt n (length all))
        ∙ sym (behind_range (first + i) (first + (i + run)) n ge le)
