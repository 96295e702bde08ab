-- A space of a unit, by its number among all spaces, stands in the unit.
use Rattle.std.proofs.Common.{◌≡◌, ℕ, zero, suc, ◌+◌, ◌-◌, ◌<◌, List, [], ◌∷◌, ◌++◌, length, Some, slice_get, inl, inr, refl, sym, ap, subst, ◌∙◌, arith}
use Rattle.dwz_def_reading.specs.Lists.{In}
use Rattle.dwz_def_reading.proofs.ListFacts.{get_first}
use Rattle.dwz_def_reading.specs.Documents.{Node}
use Rattle.dwz_def_tops.specs.Lists.{Nth}
use Rattle.dwz_def_tops.specs.Spots.{EntryName, FileUnit}
use Rattle.dwz_graph.proofs.TopLemmas.{get_later}
use Rattle.dwz_layout_order.specs.Spaces.{spaces_below, spaces_of}
use Rattle.dwz_law_layout.specs.Old.{SpaceLaw}
use Rattle.dwz_law_layout.proofs.SpaceRows.{spaces_parted}

got : {X : Type 0} (xs : List X) (k : ℕ) → k < length xs → (x : X) × (slice_get xs k ≡ Some x) × In x xs
got [] k lt = absurd (omega arith)
got (x ∷ xs) zero lt = (x, refl, inl refl)
got (x ∷ xs) (suc k) lt = (let r = got xs k (omega arith) in (r.0, r.1, inr r.2))

nth_behind : {X : Type 0} (s : ℕ) (before : List X) (x : X) (after : List X) → Nth s (before ++ x ∷ after) (s + length before) x
nth_behind s [] x after = inl (omega arith, refl)
nth_behind {X} s (y ∷ before) x after =
    let next : suc s + length before ≡ s + suc (length before) = omega arith in
    inr (subst (λ (n : ℕ). Nth (suc s) (before ++ x ∷ after) n x) next (nth_behind (suc s) before x after))

pub space_stands : SpaceLaw
space_stands units i s is =
    let f = is.unit in
    let own = spaces_below f.unit.kind f.unit.below in
    let low = is.space.low in
    let high = is.space.high in
    let first = length (spaces_of is.before) in
    let r = got own (s - first) (omega arith) in
    let number : first + (s - first) ≡ s = omega arith in
    let place : 0 + length is.before ≡ i = omega (arith, is.number) in
    let there : slice_get (spaces_of is.before ++ (own ++ spaces_of is.after)) (first + (s - first)) ≡ Some r.0 =
    get_later (spaces_of is.before) (own ++ spaces_of is.after) (s - first) r.0 (get_first own (spaces_of is.after) (s - first) r.0 r.1) in
    let nth : Nth 0 (is.before ++ f ∷ is.after) i f = subst (λ (n : ℕ). Nth 0 (is.before ++ f ∷ is.after) n f) place (nth_behind 0 is.before f is.after) in
    record {
      unit = f;
      nth = subst (λ (w : List (FileUnit EntryName)). Nth 0 w i f) (sym is.units_are) nth;
      node = r.0;
      found = ap (λ (n : ℕ). slice_get (spaces_of units) n) (sym number)
          ∙ ap (λ (w : List (Node EntryName)). slice_get w (first + (s - first))) (ap spaces_of is.units_are ∙ spaces_parted is.before f is.after)
          ∙ there;
      below = r.2;
    }
