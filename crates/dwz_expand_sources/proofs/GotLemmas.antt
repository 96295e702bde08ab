-- What stands in a list at the numbers of a unit's sources is what its root and its ranges have.
use Rattle.std.proofs.Common.{◌≡◌, ℕ, zero, suc, ◌+◌, ◌-◌, ◌≤◌, List, [], ◌∷◌, ◌++◌, drop, length, slice_get, take, Some, sym, subst, arith}
use Rattle.std.specs.List.{flat_map, range_with_len}
use Rattle.std.proofs.lemmas.List.Concat.{flat_map-cons}
use Rattle.dwz_def_cross.specs.CrossSame.{EachTwo}
use Rattle.dwz_model.proofs.ListFacts.{drop_here, got_there}
use Rattle.dwz_model.specs.Lists.{Each}
use Rattle.dwz_expand_sources.specs.declared.sources.NewUnit.{NewUnit}
use Rattle.dwz_expand_sources.specs.declared.sources.SourceRange.{SourceRange}
use Rattle.dwz_expand_sources.specs.Sources.{IsRange, in_range, ranges_of}
use Rattle.dwz_expand_sources.specs.Walk.{between, sources_of}

module _ {X : Type 0} (all : List X) where
  abbrev pub IsAt : ℕ → X → Type 0
  IsAt i x = slice_get all i ≡ Some x

  both : (is js : List ℕ) (xs ys : List X) → EachTwo IsAt is xs → EachTwo IsAt js ys → EachTwo IsAt (is ++ js) (xs ++ ys)
  both [] js [] ys a b = b
  both [] js (x ∷ xs) ys a b = absurd a
  both (i ∷ is) js [] ys a b = absurd a
  both (i ∷ is) js (x ∷ xs) ys a b = (a.0, both is js xs ys a.1 b)

  run_got : (a n : ℕ) → a + n ≤ length all → EachTwo IsAt (range_with_len a n) (take n (drop a all))
  run_got a zero le = tt
  run_got a (suc n) le =
      let got = got_there all a (omega (arith, le)) in
      subst (λ (xs : List X). EachTwo IsAt (range_with_len a (suc n)) (take (suc n) xs)) (sym (drop_here all a got.0 got.1)) (got.1, run_got (a + 1) n (omega (arith, le)))

  range_got : (r : SourceRange) → IsRange (length all) r → EachTwo IsAt (between r.first r.end) (in_range all r)
  range_got r is = (let some = is.some in let within = is.within in run_got r.first (r.end - r.first) (omega (arith, some, within)))

  pub ranges_got : (rs : List SourceRange) → Each (IsRange (length all)) rs → EachTwo IsAt (flat_map (λ r. between r.first r.end) rs) (flat_map (in_range all) rs)
  ranges_got [] are = tt
  ranges_got (r ∷ rs) are =
      let rest = both (between r.first r.end) (flat_map (λ x. between x.first x.end) rs) (in_range all r) (flat_map (in_range all) rs) (range_got r are.0) (ranges_got rs are.1) in
      subst (λ (is : List ℕ). EachTwo IsAt is (flat_map (in_range all) (r ∷ rs))) (sym (flat_map-cons (λ (x : SourceRange). between x.first x.end) r rs))
      (subst (λ (xs : List X). EachTwo IsAt (between r.first r.end ++ flat_map (λ x. between x.first x.end) rs) xs) (sym (flat_map-cons (in_range all) r rs)) rest)

  -- of a new unit
  pub sources_got : (ranges : List SourceRange) (x : NewUnit) (root : X) → slice_get all x.root ≡ Some root → Each (IsRange (length all)) (ranges_of ranges x)
      → EachTwo IsAt (sources_of ranges x) (root ∷ flat_map (in_range all) (ranges_of ranges x))
  sources_got ranges x root is are = (is, ranges_got (ranges_of ranges x) are)

  -- what is so of each number and of what stands there is so of all, one by one
  pub each_there : {Y : Type 0} (T : Y → X → Type 0) (is : List ℕ) (ys : List Y) (xs : List X) → EachTwo IsAt is xs → EachTwo (λ i y. (x : X) → slice_get all i ≡ Some x → T y x) is ys
      → EachTwo T ys xs
  each_there T [] [] [] at are = tt
  each_there T [] [] (x ∷ xs) at are = absurd at
  each_there T [] (y ∷ ys) xs at are = absurd are
  each_there T (i ∷ is) [] xs at are = absurd are
  each_there T (i ∷ is) (y ∷ ys) [] at are = absurd at
  each_there T (i ∷ is) (y ∷ ys) (x ∷ xs) at are = (are.0 x at.0, each_there T is ys xs at.1 are.1)
