-- A plan of so few entries has so few copies that they can be numbered: in each new unit an entry has one copy at most.
use Rattle.std.proofs.Common.{◌≡◌, ℕ, suc, ◌*◌, ◌^◌, ◌<◌, ◌≤◌, false, List, [], ◌∷◌, ◌++◌, length, map, refl, sym, ap, subst, ◌∙◌, arith, inl, inr}
use Rattle.std.proofs.lemmas.List.{length-append, length-map}
use Rattle.std.proofs.lemmas.List.Sums.{sum_by-cons}
use Rattle.dwz_model.specs.Lists.{Each, In, NoneTwice}
use Rattle.dwz_model.proofs.ListFacts.{in_left}
use Rattle.dwz_model.proofs.Members.{each_of}
use Rattle.dwz_def_reading.specs.Documents.{Compile, DwUnit, Entries, Kind, OfType, Partial}
use Rattle.dwz_def_reading.specs.Trees.{End, Entry}
use Rattle.dwz_def_tops.specs.Shown.{keys, unit_keys, units_keys}
use Rattle.dwz_def_tops.proofs.ShownLemmas.{unit_key}
use Rattle.dwz_def_encoding.specs.Meant.{entry_keys}
use Rattle.dwz_def_cross.specs.Tops.{WithCommon, unless_partial, units_with_common, whole_units}
use Rattle.dwz_def_expand.specs.Source.{is_partial, source_places, source_unit}
use Rattle.dwz_def_expand.proofs.SourceLemmas.{in_whole, source_none}
use Rattle.dwz_law_expand.proofs.SiteLemmas.{key_from}
use Rattle.dwz_expand_sources.specs.Index.{listed, listed_units}
use Rattle.dwz_expand_sources.specs.Imports.{same}
use Rattle.dwz_expand_sources.specs.declared.sources.NewUnit.{NewUnit}
use Rattle.dwz_expand_sources.specs.declared.sources.SourceRange.{SourceRange}
use Rattle.dwz_expand_sources.specs.Numbers.{copy_count}
use Rattle.dwz_expand_sources.specs.Sources.{AreSources, Sources, all_entries, ranges_of}
use Rattle.dwz_expand_sources.specs.Rows.{entry_lists, unit_entries}
use Rattle.dwz_expand_sources.proofs.ForLemmas.{tests}
use Rattle.dwz_expand_sources.proofs.SourceLemmas.{place, sources_places}
use Rattle.dwz_expand_sources.proofs.StartLemmas.{many, ranges_long}

-- ---- what is among others once has no more items

record Split {X : Type 0} (x : X) (ys : List X) : Type 0 where
  front : List X
  back : List X
  whole : ys ≡ front ++ x ∷ back

split : {X : Type 0} (x : X) (ys : List X) → In x ys → Split x ys
split x [] h = absurd h
split {X} x (y ∷ ys) (inl e) = record { front = []; back = ys; whole = ap (λ (z : X). z ∷ ys) e }
split {X} x (y ∷ ys) (inr r) = (let s = split x ys r in record { front = y ∷ s.front; back = s.back; whole = ap (λ (zs : List X). y ∷ zs) s.whole })

other_in : {X : Type 0} (x k : X) (front back : List X) → (x ≡ k → ⊥) → In k (front ++ x ∷ back) → In k (front ++ back)
other_in x k [] back other (inl e) = absurd (other e)
other_in x k [] back other (inr r) = r
other_in x k (y ∷ front) back other (inl e) = inl e
other_in x k (y ∷ front) back other (inr r) = inr (other_in x k front back other r)

fewer : {X : Type 0} (xs ys : List X) → NoneTwice xs → ((k : X) → In k xs → In k ys) → length xs ≤ length ys
fewer [] ys none among = omega arith
fewer {X} (x ∷ xs) ys none among =
    let s = split x ys (among x (inl refl)) in
    let rest = fewer xs (s.front ++ s.back) none.1
    (λ k is. other_in x k s.front s.back (λ e. none.0 (subst (λ (z : X). In z xs) (sym e) is)) (subst (λ (zs : List X). In k zs) s.whole (among k (inr is)))) in
    let long = ap (λ (zs : List X). length zs) s.whole in
    omega (arith, rest, long, length-append s.front (x ∷ s.back), length-append s.front s.back)

-- ---- how many keys and units there are

keys_long : (g : Entries ℕ) → length (keys g) ≡ length (listed g)
unfolding keys listed
keys_long End = refl
keys_long (Entry d c n) = omega (arith, length-append (keys c) (keys n), length-append (listed c) (listed n), keys_long c, keys_long n)

units_long : (us : List (DwUnit ℕ)) → length (units_keys us) ≤ 2 * length (listed_units us)
unfolding units_keys unit_keys listed_units
units_long [] = omega arith
units_long (u ∷ us) =
    omega (arith, length-append (keys u.below) (units_keys us), length-append (listed u.below) (listed_units us), keys_long u.below, units_long us)

pub units_few : (us : List (DwUnit ℕ)) → length us ≤ length (listed_units us)
unfolding listed_units
units_few [] = omega arith
units_few (u ∷ us) = omega (arith, length-append (listed u.below) (listed_units us), units_few us)

whole_few : (us : List (DwUnit ℕ)) → length (whole_units us) ≤ length us
unfolding whole_units
whole_few [] = omega arith
whole_few (u ∷ us) = by u.kind (whole_few us) where
  by : (k : Kind ℕ) → length (whole_units us) ≤ length us → length (unless_partial k u (whole_units us)) ≤ suc (length us)
  by Compile le = omega (arith, le)
  by (OfType s t) le = omega (arith, le)
  by Partial le = omega (arith, le)

-- ---- copies

module _ (us : List (DwUnit ℕ)) (apart : NoneTwice (units_keys us)) where
  -- a new unit has no more than there are keys
  source_few : (u : DwUnit ℕ) → In u us → is_partial u.kind ≡ false → length (entry_keys (source_unit same us u)) ≤ length (units_keys us)
  unfolding unit_keys
  source_few u is whole =
      fewer (entry_keys (source_unit same us u)) (units_keys us) (source_none same tests us apart u is whole).1
      (λ k there. elim (key_from same tests us apart u k there) [
        | inl own ↦ unit_key us u k is (inr own)
        | inr part ↦ unit_key us part.0 k part.1.there (inr (inr part.2))
      ])

  all_few : (vs : List (DwUnit ℕ)) (n : ℕ) → n ≡ 2 ^ 30 → length (units_keys us) ≤ n → Each (λ u. In u us × (is_partial u.kind ≡ false)) vs
      → many (map (λ (u : DwUnit ℕ). entry_keys u) (map (source_unit same us) vs)) ≤ 2 ^ 30 * length vs
  all_few [] n is le h = omega arith
  all_few (v ∷ vs) n is le h =
      let one = source_few v h.0.0 h.0.1 in
      let rest = all_few vs n is le h.1 in
      let cons = sum_by-cons (λ (list : List ℕ). length list) (entry_keys (source_unit same us v)) (map (λ (u : DwUnit ℕ). entry_keys u) (map (source_unit same us) vs)) in
      omega (arith, one, rest, cons, is, le)

count_many : (ranges : List SourceRange) (xs : List NewUnit) → copy_count ranges xs ≡ many (map (unit_entries ranges) xs)
unfolding copy_count
count_many ranges [] = refl
count_many ranges (x ∷ xs) =
    let cons = sum_by-cons (λ (list : List ℕ). length list) (unit_entries ranges x) (map (unit_entries ranges) xs) in
    omega (arith, ranges_long (ranges_of ranges x), count_many ranges xs, cons)

many_mapped : (f : ℕ → ℕ) (lists : List (List ℕ)) → many (map (λ (list : List ℕ). map f list) lists) ≡ many lists
many_mapped f [] = refl
many_mapped f (list ∷ lists) =
    let one = sum_by-cons (λ (l : List ℕ). length l) (map f list) (map (λ (l : List ℕ). map f l) lists) in
    let two = sum_by-cons (λ (l : List ℕ). length l) list lists in
    omega (arith, length-map list f, many_mapped f lists, one, two)

pub copies_few : (w : WithCommon ℕ) (s : Sources) → AreSources w s → NoneTwice (units_keys (units_with_common w)) → length (all_entries w) ≤ 2 ^ 29 → length w.own ≤ 2 ^ 29
    → copy_count s.ranges s.units < 2 ^ 64
copies_few w s are apart few own =
    let us = units_with_common w in
    let keys_few : length (units_keys us) ≤ 2 ^ 30 = (let le = units_long us in omega (arith, le, few)) in
    let whole : Each (λ u. In u us × (is_partial u.kind ≡ false)) (whole_units w.own) =
    each_of (λ u. In u us × (is_partial u.kind ≡ false)) (whole_units w.own) (λ u is. (let o = in_whole w.own u is in (in_left u w.own w.common o.0, o.1))) in
    let all = all_few us apart (whole_units w.own) (2 ^ 30) refl keys_few whole in
    let same_many : copy_count s.ranges s.units ≡ many (source_places same w) =
    count_many s.ranges s.units ∙ sym (many_mapped (place w) (entry_lists s)) ∙ ap many (sources_places w s are) in
    let wholes = whole_few w.own in
    omega (arith, same_many, all, wholes, own)
