-- Of which unit the entry at a place of a common file is, by its name.
use Rattle.std.proofs.Common.{◌≡◌, ◌↔◌, ℕ, zero, suc, ◌+◌, ◌<◌, ◌≤◌, ◌==◌, Bool, true, false, List, [], ◌∷◌, ◌++◌, length, map}
use Rattle.std.proofs.Common.{get_or, Option, Some, slice_get, refl, sym, ap, subst, ◌∙◌, inl, inr, ⊎_elim, None, arith}
use Rattle.std.specs.List.{range_with_len}
use Rattle.std.proofs.lemmas.Bool.{eq-eqb, eqb-true, false≢true}
use Rattle.std.proofs.lemmas.List.{append-nil}
use Rattle.dwz_model.proofs.ListFacts.{got_below, got_map, in_cases, in_left, in_right}
use Rattle.dwz_model.proofs.OnceLemmas.{none_left, none_right}
use Rattle.dwz_def_reading.specs.Documents.{Compile, Doc, DwUnit, Entries, Kind, OfType, Partial}
use Rattle.dwz_def_reading.specs.Lists.{In}
use Rattle.dwz_def_reading.specs.Trees.{End, Entry}
use Rattle.dwz_def_check.specs.CrossNames.{unit_tops}
use Rattle.dwz_def_check.proofs.TopLists.{tops_count}
use Rattle.dwz_def_images.specs.After.{ArePlaced}
use Rattle.dwz_def_taken.specs.Beside.{Reused, as_compile, own_tops, reused_of, together}
use Rattle.dwz_def_taken.specs.Takes.{is_of_unit}
use Rattle.dwz_def_taken.proofs.PlaceLemmas.{units_in}
use Rattle.dwz_def_tops.proofs.NameLists.{below_firsts, firsts, found_there, spot_is, spots_firsts, spots_space, spots_top}
use Rattle.dwz_def_tops.proofs.TopNumbers.{tops_numbers}
use Rattle.dwz_def_tops.specs.Alike.{is_number, unit_in}
use Rattle.dwz_def_tops.specs.Lists.{NoneTwice}
use Rattle.dwz_def_tops.specs.Seen.{IsPartial}
use Rattle.dwz_def_tops.specs.Shown.{unit_keys, units_keys}
use Rattle.dwz_def_tops.specs.Spaces.{space_text, tops_under}
use Rattle.dwz_def_tops.specs.Spots.{EntryName, Import, InChain, InType, PartialOf, PartialRoot, RootOf, SpaceAt, UnitOf, Within}
use Rattle.dwz_def_tops.specs.Spots.{below_spots, entry_spots, spot_in, spots_from, top_spots, tops_among, tops_of, units_of}
use Rattle.dwz_graph.proofs.OwnNames.{Own, names_own}
use Rattle.dwz_match.proofs.CommonTops.{spot_of}
use Rattle.dwz_match.proofs.SpanFacts.{by_unit, part_numbers, range_in}
use Rattle.dwz_match.specs.Partial.{ArePartial}
use Rattle.dwz_reuse.proofs.UnitPlaces.{entries_at}

abbrev Spot : Type 0
Spot = ℕ × EntryName

-- the first top of a unit, and what its places are named among those of all
record StartsAt (unit top : ℕ) (units : List (DwUnit ℕ)) (k : ℕ) (u : DwUnit ℕ) : Type 0 where
  at : ℕ
  tops : get_or (by_unit top units) k [] ≡ range_with_len at (tops_under u.below)
  spots : (x : Spot) → In x (spots_from (unit + k) at (as_compile u ∷ [])) → In x (spots_from unit top (map as_compile units))

partial_tops : (u : DwUnit ℕ) (k : Kind ℕ) → IsPartial k → length (unit_tops k u) ≡ tops_under u.below
partial_tops u Partial h = tops_count [] u.below
partial_tops u Compile h = absurd h
partial_tops u (OfType signature main) h = absurd h

starts_at : (unit top : ℕ) (units : List (DwUnit ℕ)) → ArePartial units → (k : ℕ) (u : DwUnit ℕ) → slice_get units k ≡ Some u → StartsAt unit top units k u
unfolding spots_from by_unit
starts_at unit top [] partial k u e = absurd (let low = got_below [] k u e in omega (arith, low))
starts_at unit top (v ∷ units) partial zero u e =
    let same : v ≡ u = cc in
    let z : unit + 0 ≡ unit = omega arith in
    let m = top + tops_under v.below in
    let own : List Spot = (v.at, UnitOf unit) ∷ (v.root.at, RootOf unit) ∷ below_spots unit top Compile v.below in
    record {
      at = top;
      tops = ap (range_with_len top) (partial_tops v v.kind (partial v (inl refl)) ∙ ap (λ (w : DwUnit ℕ). tops_under w.below) same);
      spots = λ x i. (
          let here : In x (spots_from unit top (as_compile v ∷ [])) = subst (λ (w : DwUnit ℕ). In x (spots_from unit top (as_compile w ∷ []))) (sym same)
          (subst (λ (n : ℕ). In x (spots_from n top (as_compile u ∷ []))) z i) in
          in_left x own (spots_from (suc unit) m (map as_compile units)) (subst (λ (w : List Spot). In x w) (append-nil own) here));
    }
starts_at unit top (v ∷ units) partial (suc k) u e =
    let m = top + length (unit_tops v.kind v) in
    let many : m ≡ top + tops_under v.below = ap (λ (n : ℕ). top + n) (partial_tops v v.kind (partial v (inl refl))) in
    let o = starts_at (suc unit) m units (λ w i. partial w (inr i)) k u e in
    let z : unit + suc k ≡ suc unit + k = omega arith in
    let own : List Spot = (v.at, UnitOf unit) ∷ (v.root.at, RootOf unit) ∷ below_spots unit top Compile v.below in
    record {
      at = o.at;
      tops = o.tops;
      spots = λ x i. (
          let later : In x (spots_from (suc unit) m (map as_compile units)) = o.spots x (subst (λ (n : ℕ). In x (spots_from n o.at (as_compile u ∷ []))) z i) in
          in_right x own (spots_from (suc unit) (top + tops_under v.below) (map as_compile units)) (subst (λ (n : ℕ). In x (spots_from (suc unit) n (map as_compile units))) many later));
    }

not_partial : (u : DwUnit ℕ) (v : DwUnit ℕ) → In v (as_compile u ∷ []) → IsPartial v.kind → ⊥
not_partial u v (inl e) h = subst (λ (w : DwUnit ℕ). IsPartial w.kind) (sym e) h
not_partial u v (inr none) h = none

-- what entries of a compile unit are named
abbrev IsPlain : EntryName → Type 0
IsPlain (Within n path) = Unit {0}
IsPlain (RootOf n) = Unit {0}
IsPlain (SpaceAt n path) = Unit {0}
IsPlain _ = ⊥

AllPlain : List Spot → Type 0
AllPlain spots = (x : Spot) → In x spots → IsPlain x.1

plain_two : (xs ys : List Spot) → AllPlain xs → AllPlain ys → AllPlain (xs ++ ys)
unfolding AllPlain
plain_two xs ys a b x i = ⊎_elim (λ (j : In x xs). a x j) (λ (j : In x ys). b x j) (in_cases x xs ys i)

plain_first : (p : ℕ) (s : EntryName) (xs : List Spot) → IsPlain s → AllPlain xs → AllPlain ((p, s) ∷ xs)
unfolding AllPlain
plain_first p s xs h more x (inl e) = subst (λ (w : Spot). IsPlain w.1) e h
plain_first p s xs h more x (inr i) = more x i

plain_entries : (n : ℕ) (path : List ℕ) (i : ℕ) (f : Entries ℕ) → AllPlain (entry_spots (Within n) path i f)
unfolding entry_spots AllPlain
plain_entries n path i End = λ x there. absurd there
plain_entries n path i (Entry e c g) =
    plain_first e.at (Within n (i ∷ path)) (entry_spots (Within n) (i ∷ path) 0 c ++ entry_spots (Within n) path (suc i) g) tt
    (plain_two (entry_spots (Within n) (i ∷ path) 0 c) (entry_spots (Within n) path (suc i) g) (plain_entries n (i ∷ path) 0 c) (plain_entries n path (suc i) g))

plain_tops : (unit : ℕ) (path : List ℕ) (i n : ℕ) (f : Entries ℕ) → AllPlain (top_spots unit path i n f)
unfolding top_spots AllPlain
plain_tops unit path i n End = λ x there. absurd there
plain_tops unit path i n (Entry e c g) = by (space_text e) refl (λ m. plain_tops unit path (suc i) m g) (plain_tops unit (i ∷ path) 0 n c) where
  by : (o : Option (List ℕ)) → space_text e ≡ o → ((m : ℕ) → AllPlain (top_spots unit path (suc i) m g)) → AllPlain (top_spots unit (i ∷ path) 0 n c) → AllPlain (top_spots unit path i n (Entry e c g))
  by None h next inner = subst AllPlain (sym (spots_top unit path i n e c g h))
      (plain_first e.at (Within n []) (entry_spots (Within n) [] 0 c ++ top_spots unit path (suc i) (suc n) g) tt
      (plain_two (entry_spots (Within n) [] 0 c) (top_spots unit path (suc i) (suc n) g) (plain_entries n [] 0 c) (next (suc n))))
  by (Some text) h next inner = subst AllPlain (sym (spots_space unit path i n e c g text h))
      (plain_first e.at (SpaceAt unit (i ∷ path)) (top_spots unit (i ∷ path) 0 n c ++ top_spots unit path (suc i) (n + tops_under c) g) tt
      (plain_two (top_spots unit (i ∷ path) 0 n c) (top_spots unit path (suc i) (n + tops_under c) g) inner (next (n + tops_under c))))

-- the name of an entry of a unit among those of this alone
record OwnSpot (unit top : ℕ) (u : DwUnit ℕ) (p : ℕ) : Type 0 where
  name : EntryName
  there : In (p, name) (spots_from unit top (as_compile u ∷ []))
  plain : IsPlain name

own_spot : (unit top : ℕ) (u : DwUnit ℕ) (p : ℕ) → In p (entries_at u) → OwnSpot unit top u p
unfolding spots_from firsts AllPlain
own_spot unit top u p h =
    let tail : List Spot = (u.root.at, RootOf unit) ∷ top_spots unit [] 0 top u.below in
    let are : firsts tail ≡ entries_at u = ap (λ (w : List ℕ). u.root.at ∷ w) (below_firsts unit top Compile u.below (λ none. none)) in
    let f : In (p, spot_in tail p) tail = found_there tail p (subst (λ (w : List ℕ). In p w) (sym are) h) in
    record {
      name = spot_in tail p;
      there = inr (in_left (p, spot_in tail p) tail [] f);
      plain = plain_first u.root.at (RootOf unit) (top_spots unit [] 0 top u.below) tt (plain_tops unit [] 0 top u.below) (p, spot_in tail p) f;
    }

one_own : (unit top : ℕ) (u : DwUnit ℕ) (p : ℕ) → Own unit 1 top (tops_under u.below + 0) (spot_in (spots_from unit top (as_compile u ∷ [])) p)
unfolding tops_among
one_own unit top u p = names_own unit top (as_compile u ∷ []) p

unit_once : (k : ℕ) (units : List (DwUnit ℕ)) (u : DwUnit ℕ) → slice_get units k ≡ Some u → NoneTwice (units_keys units) → NoneTwice (units_keys (u ∷ []))
unfolding units_keys
unit_once k [] u e once = absurd (let low = got_below [] k u e in omega (arith, low))
unit_once zero (v ∷ units) u e once =
    let same : v ≡ u = cc in
    subst (λ (w : List ℕ). NoneTwice w) (sym (append-nil (unit_keys u))) (subst (λ (w : DwUnit ℕ). NoneTwice (unit_keys w)) same (none_left (unit_keys v) (units_keys units) once))
unit_once (suc k) (v ∷ units) u e once = unit_once k units u e (none_right (unit_keys v) (units_keys units) once)

not_true : (x : Bool) → (x ≡ true → ⊥) → x ≡ false
not_true true wrong = absurd (wrong refl)
not_true false wrong = refl

same_eqb : (a b c d : ℕ) → ((a ≡ b) ↔ (c ≡ d)) → (a == b) ≡ (c == d)
same_eqb a b c d h = by (c == d) refl where
  by : (x : Bool) → (c == d) ≡ x → (a == b) ≡ x
  by true e = eq-eqb a b (h.1 (eqb-true c d e))
  by false e = not_true (a == b) (λ t. false≢true (sym e ∙ eq-eqb c d (h.0 (eqb-true a b t))))

module _ (docs : List (Doc ℕ)) (common : Doc ℕ) (partial : ArePartial common.units) (placed : ArePlaced (map as_compile common.units)) where
  abbrev r : Reused
  r = reused_of docs common

  abbrev all : List Spot
  all = spots_from (length (units_of docs)) (length (tops_of (units_of docs))) (map as_compile common.units)

  once : NoneTwice (firsts all)
  once = subst NoneTwice (sym (spots_firsts (length (units_of docs)) (length (tops_of (units_of docs))) (map as_compile common.units) placed.kinds)) placed.apart

  abbrev Of : ℕ → ℕ → EntryName → Type 0
  Of k q s = is_of_unit (tops_of (together r)) (length r.units + q) s ≡ (k == q)

  plus_same : (k q u : ℕ) → length r.units + k ≤ u → u < length r.units + k + 1 → (u == length r.units + q) ≡ (k == q)
  plus_same k q u low high = same_eqb u (length r.units + q) k q (λ e. omega (arith, e, low, high), λ e. omega (arith, e, low, high))

  within : (k q at n : ℕ) (u : DwUnit ℕ) → get_or (by_unit (own_tops r) common.units) k [] ≡ range_with_len at (tops_under u.below) → at ≤ n → n < at + tops_under u.below
      → is_number (unit_in (tops_of (together r)) n) (length r.units + q) ≡ (k == q)
  within k q at n u tops low high =
      let o = (part_numbers docs common partial k n).0 (subst (λ (w : List ℕ). In n w) (sym tops) (range_in n at (tops_under u.below) low high)) in
      let found : unit_in (tops_of (together r)) n ≡ Some (o.0).unit =
      ap (λ (i : ℕ). unit_in (tops_of (together r)) i) (sym o.2) ∙ units_in 0 (tops_of (together r)) o.0 (tops_numbers (together r)) o.1.0 in
      let is = o.1.1 in
      ap (λ (w : Option ℕ). is_number w (length r.units + q)) found ∙ plus_same k q (o.0).unit (omega (arith, is)) (omega (arith, is))

  by_name : (k q at : ℕ) (u : DwUnit ℕ) → get_or (by_unit (own_tops r) common.units) k [] ≡ range_with_len at (tops_under u.below) → (s : EntryName) → IsPlain s
      → Own (length r.units + k) 1 at (tops_under u.below + 0) s → Of k q s
  by_name k q at u tops (Within n path) plain h = within k q at n u tops h.0 (let l = h.1 in omega (arith, l))
  by_name k q at u tops (RootOf n) plain h = plus_same k q n h.0 (let l = h.1 in omega (arith, l))
  by_name k q at u tops (SpaceAt n path) plain h = plus_same k q n h.0 (let l = h.1 in omega (arith, l))
  by_name k q at u tops (UnitOf n) plain h = absurd plain
  by_name k q at u tops (InType n path) plain h = absurd plain
  by_name k q at u tops (PartialOf n) plain h = absurd plain
  by_name k q at u tops (PartialRoot n) plain h = absurd plain
  by_name k q at u tops (InChain a b d) plain h = absurd plain
  by_name k q at u tops (Import a b) plain h = absurd plain

  -- the entry at a place is of the unit that has it
  pub of_unit : (k q : ℕ) (u : DwUnit ℕ) (p : ℕ) → slice_get common.units k ≡ Some u → In p (entries_at u) → Of k q (spot_of docs common p)
  of_unit k q u p got here =
      let o = starts_at (length r.units) (own_tops r) common.units partial k u got in
      let one : List Spot = spots_from (length r.units + k) o.at (as_compile u ∷ []) in
      let f = own_spot (length r.units + k) o.at u p here in
      let there : In (p, f.name) all = o.spots (p, f.name) f.there in
      let is : spot_of docs common p ≡ f.name = spot_is all once p f.name there in
      let single : spot_in one p ≡ f.name = spot_is one (own_once k u got o.at) p f.name f.there in
      let own = subst (Own (length r.units + k) 1 o.at (tops_under u.below + 0)) single (one_own (length r.units + k) o.at u p) in
      subst (Of k q) (sym is) (by_name k q o.at u o.tops f.name f.plain own)
    where
      own_once : (k : ℕ) (u : DwUnit ℕ) → slice_get common.units k ≡ Some u → (at : ℕ) → NoneTwice (firsts (spots_from (length r.units + k) at (as_compile u ∷ [])))
      own_once k u e at =
          subst NoneTwice (sym (spots_firsts (length r.units + k) at (as_compile u ∷ []) (not_partial u)))
          (unit_once k (map as_compile common.units) (as_compile u) (got_map as_compile common.units k u e) placed.apart)
