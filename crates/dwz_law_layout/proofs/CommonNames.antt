-- The names of a finished common file: of its units, and of its entries by their numbers.
use Rattle.std.proofs.Common.{◌≡◌, ◌⊎◌, ℕ, zero, suc, ◌+◌, ◌-◌, List, [], ◌∷◌, ◌++◌, length, map, Some, slice_get, refl, sym, ap, subst, ◌∙◌, inl, inr, arith}
use Rattle.std.proofs.lemmas.List.{append-nil, length-map, map-append}
use Rattle.dwz_def_reading.specs.Documents.{Compile, Doc, DwUnit, Entries, unit_map}
use Rattle.dwz_def_reading.specs.Lists.{In}
use Rattle.dwz_def_reading.specs.Meanings.{MeanUnits, Sources, all_places, places_of, scope_of}
use Rattle.dwz_def_reading.specs.Units.{RawUnit}
use Rattle.dwz_def_reading.proofs.ListFacts.{got_map, in_cases, in_left, in_map, in_right}
use Rattle.dwz_def_tops.specs.Lists.{NoneTwice}
use Rattle.dwz_def_tops.specs.Shown.{keys, unit_keys, units_keys}
use Rattle.dwz_def_tops.specs.Spots.{EntryName, FileUnit, Import, InChain, InType, PartialOf, PartialRoot, RootOf, SpaceAt, UnitOf, Within, below_spots, in_file, named_files, spot_in, spots_from, top_count, tops_of, units_of}
use Rattle.dwz_def_tops.proofs.Members.{in_map_from, in_nth, nth_get}
use Rattle.dwz_def_tops.proofs.NameLists.{below_firsts, firsts, found_there, spot_is, spots_firsts}
use Rattle.dwz_def_readback.proofs.ReadBuilt.{own}
use Rattle.dwz_def_readback.proofs.ReadPlaces.{entries_places}
use Rattle.dwz_def_taken.specs.Beside.{Reused, as_compile, reused_of}
use Rattle.dwz_def_taken.specs.Laws.{ArePlacedOver}
use Rattle.dwz_def_taken.specs.Over.{as_part, standing_unit}
use Rattle.dwz_def_taken.proofs.NamesOver.{common_spots}
use Rattle.dwz_def_over.proofs.MapsOver.{below_twice, keys_mapped}
use Rattle.dwz_graph.specs.Names.{names_from}
use Rattle.dwz_layout_numbers.specs.OverLaws.{common_names}
use Rattle.dwz_law_layout.proofs.EntryNames.{IsOfEntry}

-- ---- places, and the names that stand there

abbrev name_of : ℕ × EntryName → EntryName
name_of x = x.1

-- of two lists, the places and the names of one list are the first
zipped : (xs : List (ℕ × EntryName)) (ps : List ℕ) (ns : List EntryName) (j n : ℕ) (s : EntryName) → slice_get (firsts xs ++ ps) j ≡ Some n → slice_get (map name_of xs ++ ns) j ≡ Some s
    → In (n, s) xs ⊎ ((i : ℕ) × (slice_get ps i ≡ Some n) × (slice_get ns i ≡ Some s))
unfolding firsts
zipped [] ps ns j n s a b = inr (j, a, b)
zipped (x ∷ xs) ps ns zero n s a b = (let p : x.0 ≡ n = cc in let q : x.1 ≡ s = cc in inl (inl (λ i. (p i, q i))))
zipped (x ∷ xs) ps ns (suc j) n s a b = elim (zipped xs ps ns j n s a b) [ inl there ↦ inl (inr there) | inr later ↦ inr later ]

module _ (sources : Sources) (all : List ℕ) where
  -- an entry by its number stands at its place under its name
  pub entry_spot : (raw : List RawUnit) (said : List (DwUnit ℕ)) → MeanUnits (own sources all) raw said → (unit top j n : ℕ) (s : EntryName) → slice_get (all_places raw) j ≡ Some n
      → slice_get (names_from unit top (map as_compile said)) j ≡ Some s → In (n, s) (spots_from unit top (map as_compile said))
  unfolding all_places names_from spots_from firsts
  entry_spot [] said h unit top j n s a b = absurd cc
  entry_spot (u ∷ raw) [] h unit top j n s a b = absurd h
  entry_spot (u ∷ raw) (v ∷ said) h unit top j n s a b =
      let next = top + top_count Compile v.below in
      let inside = below_spots unit top Compile v.below in
      let names = names_from (suc unit) next (map as_compile said) in
      let spots = spots_from (suc unit) next (map as_compile said) in
      let below : firsts inside ≡ keys v.below = below_firsts unit top Compile v.below (λ is. is) in
      let places : firsts ((v.root.at, RootOf unit) ∷ inside) ≡ places_of u =
      (λ i. h.0.root.place i ∷ (below ∙ entries_places (scope_of (own sources all) u) u.below v.below refl h.0.below) i) in
      elim (zipped ((v.root.at, RootOf unit) ∷ inside) (all_places raw) names j n s (ap (λ (w : List ℕ). slice_get (w ++ all_places raw) j) places ∙ a) b) [
        | inl here ↦ (elim here [ inl e ↦ inr (inl e) | inr r ↦ inr (inr (in_left (n, s) inside spots r)) ])
        | inr later ↦ inr (inr (in_right (n, s) inside spots (entry_spot raw said h.1 (suc unit) next later.0 n s later.1 later.2)))
      ]

-- what has a name is a unit, or an entry
spot_number : (units : List (DwUnit ℕ)) (unit top n : ℕ) (s : EntryName) → In (n, s) (spots_from unit top units) → ((i : ℕ) × (s ≡ UnitOf i)) ⊎ In s (names_from unit top units)
unfolding spots_from names_from
spot_number [] unit top n s is = absurd is
spot_number (u ∷ units) unit top n s (inl e) = inl (unit, sym (ap name_of e))
spot_number (u ∷ units) unit top n s (inr (inl e)) = inr (inl (ap name_of e))
spot_number (u ∷ units) unit top n s (inr (inr is)) =
    let inside = below_spots unit top u.kind u.below in
    let next = top + top_count u.kind u.below in
    let names = names_from (suc unit) next units in
    elim (in_cases (n, s) inside (spots_from (suc unit) next units) is) [
      | inl a ↦ inr (inr (in_left s (map name_of inside) names (in_map name_of (n, s) inside a)))
      | inr b ↦ (elim (spot_number units (suc unit) next n s b) [ inl x ↦ inl x | inr y ↦ inr (inr (in_right s (map name_of inside) names y)) ])
    ]

-- the root of a unit has the name by the unit's number
root_spot : (units : List (DwUnit ℕ)) (unit top j : ℕ) (v : DwUnit ℕ) → slice_get units j ≡ Some v → In (v.root.at, RootOf (unit + j)) (spots_from unit top (map as_compile units))
unfolding spots_from
root_spot [] unit top j v e = absurd cc
root_spot (u ∷ units) unit top zero v e = (let is : u ≡ v = cc in let n : unit ≡ unit + 0 = omega arith in inr (inl (λ i. ((is i).root.at, RootOf (n i)))))
root_spot (u ∷ units) unit top (suc j) v e =
    let next = top + top_count Compile u.below in
    let spots = spots_from (suc unit) next (map as_compile units) in
    let n : suc unit + j ≡ unit + suc j = omega arith in
    inr (inr (in_right (v.root.at, RootOf (unit + suc j)) (below_spots unit top Compile u.below) spots
    (subst (λ (m : ℕ). In (v.root.at, RootOf m) spots) n (root_spot units (suc unit) next j v e))))

-- ---- names in partial units that stand

-- that of an entry that isn't a root is its own
pub part_kept : (first : ℕ) (s : EntryName) → IsOfEntry s → ((i : ℕ) → s ≡ RootOf i → ⊥) → as_part first s ≡ s
part_kept first (Within t path) of not_root = refl
part_kept first (UnitOf i) of not_root = absurd of
part_kept first (RootOf i) of not_root = absurd (not_root i refl)
part_kept first (SpaceAt i path) of not_root = refl
part_kept first (InType i path) of not_root = refl
part_kept first (PartialOf i) of not_root = absurd of
part_kept first (PartialRoot i) of not_root = absurd of
part_kept first (InChain p i d) of not_root = absurd of
part_kept first (Import i p) of not_root = absurd of

-- so one of an entry that was read was that before, and is no root's
part_of : (first : ℕ) (x s : EntryName) → as_part first x ≡ s → IsOfEntry s → (x ≡ s) × ((i : ℕ) → s ≡ RootOf i → ⊥)
part_of first (Within t path) s e of = (e, λ i r. let same : Within t path ≡ RootOf i = e ∙ r in cc)
part_of first (UnitOf i) s e of = absurd (subst IsOfEntry (sym e) of)
part_of first (RootOf i) s e of = absurd (subst IsOfEntry (sym e) of)
part_of first (SpaceAt j path) s e of = (e, λ i r. let same : SpaceAt j path ≡ RootOf i = e ∙ r in cc)
part_of first (InType j path) s e of = (e, λ i r. let same : InType j path ≡ RootOf i = e ∙ r in cc)
part_of first (PartialOf i) s e of = absurd (subst IsOfEntry (sym e) of)
part_of first (PartialRoot i) s e of = absurd (subst IsOfEntry (sym e) of)
part_of first (InChain p i d) s e of = absurd (subst IsOfEntry (sym e) of)
part_of first (Import i p) s e of = absurd (subst IsOfEntry (sym e) of)

-- ---- the common file

module _ (docs : List (Doc ℕ)) (common : Doc ℕ) (p : ArePlacedOver docs common) where
  abbrev first : ℕ
  first = length (units_of docs)

  abbrev top : ℕ
  top = length (tops_of (units_of docs))

  abbrev us : List (DwUnit ℕ)
  us = map as_compile common.units

  abbrev r : Reused
  r = reused_of docs common

  abbrev spots : List (ℕ × EntryName)
  spots = common_spots docs common

  -- the name in its partial unit of what was read at a place
  abbrev pub name_at : ℕ → EntryName
  name_at n = as_part (length (units_of docs)) (spot_in (common_spots docs common) n)

  pub firsts_are : firsts (common_spots docs common) ≡ units_keys (map as_compile common.units)
  firsts_are = spots_firsts first top us p.parts.kinds

  once : NoneTwice (firsts spots)
  once = subst NoneTwice (sym firsts_are) p.parts.apart

  pub name_is : (n : ℕ) (s : EntryName) → In (n, s) (common_spots docs common) → name_at n ≡ as_part (length (units_of docs)) s
  name_is n s there = ap (as_part first) (spot_is spots once n s there)

  -- the root of a unit has the partial unit's number
  pub root_at : (j : ℕ) (v : DwUnit ℕ) → slice_get common.units j ≡ Some v → In (v.root.at, RootOf (length (units_of docs) + j)) (common_spots docs common)
  root_at j v e = root_spot common.units first top j v e

  pub part_number : (j : ℕ) → as_part (length (units_of docs)) (RootOf (length (units_of docs) + j)) ≡ PartialRoot j
  part_number j = (let n : first + j - first ≡ j = omega arith in ap PartialRoot n)

  -- ---- its units

  abbrev placed : DwUnit ℕ → FileUnit EntryName
  placed u = in_file (length docs) (unit_map (spot_in (common_spots docs common)) u)

  commons_are : r.commons ≡ map (in_file (length docs)) (map (unit_map (spot_in spots)) us)
  unfolding named_files
  commons_are = append-nil (map (in_file (length docs)) (map (unit_map (spot_in spots)) us))

  standing_keys : (some : List (DwUnit ℕ)) → units_keys (map (standing_unit r) (map (in_file (length docs)) (map (unit_map (spot_in spots)) some))) ≡ map name_at (units_keys some)
  unfolding units_keys unit_keys
  standing_keys [] = refl
  standing_keys (u ∷ some) =
      let others = units_keys (map (standing_unit r) (map (in_file (length docs)) (map (unit_map (spot_in spots)) some))) in
      ap (λ (w : List EntryName). (name_at u.at ∷ name_at u.root.at ∷ w) ++ others)
      (ap (λ (w : Entries EntryName). keys w) (below_twice (spot_in spots) (as_part first) u.below) ∙ keys_mapped name_at u.below)
      ∙ ap (λ (w : List EntryName). (name_at u.at ∷ name_at u.root.at ∷ map name_at (keys u.below)) ++ w) (standing_keys some)
      ∙ sym (map-append name_at (u.at ∷ u.root.at ∷ keys u.below) (units_keys some))

  pub keys_are : units_keys (map (standing_unit (reused_of docs common)) (reused_of docs common).commons) ≡ map name_at (units_keys (map as_compile common.units))
  keys_are = ap (λ (w : List (FileUnit EntryName)). units_keys (map (standing_unit r) w)) commons_are ∙ standing_keys us

  pub standing_many : length (map (standing_unit (reused_of docs common)) (reused_of docs common).commons) ≡ length common.units
  standing_many =
      ap (λ (w : List (FileUnit EntryName)). length (map (standing_unit r) w)) commons_are
      ∙ length-map (map (in_file (length docs)) (map (unit_map (spot_in spots)) us)) (standing_unit r)
      ∙ length-map (map (unit_map (spot_in spots)) us) (in_file (length docs))
      ∙ length-map us (unit_map (spot_in spots))
      ∙ length-map common.units as_compile

  -- the unit with a number, whose root has that number
  pub standing_at : (j : ℕ) (v : DwUnit ℕ) → slice_get common.units j ≡ Some v
      → (u : DwUnit EntryName) × (slice_get (map (standing_unit (reused_of docs common)) (reused_of docs common).commons) j ≡ Some u) × (u.root.at ≡ PartialRoot j)
  standing_at j v e =
      let c = as_compile v in
      let named = unit_map (spot_in spots) c in
      let got = got_map (in_file (length docs)) (map (unit_map (spot_in spots)) us) j named (got_map (unit_map (spot_in spots)) us j c (got_map as_compile common.units j v e)) in (
        standing_unit r (placed c),
        got_map (standing_unit r) r.commons j (placed c) (ap (λ (w : List (FileUnit EntryName)). slice_get w j) commons_are ∙ got),
        name_is v.root.at (RootOf (first + j)) (root_at j v e) ∙ part_number j,
      )

  -- ---- its entries

  -- one of its names that is of an entry that was read is none of a root, and has a number
  pub number_of : (s : EntryName) → In s (units_keys (map (standing_unit (reused_of docs common)) (reused_of docs common).commons)) → IsOfEntry s
      → ((i : ℕ) → s ≡ RootOf i → ⊥) × ((j : ℕ) × (slice_get (common_names docs common) j ≡ Some s))
  number_of s there of =
      let o = in_map_from name_at s (units_keys us) (subst (In s) keys_are there) in
      let x = spot_in spots o.source in
      let found : In (o.source, x) spots = found_there spots o.source (subst (In o.source) (sym firsts_are) o.there) in
      let same = part_of first x s o.is of in
      (same.1, by x same.0 (spot_number us first top o.source x found))
    where
      by : (x : EntryName) → x ≡ s → ((i : ℕ) × (x ≡ UnitOf i)) ⊎ In x (common_names docs common) → (j : ℕ) × (slice_get (common_names docs common) j ≡ Some s)
      by x same (inl unit) = absurd (subst IsOfEntry (sym same ∙ unit.1) of)
      by x same (inr is) =
          let o = in_nth 0 (common_names docs common) s (subst (λ (w : EntryName). In w (common_names docs common)) same is) in
          let n : o.number ≡ 0 + o.number = omega arith in
          (o.number, nth_get 0 (common_names docs common) o.number o.number s o.nth n)
