-- The names of entries by their numbers are those of their places.
use Rattle.std.proofs.Common.{◌≡◌, ℕ, suc, ◌+◌, ◌<◌, ◌≤◌, List, [], ◌∷◌, ◌++◌, length, map, Some, slice_get, Ok, refl, sym, ap, subst, ◌∙◌, inl, inr, arith}
use Rattle.std.specs.Option.{option_map}
use Rattle.std.proofs.lemmas.List.{map-append}
use Rattle.std.proofs.lemmas.Option.{slice_get-get_or, slice_get-map}
use Rattle.dwz_def_reading.specs.Entries.{RawEntry, given}
use Rattle.dwz_def_reading.specs.Lists.{Each, In}
use Rattle.dwz_def_reading.specs.Trees.{End, Entry, Forest}
use Rattle.dwz_def_reading.specs.Units.{RawUnit, entries_in}
use Rattle.dwz_def_reading.proofs.ListFacts.{in_cases, in_left, in_right}
use Rattle.dwz_def_reading.specs.Documents.{Doc, DwUnit, Entries}
use Rattle.dwz_def_reading.specs.Files.{Limits, around_of, debug_abbrev, debug_info, file_meaning, sources_of}
use Rattle.dwz_def_reading.specs.Meanings.{MeanEntries, MeanUnits, Sources, all_places, alone, places_in, scope_of}
use Rattle.dwz_def_reading.specs.Meant.{units_meaning}
use Rattle.dwz_def_reading.proofs.FileLemmas.{file_agrees}
use Rattle.dwz_def_reading.proofs.MeaningUnits.{units_agree}
use Rattle.dwz_graph_resolve.specs.Resolved.{place_at, places}
use Rattle.dwz_graph_resolve.proofs.PlaceLemmas.{Ascend, places_are, places_many, unit_and_entries, units_and_entries_ascend}
use Rattle.dwz_graph_resolve.proofs.UnitStarts.{places_whole}
use Rattle.dwz_def_tops.specs.Lists.{NoneTwice}
use Rattle.dwz_def_tops.specs.Seen.{IsPartial}
use Rattle.dwz_def_tops.specs.Shown.{keys, unit_keys, units_keys}
use Rattle.dwz_def_tops.proofs.Members.{each_in}
use Rattle.dwz_def_tops.specs.Spots.{EntryName, RootOf, below_spots, spot_in, spots_from, top_count}
use Rattle.dwz_def_tops.proofs.NameLists.{below_firsts, firsts, firsts_append, spot_is, spots_firsts}
use Rattle.dwz_graph.specs.Names.{names_from}
use Rattle.dwz_graph.proofs.UnitsMean.{none_partial, places_number}

-- ---- no place twice

ascend_above : (ps : List ℕ) (a b p : ℕ) → Ascend a ps b → In p ps → a ≤ p
ascend_above [] a b p h is = absurd is
ascend_above (q ∷ ps) a b p h (inl e) = omega (arith, h.0, e)
ascend_above (q ∷ ps) a b p h (inr r) = omega (arith, h.0, ascend_above ps (q + 1) b p h.1 r)

ascend_once : (ps : List ℕ) (a b : ℕ) → Ascend a ps b → NoneTwice ps
ascend_once [] a b h = tt
ascend_once (p ∷ ps) a b h = ((λ is. let le = ascend_above ps (p + 1) b p h.1 is in omega (arith, le)), ascend_once ps (p + 1) b h.1)

-- ---- the places of what is meant

module _ (sources : Sources) (raw : List RawUnit) where
  below_keys : (u : RawUnit) (f : Forest RawEntry) (g : Entries ℕ) → MeanEntries (scope_of (alone sources raw) u) f g → keys g ≡ places_in f
  unfolding keys places_in
  below_keys u End End h = refl
  below_keys u End (Entry d c n) h = absurd h
  below_keys u (Entry e c n) End h = absurd h
  below_keys u (Entry e c n) (Entry d c' n') h = (λ j. h.0.place j ∷ below_keys u c c' h.1 j ++ below_keys u n n' h.2 j)

  all_keys : (units : List RawUnit) (said : List (DwUnit ℕ)) → MeanUnits (alone sources raw) units said → units_keys said ≡ unit_and_entries units
  unfolding units_keys unit_keys unit_and_entries
  all_keys [] [] h = refl
  all_keys [] (v ∷ said) h = absurd h
  all_keys (u ∷ units) [] h = absurd h
  all_keys (u ∷ units) (v ∷ said) h = (λ j. (h.0.place j ∷ h.0.root.place j ∷ below_keys u u.below v.below h.0.below j) ++ all_keys units said h.1 j)

  -- ---- places of entries with their names

  pairs : ℕ → ℕ → List (DwUnit ℕ) → List (ℕ × EntryName)
  pairs unit top [] = []
  pairs unit top (v ∷ said) = (v.root.at, RootOf unit) ∷ (below_spots unit top v.kind v.below ++ pairs (suc unit) (top + top_count v.kind v.below) said)

  abbrev name_of : ℕ × EntryName → EntryName
  name_of x = x.1

  pairs_names : (unit top : ℕ) (said : List (DwUnit ℕ)) → map name_of (pairs unit top said) ≡ names_from unit top said
  unfolding pairs names_from
  pairs_names unit top [] = refl
  pairs_names unit top (v ∷ said) =
      let own = below_spots unit top v.kind v.below in
      let rest = pairs (suc unit) (top + top_count v.kind v.below) said in
      ap (λ (w : List EntryName). RootOf unit ∷ w) (map-append name_of own rest ∙ ap (λ (w : List EntryName). map name_of own ++ w) (pairs_names (suc unit) (top + top_count v.kind v.below) said))

  pairs_places : (unit top : ℕ) (units : List RawUnit) (said : List (DwUnit ℕ)) → MeanUnits (alone sources raw) units said → Each (λ v. IsPartial v.kind → ⊥) said
      → firsts (pairs unit top said) ≡ all_places units
  unfolding pairs firsts all_places
  pairs_places unit top [] [] h whole = refl
  pairs_places unit top [] (v ∷ said) h whole = absurd h
  pairs_places unit top (u ∷ units) [] h whole = absurd h
  pairs_places unit top (u ∷ units) (v ∷ said) h whole =
      let own = below_spots unit top v.kind v.below in
      let rest = pairs (suc unit) (top + top_count v.kind v.below) said in
      (λ j. h.0.root.place j ∷ (firsts_append own rest ∙ (λ k. (below_firsts unit top v.kind v.below whole.0 ∙ below_keys u u.below v.below h.0.below) k
      ++ pairs_places (suc unit) (top + top_count v.kind v.below) units said h.1 whole.1 k)) j)

  pairs_in : (unit top : ℕ) (said : List (DwUnit ℕ)) (x : ℕ × EntryName) → In x (pairs unit top said) → In x (spots_from unit top said)
  unfolding pairs spots_from
  pairs_in unit top [] x h = absurd h
  pairs_in unit top (v ∷ said) x (inl e) = inr (inl e)
  pairs_in unit top (v ∷ said) x (inr r) = elim (in_cases x (below_spots unit top v.kind v.below) (pairs (suc unit) (top + top_count v.kind v.below) said) r) [
    | inl a ↦ inr (inr (in_left x (below_spots unit top v.kind v.below) (spots_from (suc unit) (top + top_count v.kind v.below) said) a))
    | inr b ↦ inr (inr (in_right x (below_spots unit top v.kind v.below) (spots_from (suc unit) (top + top_count v.kind v.below) said) (pairs_in (suc unit) (top + top_count v.kind v.below) said x b)))
  ]

named_all : (spots : List (ℕ × EntryName)) → NoneTwice (firsts spots) → (some : List (ℕ × EntryName)) → ((x : ℕ × EntryName) → In x some → In x spots)
    → map (spot_in spots) (firsts some) ≡ map (λ x. x.1) some
unfolding firsts
named_all spots once [] h = refl
named_all spots once (x ∷ some) h = (λ j. spot_is spots once x.0 x.1 (h x (inl refl)) j ∷ named_all spots once some (λ y is. h y (inr is)) j)

-- ---- of a file

pub means_units : (l : Limits) (bytes : List ℕ) (raw : List RawUnit) (doc : Doc ℕ) → file_meaning l bytes ≡ Ok (raw, doc) → units_meaning (around_of bytes raw) raw ≡ Ok doc.units
means_units l bytes raw doc e = let r = ((file_agrees l bytes).ok (raw, doc)).0 e in ((units_agree (around_of bytes raw) raw).ok doc.units).1 r.means

-- none of the units is partial
pub read_whole : (l : Limits) (bytes : List ℕ) (raw : List RawUnit) (doc : Doc ℕ) → file_meaning l bytes ≡ Ok (raw, doc) → Each (λ v. IsPartial v.kind → ⊥) doc.units
read_whole l bytes raw doc e =
    let r = ((file_agrees l bytes).ok (raw, doc)).0 e in
    none_partial (around_of bytes raw) raw doc.units r.means (places_number raw (places_whole (debug_abbrev bytes) l.entries raw 0 0 (debug_info bytes) r.spelled))

-- no unit and no entry stands where another does
pub stand_once : (l : Limits) (bytes : List ℕ) (raw : List RawUnit) (doc : Doc ℕ) → file_meaning l bytes ≡ Ok (raw, doc) → NoneTwice (unit_and_entries raw)
stand_once l bytes raw doc e =
    let r = ((file_agrees l bytes).ok (raw, doc)).0 e in
    ascend_once (unit_and_entries raw) 0 (0 + length (debug_info bytes)) (units_and_entries_ascend (debug_abbrev bytes) (given l.entries) raw 0 0 (debug_info bytes) r.spelled)

-- no place stands twice
pub places_once : (l : Limits) (bytes : List ℕ) (raw : List RawUnit) (doc : Doc ℕ) → file_meaning l bytes ≡ Ok (raw, doc) → NoneTwice (units_keys doc.units)
places_once l bytes raw doc e =
    let r = ((file_agrees l bytes).ok (raw, doc)).0 e in
    subst NoneTwice (sym (all_keys (sources_of bytes) raw raw doc.units r.means)) (stand_once l bytes raw doc e)

pub all_named : (l : Limits) (bytes : List ℕ) (raw : List RawUnit) (doc : Doc ℕ) (unit top : ℕ) → file_meaning l bytes ≡ Ok (raw, doc) → map (spot_in (spots_from unit top doc.units)) (places raw)
    ≡ names_from unit top doc.units
all_named l bytes raw doc unit top e =
    let r = ((file_agrees l bytes).ok (raw, doc)).0 e in
    let sources = sources_of bytes in
    let said = doc.units in
    let spots = spots_from unit top said in
    let whole = read_whole l bytes raw doc e in
    let once : NoneTwice (firsts spots) = subst NoneTwice (sym (spots_firsts unit top said (λ v is. each_in (λ (w : DwUnit ℕ). IsPartial w.kind → ⊥) v said whole is)))
    (places_once l bytes raw doc e) in
    let some = pairs sources raw unit top said in
    ap (map (spot_in spots)) (places_are raw ∙ sym (pairs_places sources raw unit top raw said r.means whole))
    ∙ named_all spots once some (pairs_in sources raw unit top said)
    ∙ pairs_names sources raw unit top said

pub each_named : (l : Limits) (bytes : List ℕ) (raw : List RawUnit) (doc : Doc ℕ) (unit top i : ℕ) → file_meaning l bytes ≡ Ok (raw, doc) → i < entries_in raw
    → slice_get (names_from unit top doc.units) i ≡ Some (spot_in (spots_from unit top doc.units) (place_at raw i))
each_named l bytes raw doc unit top i e lt =
    let name = spot_in (spots_from unit top doc.units) in
    let many = places_many raw in
    ap (λ (w : List EntryName). slice_get w i) (sym (all_named l bytes raw doc unit top e))
    ∙ slice_get-map name (places raw) i
    ∙ ap (option_map name) (slice_get-get_or (places raw) i 0 (omega arith))
