-- The place that has the name of an entry: there is one, and it is found.
use Rattle.std.proofs.Common.{◌≡◌, ℕ, zero, suc, ◌+◌, ◌==◌, Bool, true, false, List, [], ◌∷◌, ◌++◌, length, map, Some, slice_get, refl, sym, ap, subst, ◌∙◌, inl, inr, eqb-true}
use Rattle.std.proofs.lemmas.List.{map-append}
use Rattle.dwz_def_reading.specs.Documents.{Doc, DwUnit}
use Rattle.dwz_def_reading.specs.Lists.{In}
use Rattle.dwz_def_reading.proofs.ListFacts.{got_map, in_cases, in_left, in_map, in_right, same_got}
use Rattle.dwz_def_tops.specs.Spots.{EntryName, RootOf, Within, below_spots, same_spot, spot_in, spots_from, top_count, tops_among}
use Rattle.dwz_def_tops.proofs.Members.{in_map_from}
use Rattle.dwz_def_tops.proofs.SpotLemmas.{same_spot-same, same_spot-true}
use Rattle.dwz_def_tops.specs.UnitNames.{name_from, name_of_place}
use Rattle.dwz_def_reading.specs.Places.{Place, at_file}
use Rattle.dwz_def_explain.specs.Texts.{files_spots, place_named, place_of_name}
use Rattle.dwz_graph.specs.Names.{names_from}
use Rattle.dwz_graph.specs.AllNames.{all_names, names_of_files}
use Rattle.dwz_layout_numbers.proofs.OnceNames.{one_entry}
use Rattle.dwz_explain.specs.Reached.{IsEntryName}

pub within_entry : (n : ℕ) (path : List ℕ) → IsEntryName (Within n path)
within_entry n path i e = cc

-- ---- places of entries with their names, in the order of their numbers

entry_pairs : ℕ → ℕ → List (DwUnit ℕ) → List (ℕ × EntryName)
entry_pairs unit top [] = []
entry_pairs unit top (u ∷ units) = (u.root.at, RootOf unit) ∷ (below_spots unit top u.kind u.below ++ entry_pairs (suc unit) (top + top_count u.kind u.below) units)

abbrev name_in : ℕ × EntryName → EntryName
name_in x = x.1

pairs_names : (unit top : ℕ) (units : List (DwUnit ℕ)) → map name_in (entry_pairs unit top units) ≡ names_from unit top units
unfolding entry_pairs names_from
pairs_names unit top [] = refl
pairs_names unit top (u ∷ units) =
    let own = below_spots unit top u.kind u.below in
    let rest = entry_pairs (suc unit) (top + top_count u.kind u.below) units in
    ap (λ (w : List EntryName). RootOf unit ∷ w) (map-append name_in own rest ∙ ap (λ (w : List EntryName). map name_in own ++ w) (pairs_names (suc unit) (top + top_count u.kind u.below) units))

-- a place with a name is among those of entries just where it is among all, unless it is that of a unit
spot_pair : (unit top : ℕ) (units : List (DwUnit ℕ)) (x : ℕ × EntryName) → IsEntryName x.1 → In x (spots_from unit top units) → In x (entry_pairs unit top units)
unfolding entry_pairs spots_from
spot_pair unit top [] x entry is = absurd is
spot_pair unit top (u ∷ units) x entry (inl e) = absurd (entry unit (ap name_in (sym e)))
spot_pair unit top (u ∷ units) x entry (inr (inl e)) = inl e
spot_pair unit top (u ∷ units) x entry (inr (inr r)) =
    let own = below_spots unit top u.kind u.below in
    let next = top + top_count u.kind u.below in
    inr (elim (in_cases x own (spots_from (suc unit) next units) r) [
      | inl a ↦ in_left x own (entry_pairs (suc unit) next units) a
      | inr b ↦ in_right x own (entry_pairs (suc unit) next units) (spot_pair (suc unit) next units x entry b)
    ])

pair_spot : (unit top : ℕ) (units : List (DwUnit ℕ)) (x : ℕ × EntryName) → In x (entry_pairs unit top units) → In x (spots_from unit top units)
unfolding entry_pairs spots_from
pair_spot unit top [] x is = absurd is
pair_spot unit top (u ∷ units) x (inl e) = inr (inl e)
pair_spot unit top (u ∷ units) x (inr r) =
    let own = below_spots unit top u.kind u.below in
    let next = top + top_count u.kind u.below in
    inr (inr (elim (in_cases x own (entry_pairs (suc unit) next units) r) [
      | inl a ↦ in_left x own (spots_from (suc unit) next units) a
      | inr b ↦ in_right x own (spots_from (suc unit) next units) (pair_spot (suc unit) next units x b)
    ]))

-- ---- over all files

abbrev placed_in : ℕ → ℕ × EntryName → Place × EntryName
placed_in file x = (at_file file x.0, x.1)

placed : ℕ → ℕ → ℕ → List (Doc ℕ) → List (Place × EntryName)
placed file unit top [] = []
placed file unit top (doc ∷ docs) = map (placed_in file) (entry_pairs unit top doc.units) ++ placed (suc file) (unit + length doc.units) (top + tops_among doc.units) docs

abbrev placed_name : Place × EntryName → EntryName
placed_name x = x.1

file_names : (file : ℕ) (xs : List (ℕ × EntryName)) → map placed_name (map (placed_in file) xs) ≡ map name_in xs
file_names file [] = refl
file_names file (x ∷ xs) = ap (λ (w : List EntryName). x.1 ∷ w) (file_names file xs)

placed_names : (file unit top : ℕ) (docs : List (Doc ℕ)) → map placed_name (placed file unit top docs) ≡ names_of_files unit top docs
unfolding placed names_of_files
placed_names file unit top [] = refl
placed_names file unit top (doc ∷ docs) =
    let own = entry_pairs unit top doc.units in
    let rest = placed (suc file) (unit + length doc.units) (top + tops_among doc.units) docs in
    map-append placed_name (map (placed_in file) own) rest
    ∙ (λ j. (file_names file own ∙ pairs_names unit top doc.units) j ++ placed_names (suc file) (unit + length doc.units) (top + tops_among doc.units) docs j)

in_got : {X : Type 0} (x : X) (xs : List X) → In x xs → (k : ℕ) × (slice_get xs k ≡ Some x)
in_got x [] is = absurd is
in_got x (y ∷ xs) (inl e) = (zero, ap Some e)
in_got x (y ∷ xs) (inr r) = let o = in_got x xs r in (suc o.0, o.1)

one_placed : (docs : List (Doc ℕ)) (p q : Place) (name : EntryName) → In (p, name) (placed 0 0 0 docs) → In (q, name) (placed 0 0 0 docs) → p ≡ q
one_placed docs p q name a b =
    let all = placed 0 0 0 docs in
    let x = in_got (p, name) all a in
    let y = in_got (q, name) all b in
    let names = placed_names 0 0 0 docs in
    let first : slice_get (all_names docs) x.0 ≡ Some name = ap (λ (w : List EntryName). slice_get w x.0) (sym names) ∙ got_map placed_name all x.0 (p, name) x.1 in
    let second : slice_get (all_names docs) y.0 ≡ Some name = ap (λ (w : List EntryName). slice_get w y.0) (sym names) ∙ got_map placed_name all y.0 (q, name) y.1 in
    let here : slice_get all y.0 ≡ Some (p, name) = ap (slice_get all) (sym (one_entry docs name x.0 y.0 first second)) ∙ x.1 in
    ap (λ (w : Place × EntryName). w.0) (same_got all y.0 (p, name) (q, name) here y.1)

-- ---- the name of a place

spot_there : (spots : List (ℕ × EntryName)) (p : ℕ) (name : EntryName) → IsEntryName name → spot_in spots p ≡ name → In (p, name) spots
unfolding spot_in
spot_there [] p name entry e = absurd (entry 0 (sym e))
spot_there (s ∷ spots) p name entry e = by (s.0 == p) refl e (spot_there spots p name entry) where
  by : (b : Bool) → (s.0 == p) ≡ b → (elim b as (λ _. EntryName) [ true ↦ s.1 | false ↦ spot_in spots p ]) ≡ name → (spot_in spots p ≡ name → In (p, name) spots) → In (p, name) (s ∷ spots)
  by true q h more = inl (λ i. (eqb-true s.0 p q i, h i))
  by false q h more = inr (more h)

by_file : (file n : ℕ) (p : Place) (name : EntryName) (b : Bool) → (file == n) ≡ b → p.file ≡ n → (here later : EntryName) (pairs : List (ℕ × EntryName)) (rest : List (Place × EntryName))
    → (here ≡ name → In (p.at, name) pairs) → (later ≡ name → In (p, name) rest) → (elim b as (λ _. EntryName) [ true ↦ here | false ↦ later ]) ≡ name
    → In (p, name) (map (placed_in file) pairs ++ rest)
by_file file n p name true q of here later pairs rest own more e =
    let same : at_file file p.at ≡ p = λ i. at_file ((eqb-true file n q ∙ sym of) i) p.at in
    in_left (p, name) (map (placed_in file) pairs) rest (subst (λ (w : Place). In (w, name) (map (placed_in file) pairs)) same (in_map (placed_in file) (p.at, name) pairs (own e)))
by_file file n p name false q of here later pairs rest own more e = in_right (p, name) (map (placed_in file) pairs) rest (more e)

named_placed : (file unit top : ℕ) (docs : List (Doc ℕ)) (p : Place) (name : EntryName) → IsEntryName name → name_from file unit top docs p ≡ name → In (p, name) (placed file unit top docs)
unfolding name_from placed
named_placed file unit top [] p name entry e = absurd (entry 0 (sym e))
named_placed file unit top (doc ∷ docs) p name entry e =
    by_file file p.file p name (file == p.file) refl refl (spot_in (spots_from unit top doc.units) p.at) (name_from (suc file) (unit + length doc.units) (top + tops_among doc.units) docs p)
    (entry_pairs unit top doc.units) (placed (suc file) (unit + length doc.units) (top + tops_among doc.units) docs)
    (λ h. spot_pair unit top doc.units (p.at, name) entry (spot_there (spots_from unit top doc.units) p.at name entry h))
    (named_placed (suc file) (unit + length doc.units) (top + tops_among doc.units) docs p name entry) e

-- ---- the place of a name

placed_spot : (file unit top : ℕ) (docs : List (Doc ℕ)) (p : Place) (name : EntryName) → In (p, name) (placed file unit top docs) → In (p.at, name) (files_spots unit top docs)
unfolding placed files_spots
placed_spot file unit top [] p name is = absurd is
placed_spot file unit top (doc ∷ docs) p name is =
    let own = map (placed_in file) (entry_pairs unit top doc.units) in
    let rest = placed (suc file) (unit + length doc.units) (top + tops_among doc.units) docs in
    let spots = spots_from unit top doc.units in
    let more = files_spots (unit + length doc.units) (top + tops_among doc.units) docs in
    elim (in_cases (p, name) own rest is) [
      | inl a ↦ (let o = in_map_from (placed_in file) (p, name) (entry_pairs unit top doc.units) a in
          let same : o.source ≡ (p.at, name) = λ i. ((o.is i).0.at, (o.is i).1) in
          in_left (p.at, name) spots more (pair_spot unit top doc.units (p.at, name) (subst (λ (w : ℕ × EntryName). In w (entry_pairs unit top doc.units)) same o.there)))
      | inr b ↦ in_right (p.at, name) spots more (placed_spot (suc file) (unit + length doc.units) (top + tops_among doc.units) docs p name b)
    ]

spot_placed : (file unit top : ℕ) (docs : List (Doc ℕ)) (n : ℕ) (name : EntryName) → IsEntryName name → In (n, name) (files_spots unit top docs)
    → (f : ℕ) × In (at_file f n, name) (placed file unit top docs)
unfolding placed files_spots
spot_placed file unit top [] n name entry is = absurd is
spot_placed file unit top (doc ∷ docs) n name entry is =
    let own = map (placed_in file) (entry_pairs unit top doc.units) in
    let rest = placed (suc file) (unit + length doc.units) (top + tops_among doc.units) docs in
    let spots = spots_from unit top doc.units in
    let more = files_spots (unit + length doc.units) (top + tops_among doc.units) docs in
    elim (in_cases (n, name) spots more is) [
      | inl a ↦ (file, in_left (at_file file n, name) own rest (in_map (placed_in file) (n, name) (entry_pairs unit top doc.units) (spot_pair unit top doc.units (n, name) entry a)))
      | inr b ↦ (let o = spot_placed (suc file) (unit + length doc.units) (top + tops_among doc.units) docs n name entry b in (o.0, in_right (at_file o.0 n, name) own rest o.1))
    ]

place_found : (spots : List (ℕ × EntryName)) (name : EntryName) (n : ℕ) → In (n, name) spots → In (place_named spots name, name) spots
unfolding place_named
place_found [] name n is = absurd is
place_found (s ∷ spots) name n is = by (same_spot s.1 name) refl is (place_found spots name n) where
  by : (b : Bool) → same_spot s.1 name ≡ b → In (n, name) (s ∷ spots) → (In (n, name) spots → In (place_named spots name, name) spots)
      → In (elim b as (λ _. ℕ) [ true ↦ s.0 | false ↦ place_named spots name ], name) (s ∷ spots)
  by true q h more = inl (λ i. (s.0, same_spot-true s.1 name q i))
  by false q (inl e) more = absurd (let z : same_spot s.1 name ≡ true = ap (λ (w : ℕ × EntryName). same_spot w.1 name) e ∙ same_spot-same name in cc)
  by false q (inr r) more = inr (more r)

-- the place that has an entry's name is found by it
pub place_is : (docs : List (Doc ℕ)) (p : Place) (name : EntryName) → IsEntryName name → name_of_place docs p ≡ name → place_of_name docs name ≡ p.at
place_is docs p name entry e =
    let a = named_placed 0 0 0 docs p name entry e in
    let b = place_found (files_spots 0 0 docs) name p.at (placed_spot 0 0 0 docs p name a) in
    let c = spot_placed 0 0 0 docs (place_of_name docs name) name entry b in
    ap (λ (w : Place). w.at) (one_placed docs (at_file c.0 (place_of_name docs name)) p name c.1 a)

-- no other place has it
pub one_place : (docs : List (Doc ℕ)) (p q : Place) (name : EntryName) → IsEntryName name → name_of_place docs p ≡ name → name_of_place docs q ≡ name → p ≡ q
one_place docs p q name entry e f = one_placed docs p q name (named_placed 0 0 0 docs p name entry e) (named_placed 0 0 0 docs q name entry f)
