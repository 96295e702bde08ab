-- The top in which an entry stands that begins at a place, and that there is none where no entry begins.
use Rattle.std.proofs.Common.{◌≡◌, ℕ, zero, suc, ◌+◌, ◌<◌, ◌≤◌, ◌==◌, Bool, true, false, List, [], ◌∷◌, ◌++◌, length, map, Option, Some, None, slice_get, reverse, is_some, refl, sym, ap, subst, ◌∙◌, inl, inr, cond, eqb-true, eq-eqb, arith}
use Rattle.std.specs.Option.{option_and_then}
use Rattle.std.proofs.lemmas.List.{map-append}
use Rattle.dwz_model.specs.declared.place.Place.{Place}
use Rattle.dwz_def_reading.specs.Documents.{Compile, Doc, DwUnit, Entries, Kind, OfType, Partial}
use Rattle.dwz_def_reading.specs.Lists.{In}
use Rattle.dwz_def_reading.specs.Trees.{End, Entry}
use Rattle.dwz_def_reading.specs.Units.{entries_in}
use Rattle.dwz_def_reading.proofs.ListFacts.{in_cases, in_left, in_right}
use Rattle.dwz_def_tops.specs.Shown.{keys}
use Rattle.dwz_def_tops.specs.Spots.{EntryName, RootOf, UnitOf, Within, below_spots, spot_in, top_count, tops_among, spots_from as names_of_units}
use Rattle.dwz_def_tops.proofs.NameLists.{below_firsts, in_firsts}
use Rattle.dwz_def_tops.specs.UnitNames.{name_from, name_of_place}
use Rattle.dwz_def_reading.specs.Places.{at_file}
use Rattle.dwz_graph.specs.declared.file.File.{File}
use Rattle.dwz_graph.specs.Files.{AreKept, docs_of}
use Rattle.dwz_graph.specs.Index.{Index}
use Rattle.dwz_graph.specs.Indexed.{AreIndexes}
use Rattle.dwz_graph.specs.Names.{names_from, path_in, top_in}
use Rattle.dwz_graph.specs.Places.{place_at}
use Rattle.dwz_graph.specs.Across.{name_at}
use Rattle.dwz_graph.specs.AcrossLaws.{IsAmong}
use Rattle.dwz_graph.proofs.FileCounts.{are_many}
use Rattle.dwz_graph.proofs.FileEntries.{all_entries, names_entries}
use Rattle.dwz_graph.proofs.FileWalk.{is_among}
use Rattle.dwz_unit.specs.Rows.{units_of}
use Rattle.dwz_graph_view.specs.EntryViews.{EntrySpot, begins_at, entry_at, spots_below, spots_from, units_before}
use Rattle.dwz_graph_view.specs.TopPaths.{IsNamedBy, path_from_top}
use Rattle.dwz_graph_view.proofs.EntrySteps.{no_entry, no_file}

-- ---- a place with the name of an entry in a top is that of an entry

below_key : (unit top : ℕ) (k : Kind ℕ) (f : Entries ℕ) (x : ℕ × EntryName) → In x (below_spots unit top k f) → In x.0 (keys f)
below_key unit top Compile f x h = subst (In x.0) (below_firsts unit top Compile f (λ no. no)) (in_firsts x (below_spots unit top Compile f) h)
below_key unit top (OfType signature main) f x h =
    subst (In x.0) (below_firsts unit top (OfType signature main) f (λ no. no)) (in_firsts x (below_spots unit top (OfType signature main) f) h)
below_key unit top Partial f x h = absurd h

abbrev place_of : EntrySpot → ℕ
place_of e = e.node.at

below_places : (unit : ℕ) (f : Entries ℕ) → map place_of (spots_below unit f) ≡ keys f
unfolding spots_below keys
below_places unit End = refl
below_places unit (Entry e f g) = ap (λ (w : List ℕ). e.at ∷ w)
    (map-append place_of (spots_below unit f) (spots_below unit g) ∙ (λ j. below_places unit f j ++ below_places unit g j))

entry_there : (unit top first : ℕ) (units : List (DwUnit ℕ)) (p n : ℕ) (path : List ℕ) → In (p, Within n path) (names_of_units unit top units) → In p (map place_of (spots_from first units))
unfolding names_of_units spots_from keys
entry_there unit top first [] p n path h = absurd h
entry_there unit top first (u ∷ units) p n path (inl e) = absurd (let z : UnitOf unit ≡ Within n path = ap (λ (w : ℕ × EntryName). w.1) e in cc)
entry_there unit top first (u ∷ units) p n path (inr (inl e)) = absurd (let z : RootOf unit ≡ Within n path = ap (λ (w : ℕ × EntryName). w.1) e in cc)
entry_there unit top first (u ∷ units) p n path (inr (inr r)) =
    let own = spots_below first (Entry u.root u.below End) in
    let others = spots_from (suc first) units in
    let next = top + top_count u.kind u.below in
    subst (In p) (sym (map-append place_of own others)) (elim (in_cases (p, Within n path) (below_spots unit top u.kind u.below) (names_of_units (suc unit) next units) r) [
      | inl a ↦ in_left p (map place_of own) (map place_of others)
          (subst (In p) (sym (below_places first (Entry u.root u.below End))) (inr (in_left p (keys u.below) [] (below_key unit top u.kind u.below (p, Within n path) a))))
      | inr b ↦ in_right p (map place_of own) (map place_of others) (entry_there (suc unit) next (suc first) units p n path b)
    ])

is_found : (p : ℕ) (spots : List EntrySpot) → In p (map place_of spots) → begins_at p spots ≡ None → ⊥
is_found p [] h none = absurd h
is_found p (e ∷ spots) h none = by (e.node.at == p) refl h none (is_found p spots) where
  by : (b : Bool) → (e.node.at == p) ≡ b → In p (map place_of (e ∷ spots)) → cond b (Some e) (begins_at p spots) ≡ None → (In p (map place_of spots) → begins_at p spots ≡ None → ⊥) → ⊥
  by true q h none more = cc
  by false q (inl same) none more = absurd (let z : (e.node.at == p) ≡ true = eq-eqb e.node.at p same in cc)
  by false q (inr r) none more = more r none

-- ---- among all files

spot_there : (spots : List (ℕ × EntryName)) (p n : ℕ) (path : List ℕ) → spot_in spots p ≡ Within n path → In (p, Within n path) spots
unfolding spot_in
spot_there [] p n path e = absurd cc
spot_there (s ∷ spots) p n path e = by (s.0 == p) refl e (spot_there spots p n path) where
  by : (b : Bool) → (s.0 == p) ≡ b → (elim b as (λ _. EntryName) [ true ↦ s.1 | false ↦ spot_in spots p ]) ≡ Within n path → (spot_in spots p ≡ Within n path → In (p, Within n path) spots)
      → In (p, Within n path) (s ∷ spots)
  by true q h more = inl (λ i. (eqb-true s.0 p q i, h i))
  by false q h more = inr (more h)

-- the file with a number has an entry there
record IsEntryThere (docs : List (Doc ℕ)) (k offset : ℕ) : Type 0 where
  doc : Doc ℕ
  doc_is : slice_get docs k ≡ Some doc
  there : (first : ℕ) → In offset (map place_of (spots_from first doc.units))

name_there : (file unit top k : ℕ) (docs : List (Doc ℕ)) (at offset n : ℕ) (path : List ℕ) → at ≡ file + k → name_from file unit top docs (at_file at offset) ≡ Within n path → IsEntryThere docs k offset
unfolding name_from
name_there file unit top k [] at offset n path is e = absurd cc
name_there file unit top k (doc ∷ docs) at offset n path is e =
    by k (file == at) refl is (λ j is_later later. name_there (suc file) (unit + length doc.units) (top + tops_among doc.units) j docs at offset n path is_later later) e where
      by : (k : ℕ) (b : Bool) → (file == at) ≡ b → at ≡ file + k
          → ((j : ℕ) → at ≡ suc file + j → name_from (suc file) (unit + length doc.units) (top + tops_among doc.units) docs (at_file at offset) ≡ Within n path → IsEntryThere docs j offset)
          → (elim b as (λ _. EntryName) [
            | true ↦ spot_in (names_of_units unit top doc.units) offset
            | false ↦ name_from (suc file) (unit + length doc.units) (top + tops_among doc.units) docs (at_file at offset)
          ]) ≡ Within n path → IsEntryThere (doc ∷ docs) k offset
      by zero true q is more h = record {
        doc = doc;
        doc_is = refl;
        there = λ first. entry_there unit top first doc.units offset n path (spot_there (names_of_units unit top doc.units) offset n path h);
      }
      by zero false q is more h = absurd (let z : (file == at) ≡ true = eq-eqb file at (omega (arith, is)) in cc)
      by (suc k) true q is more h = absurd (let same = eqb-true file at q in omega (arith, same, is))
      by (suc k) false q is more h =
          let r = more k (omega (arith, is)) h in
          record { doc = r.doc; doc_is = r.doc_is; there = r.there }

pub no_top : (docs : List (Doc ℕ)) (p : Place) → entry_at docs p ≡ None → top_in (name_of_place docs (at_file p.file p.offset)) ≡ None
no_top docs p none = by (name_of_place docs (at_file p.file p.offset)) refl where
  by : (s : EntryName) → name_of_place docs (at_file p.file p.offset) ≡ s → top_in s ≡ None
  by (Within n path) e =
      let r = name_there 0 0 0 p.file docs p.file p.offset n path (omega arith) e in
      let first = units_before docs p.file in
      let there = ap (option_and_then (λ (doc : Doc ℕ). begins_at p.offset (spots_from first doc.units))) r.doc_is in
      absurd (is_found p.offset (spots_from first r.doc.units) (r.there first) (sym there ∙ none))
  by _ e = refl

-- ---- by the index of a file

module _ (contents : List (List ℕ)) (files : List File) (indexes : List Index) (p : Place) (kept : AreKept contents files) (indexed : AreIndexes (docs_of contents) indexes) where
  pub index_within : p.file < length files → p.file < length indexes
  index_within lt =
      let many = are_many contents files indexes kept indexed in
      let a = many.0 in
      let b = many.1 in
      omega (arith, lt, a, b)

  pub not_in_files : length files ≤ p.file → top_in (name_of_place (docs_of contents) (at_file p.file p.offset)) ≡ None
  not_in_files le = no_top (docs_of contents) p (no_file contents files p kept le)

  module _ (f : File) (got : slice_get files p.file ≡ Some f) where
    pub not_in_file : ((i : ℕ) → i < entries_in (units_of f.units) → place_at (units_of f.units) i ≡ p.offset → ⊥) → top_in (name_of_place (docs_of contents) (at_file p.file p.offset)) ≡ None
    not_in_file none = no_top (docs_of contents) p (no_entry contents files p kept f got none)

    module _ (x : Index) (index_is : slice_get indexes p.file ≡ Some x) where
      abbrev among : IsAmong contents p.file f x
      among = is_among contents files indexes p.file f x kept indexed got index_is

      step_within : (i : ℕ) → i < entries_in (units_of f.units) → i < length x.steps
      step_within i lt = let all = all_entries contents p.file among.bytes f x among.is in omega (arith, lt, all)

      abbrev names : List EntryName
      names = names_from x.starts.unit x.starts.top among.is.kept.read.doc.units

      entry_named : (i : ℕ) → i < entries_in (units_of f.units) → place_at (units_of f.units) i ≡ p.offset
          → slice_get names i ≡ Some (name_of_place (docs_of contents) (at_file p.file p.offset))
      entry_named i lt place =
          names_entries contents p.file among.bytes f x among.is i lt
          ∙ ap (λ (offset : ℕ). Some (name_at x.starts among.is.kept.read.doc offset)) place
          ∙ ap Some (sym (among.is.names p.offset))

      pub named_by : (i : ℕ) → (i < entries_in (units_of f.units)) × (place_at (units_of f.units) i ≡ p.offset) → IsNamedBy x i (name_of_place (docs_of contents) (at_file p.file p.offset))
      named_by i h = record { names = names; shows = among.is.index.names; there = entry_named i h.0 h.1; within = step_within i h.0 }

-- ---- the path from a top

-- an entry in a top has one
pub has_path : (s : EntryName) (top : Option ℕ) → top ≡ top_in s → is_some top ≡ true → Some (reverse (path_in s)) ≡ path_from_top s
has_path (Within n path) top is some = refl
has_path _ top is some = absurd (let z : false ≡ true = sym (ap is_some is) ∙ some in cc)
