-- Entries, units and files, laid one after the other: what is laid and what is left are all of them.
use Rattle.std.proofs.Common.{◌≡◌, ℕ, suc, ◌+◌, ◌-◌, ◌<◌, ◌≤◌, List, [], ◌∷◌, ◌++◌, drop, get_or, length, map, replicate, take, Some, slice_get, sym, ap, ◌∙◌, arith}
use Rattle.std.proofs.lemmas.List.{drop_all, map-append}
use Rattle.std.proofs.lemmas.Option.{slice_get-get_or}
use Rattle.dwz_def_reading.proofs.ListFacts.{drop_here}
use Rattle.dwz_layout.specs.declared.known.EntryTable.{EntryTable}
use Rattle.dwz_layout.specs.declared.layout.FileLayout.{FileLayout}
use Rattle.dwz_layout.specs.declared.order.UnitItems.{UnitItems}
use Rattle.dwz_layout.specs.declared.walk.Entry.{Entry}
use Rattle.dwz_layout.specs.declared.walk.Slot.{Slot}
use Rattle.dwz_layout.specs.Attributes.{WritingContext, call_of, no_numbers}
use Rattle.dwz_layout.specs.Entries.{entries_of}
use Rattle.dwz_layout.specs.Laid.{AllMade, FileMade, Laying, Made, file_view, no_unit, with_call, with_entries, with_files, with_unit, with_units}
use Rattle.dwz_layout.proofs.WalkLemmas.{entries_many, entries_none, take_nil}

-- ---- entries

pub entries_more : (k : EntryTable) (here of : WritingContext) (e : Entry) (old new : List Slot) (l m w : Laying) → of ≡ here → entries_of old ≡ e ∷ entries_of new
    → m ≡ with_call k e.origin (call_of k of no_numbers e) l
    → with_entries k here (entries_of old) l ≡ w → with_entries k here (entries_of new) m ≡ w
unfolding with_entries
entries_more k here of e old new l m w same first is so =
    ap (with_entries k here (entries_of new)) (is ∙ ap (λ (h : WritingContext). with_call k e.origin (call_of k h no_numbers e) l) same)
    ∙ sym (ap (λ (es : List Entry). with_entries k here es l) first)
    ∙ so

pub entries_done : (k : EntryTable) (here : WritingContext) (slots : List Slot) (l w : Laying) → slots ≡ [] → with_entries k here (entries_of slots) l ≡ w → l ≡ w
unfolding with_entries
entries_done k here slots l w none so = sym (ap (λ (s : List Slot). with_entries k here (entries_of s) l) none ∙ ap (λ (es : List Entry). with_entries k here es l) entries_none) ∙ so

pub walk_smaller : (e : Entry) (old new : List Slot) → entries_of old ≡ e ∷ entries_of new → length new < length old
walk_smaller e old new is = (let many = ap (λ (es : List Entry). length es) is in omega (arith, many, entries_many old, entries_many new))

-- ---- units

module _ (k : EntryTable) (units : List UnitItems) where
  pub units_more : (here next i : ℕ) (u : UnitItems) (old new all : Made) → i < length units → u ≡ get_or units i u → next ≡ here + 1 → new ≡ with_unit k here u old
      → with_units k here (drop i units) old ≡ all → with_units k next (drop (i + 1) units) new ≡ all
  unfolding with_units
  units_more here next i u old new all lt there step is so =
      let one : next ≡ suc here = omega (arith, step) in
      let found : slice_get units i ≡ Some u = slice_get-get_or units i u lt ∙ ap (λ (x : UnitItems). Some x) (sym there) in
      (λ j. with_units k (one j) (drop (i + 1) units) (is j))
      ∙ sym (ap (λ (w : List UnitItems). with_units k here w old) (drop_here units i u found))
      ∙ so

  pub units_done : (here i : ℕ) (old all : Made) → length units ≤ i → with_units k here (drop i units) old ≡ all → old ≡ all
  unfolding with_units
  units_done here i old all le so = sym (ap (λ (w : List UnitItems). with_units k here w old) (drop_all i units le)) ∙ so

-- ---- files

abbrev pub all_made : List FileLayout → (places roots : List ℕ) → AllMade
all_made laid places roots = record { files = map file_view laid; places = places; roots = roots }

module _ (k : EntryTable) (files : List (List UnitItems)) where
  pub files_more : (here next i : ℕ) (f : List UnitItems) (old new : List FileLayout) (one : FileLayout) (m : Made) (places roots : List ℕ) (all : AllMade) → i < length files → f ≡ get_or files i f
      → next ≡ here + length f
      → new ≡ old ++ one ∷ [] → m ≡ with_units k here f (no_unit places roots) → m.units ≡ one.units.items → m.tables ≡ one.tables → m.at ≡ one.end
      → with_files k here (drop i files) (all_made old places roots) ≡ all → with_files k next (drop (i + 1) files) (all_made new m.places m.roots) ≡ all
  unfolding with_files
  files_more here next i f old new one m places roots all lt there step grown is units tables end so =
      let found : slice_get files i ≡ Some f = slice_get-get_or files i f lt ∙ ap (λ (x : List UnitItems). Some x) (sym there) in
      let view : file_view one ≡ record { units = m.units; tables = m.tables; end = m.at } = (λ j. let v : FileMade = record { units = sym units j; tables = sym tables j; end = sym end j } in v) in
      let mapped : map file_view new ≡ map file_view old ++ record { units = m.units; tables = m.tables; end = m.at } ∷ [] =
      ap (map file_view) grown ∙ map-append file_view old (one ∷ []) ∙ ap (λ (v : FileMade). map file_view old ++ v ∷ []) view in
      (λ j. with_files k (step j) (drop (i + 1) files) (let a : AllMade = record { files = mapped j; places = m.places; roots = m.roots } in a))
      ∙ ap (λ (n : Made). with_files k (here + length f) (drop (i + 1) files)
      (let a : AllMade = record { files = map file_view old ++ record { units = n.units; tables = n.tables; end = n.at } ∷ []; places = n.places; roots = n.roots } in a)) is
      ∙ sym (ap (λ (w : List (List UnitItems)). with_files k here w (all_made old places roots)) (drop_here files i f found))
      ∙ so

  pub files_done : (here i : ℕ) (old all : AllMade) → length files ≤ i → with_files k here (drop i files) old ≡ all → old ≡ all
  unfolding with_files
  files_done here i old all le so = sym (ap (λ (w : List (List UnitItems)). with_files k here w old) (drop_all i files le)) ∙ so

-- where no entry has a place yet
pub start_places : (old new : List ℕ) (n had count : ℕ) → old ≡ [] → had ≡ 0 → n ≡ count → new ≡ take n old ++ replicate {A = ℕ} (n - had) 0 → new ≡ replicate {A = ℕ} count 0
start_places old new n had count none few many is =
    let all : n - had ≡ count = omega (arith, few, many) in
    is ∙ (λ i. take n (none i) ++ replicate {A = ℕ} (all i) 0) ∙ ap (λ (w : List ℕ). w ++ replicate {A = ℕ} count 0) (take_nil {X = ℕ} n)
