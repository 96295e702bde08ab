-- Entries by their numbers: their rows, and what is below them.
use Rattle.std.proofs.Common.{◌≡◌, ℕ, zero, suc, ◌+◌, ◌<◌, ◌≤◌, List, [], ◌∷◌, ◌++◌, length, drop, Ok, Some, slice_get, inl, inr, refl, sym, ap, subst, ◌∙◌, arith}
use Rattle.std.specs.List.{flat_map}
use Rattle.std.proofs.lemmas.List.{append-nil, append_assoc, drop-append-le, drop-drop, drop_at, length-append}
use Rattle.std.proofs.lemmas.List.Concat.{flat_map-append}
use Rattle.dwz_def_reading.specs.Documents.{DwUnit, Entries, Node, entries_map, node_map}
use Rattle.dwz_def_reading.specs.Entries.{RawEntry, root_position}
use Rattle.dwz_def_reading.specs.Meanings.{Around, scope_of}
use Rattle.dwz_def_reading.specs.Meant.{node_meaning, units_meaning}
use Rattle.dwz_def_reading.specs.Trees.{End, Entry, Forest, Position, behind, first_below, size}
use Rattle.dwz_def_reading.specs.Units.{RawUnit, entries_in, entry_count}
use Rattle.dwz_def_reading.proofs.ListFacts.{drop_first, got_below}
use Rattle.dwz_graph.proofs.RowUnits.{unit_within}
use Rattle.dwz_graph.proofs.TopLemmas.{get_cases}
use Rattle.dwz_unit.proofs.RowsFound.{entry_row, row_is}
use Rattle.dwz_unit.specs.declared.rows.RawEntry.{RawEntry as EntryOfCode}
use Rattle.dwz_graph.proofs.TreeLemmas.{parts, same_size}
use Rattle.dwz_unit.specs.Rows.{EntryRow, rows_below, rows_from, rows_in, rows_of, shown_entries}
use Rattle.dwz_check_index.specs.Index.{ListedEntry, listed, listed_units}
use Rattle.dwz_check_index.proofs.EntryRows.{entry_rows}
use Rattle.dwz_label.specs.Labels.{number}
use Rattle.dwz_def_check.specs.CrossLabels.{cross_entries_label, cross_entries_targets, lone_label, lone_targets}
use Rattle.dwz_def_check.specs.CrossNames.{CrossName}
use Rattle.dwz_check_labels.specs.declared.named_file.NamedFile.{NamedFile}
use Rattle.dwz_check_labels.specs.Entries.{entry_into, entry_label}
use Rattle.dwz_check_labels.specs.Files.{IsHereOf, KnowsTexts, Says, raw_in}
use Rattle.dwz_graph.specs.Here.{Here}
use Rattle.dwz_graph.specs.Resolved.{IsHere}

-- ---- the row of an entry

pub record RowOf (around : Around ℕ) (raw : List RawUnit) (i : ℕ) (d : ListedEntry ℕ) : Type 0 where
  pub row : EntryRow
  pub u : RawUnit
  pub found : slice_get (rows_of raw) i ≡ Some row
  pub is_unit : slice_get raw row.unit ≡ Some u
  pub means : node_meaning (scope_of around u) row.entry ≡ Ok d.0
  pub ends : row.end ≡ i + 1 + size d.1

pub row_of : (around : Around ℕ) (raw : List RawUnit) (said : List (DwUnit ℕ)) (i : ℕ) (d : ListedEntry ℕ) → units_meaning around raw ≡ Ok said → slice_get (listed_units said) i ≡ Some d
    → RowOf around raw i d
unfolding rows_below
row_of around raw said i d means found =
    let h = entry_rows around raw said means i d found in
    let s = scope_of around h.unit in
    let x = parts s h.e h.c End (Entry d.0 d.1 End) h.means in
    let row : EntryRow = record { entry = h.e; unit = h.number; depth = h.p.depth; end = h.p.before + 1 + size h.c } in
    let node : x.d ≡ d.0 = (let w = x.is in cc) in
    let below : x.below ≡ d.1 = (let w = x.is in cc) in
    let many = same_size s h.c x.below x.of_below in
    let same : size x.below ≡ size d.1 = ap (λ (w : Entries ℕ). size w) below in
    let at = h.at in
    record {
      row = row;
      u = h.unit;
      found = (drop_first (rows_of raw) i row _ h.rows).0;
      is_unit = h.is_unit;
      means = x.node ∙ ap (λ (w : Node ℕ). Ok w) node;
      ends = omega (arith, at, many, same);
    }

-- ---- entries in preorder

-- from an entry's number on stand the entry, those below it, and others
abbrev pub StandsAt : List (ListedEntry ℕ) → ℕ → ListedEntry ℕ → Type 0
StandsAt xs k d = (after : List (ListedEntry ℕ)) × (drop k xs ≡ d ∷ listed d.1 ++ after)

at_front : (xs ys : List (ListedEntry ℕ)) (k : ℕ) (d : ListedEntry ℕ) → slice_get xs k ≡ Some d → StandsAt xs k d → StandsAt (xs ++ ys) k d
at_front xs ys k d found h =
    let lt = got_below xs k d found in
    let le : k ≤ length xs = omega arith in
    (h.0 ++ ys, drop-append-le k xs ys le ∙ ap (λ (w : List (ListedEntry ℕ)). w ++ ys) h.1 ∙ ap (λ (w : List (ListedEntry ℕ)). d ∷ w) (append_assoc (listed d.1) h.0 ys))

at_back : (xs ys : List (ListedEntry ℕ)) (k j : ℕ) (d : ListedEntry ℕ) → k ≡ length xs + j → StandsAt ys j d → StandsAt (xs ++ ys) k d
at_back xs ys k j d is h =
    (h.0, ap (λ (n : ℕ). drop n (xs ++ ys)) is ∙ sym (drop-drop j (length xs) (xs ++ ys)) ∙ ap (λ (w : List (ListedEntry ℕ)). drop j w) (drop_at xs ys (length xs) refl) ∙ h.1)

tree_stands : (g : Entries ℕ) (k : ℕ) (d : ListedEntry ℕ) → slice_get (listed g) k ≡ Some d → StandsAt (listed g) k d
unfolding listed
tree_stands End k d found = absurd cc
tree_stands (Entry e c n) k d found = by k found (λ j is. tree_stands c j d is) (λ j is. tree_stands n j d is) where
  by : (k : ℕ) → slice_get (listed (Entry e c n)) k ≡ Some d → ((j : ℕ) → slice_get (listed c) j ≡ Some d → StandsAt (listed c) j d)
      → ((j : ℕ) → slice_get (listed n) j ≡ Some d → StandsAt (listed n) j d) → StandsAt (listed (Entry e c n)) k d
  by zero is inside later =
      let same : (e, c) ≡ d = cc in
      (listed n, ap (λ (w : ListedEntry ℕ). w ∷ listed c ++ listed n) same ∙ ap (λ (w : ListedEntry ℕ). d ∷ listed w.1 ++ listed n) same)
  by (suc j) is inside later = elim (get_cases (listed c) (listed n) j d is) [
    | inl a ↦ at_front (listed c) (listed n) j d a (inside j a)
    | inr b ↦ at_back (listed c) (listed n) j b.0 d b.1 (later b.0 b.2)
  ]

pub entry_stands : (units : List (DwUnit ℕ)) (k : ℕ) (d : ListedEntry ℕ) → slice_get (listed_units units) k ≡ Some d → StandsAt (listed_units units) k d
unfolding listed_units listed
entry_stands [] k d found = absurd cc
entry_stands (u ∷ units) k d found =
    let own = listed (Entry u.root u.below End) in
    let alone : own ++ listed_units units ≡ listed_units (u ∷ units) = ap (λ (w : List (ListedEntry ℕ)). ((u.root, u.below) ∷ w) ++ listed_units units) (append-nil (listed u.below)) in
    subst (λ (w : List (ListedEntry ℕ)). StandsAt w k d) alone
    (elim (get_cases own (listed_units units) k d (ap (λ (w : List (ListedEntry ℕ)). slice_get w k) alone ∙ found)) as (λ _. StandsAt (own ++ listed_units units) k d) [
      | inl a ↦ at_front own (listed_units units) k d a (tree_stands (Entry u.root u.below End) k d a)
      | inr b ↦ at_back own (listed_units units) k b.0 d b.1 (entry_stands units b.0 d b.2)
    ])

pub listed_many : (g : Entries ℕ) → length (listed g) ≡ size g
unfolding listed
listed_many End = refl
listed_many (Entry d c n) = omega (arith, length-append (listed c) (listed n), listed_many c, listed_many n)

-- ---- what they say

pub mapped_size : (name : ℕ → CrossName) (g : Entries ℕ) → size (entries_map name g) ≡ size g
unfolding entries_map
mapped_size name End = refl
mapped_size name (Entry d c n) = λ i. mapped_size name c i + mapped_size name n i + 1

pub listed_label : (name : ℕ → CrossName) (g : Entries ℕ) → flat_map (entry_label name) (listed g) ≡ cross_entries_label (entries_map name g)
unfolding listed entries_map cross_entries_label
listed_label name End = refl
listed_label name (Entry d c n) =
    let own = lone_label (node_map name d) in
    ap (λ (w : List ℕ). (number (size c) ++ own) ++ w) (flat_map-append (entry_label name) (listed c) (listed n))
    ∙ ap (λ (k : ℕ). (number k ++ own) ++ (flat_map (entry_label name) (listed c) ++ flat_map (entry_label name) (listed n))) (sym (mapped_size name c))
    ∙ (λ i. (number (size (entries_map name c)) ++ own) ++ (listed_label name c i ++ listed_label name n i))

pub listed_into : (name : ℕ → CrossName) (g : Entries ℕ) → flat_map (entry_into name) (listed g) ≡ cross_entries_targets (entries_map name g)
unfolding listed entries_map cross_entries_targets
listed_into name End = refl
listed_into name (Entry d c n) =
    let own = lone_targets (node_map name d) in
    ap (λ (w : List ℕ). own ++ w) (flat_map-append (entry_into name) (listed c) (listed n)) ∙ (λ i. own ++ (listed_into name c i ++ listed_into name n i))

-- ---- where the entries below one end

below_end : (f : Forest RawEntry) (unit : ℕ) (p : Position) (i : ℕ) (row : EntryRow) → slice_get (rows_below f unit p) i ≡ Some row → row.end ≤ p.before + size f
unfolding rows_below
below_end End unit p i row e = absurd cc
below_end (Entry x c l) unit p zero row e =
    let one : EntryRow = record { entry = x; unit = unit; depth = p.depth; end = (behind p c).before } in
    let same : one ≡ row = cc in
    let end = ap (λ (w : EntryRow). w.end) same in
    omega arith
below_end (Entry x c l) unit p (suc i) row e =
    elim (get_cases (rows_below c unit (first_below p)) (rows_below l unit (behind p c)) i row e) [
      | inl a ↦ (let r = below_end c unit (first_below p) i row a in omega arith)
      | inr b ↦ (let r = below_end l unit (behind p c) b.0 row b.2 in omega arith)
    ]

units_end : (raw : List RawUnit) (unit before i : ℕ) (row : EntryRow) → slice_get (rows_from raw unit before) i ≡ Some row → row.end ≤ before + entries_in raw
unfolding rows_from entries_in
units_end [] unit before i row e = absurd cc
units_end (u ∷ raw) unit before i row e =
    elim (get_cases (rows_in u unit before) (rows_from raw (unit + 1) (before + entry_count u)) i row e) [
      | inl a ↦ (let r = below_end (Entry u.root u.below End) unit (root_position before) i row a in omega arith)
      | inr b ↦ (let r = units_end raw (unit + 1) (before + entry_count u) b.0 row b.2 in omega arith)
    ]

pub row_end : (raw : List RawUnit) (i : ℕ) (row : EntryRow) → slice_get (rows_of raw) i ≡ Some row → row.end ≤ entries_in raw
row_end raw i row e = let r = units_end raw 0 0 i row e in omega arith

-- ---- as they are shown

pub shown_row : (raw : List RawUnit) (i : ℕ) (x : EntryOfCode) → slice_get (shown_entries raw) i ≡ Some x → (x.unit < length raw) × (x.end ≤ entries_in raw)
shown_row raw i x shown =
    let r = entry_row raw i x shown in
    let low = unit_within raw i r.0 r.1 in
    let high = row_end raw i r.0 r.1 in
    let unit = ap (λ (w : EntryOfCode). w.unit) r.2 in
    let end = ap (λ (w : EntryOfCode). w.end) r.2 in
    (omega arith, omega arith)

pub unit_shown : (raw : List RawUnit) (i : ℕ) (x : EntryOfCode) (row : EntryRow) → slice_get (shown_entries raw) i ≡ Some x → slice_get (rows_of raw) i ≡ Some row → row.unit ≡ x.unit
unit_shown raw i x row shown found = ap (λ (w : EntryOfCode). w.unit) (row_is raw i x row shown found)

-- what is kept of the unit of a row
pub here_of : (raw : List RawUnit) (n : ℕ) (h : Here) (u : RawUnit) → IsHereOf raw n h → slice_get raw n ≡ Some u → IsHere raw u h
here_of raw n h u is found =
    let both : Some is.u ≡ Some u = sym is.is_unit ∙ found in
    let same : is.u ≡ u = cc in
    subst (λ (w : RawUnit). IsHere raw w h) same is.here

pub knows_texts : (f : NamedFile) (around : Around ℕ) (said : List (DwUnit ℕ)) (n : ℕ) (h : Here) (row : EntryRow) (u : RawUnit) → Says f around said → row.unit ≡ n
    → slice_get (raw_in f) row.unit ≡ Some u
    → IsHereOf (raw_in f) n h → KnowsTexts f h.offsets (scope_of around u)
knows_texts f around said n h row u says is found here =
    let own = here_of (raw_in f) n h u here (ap (λ (k : ℕ). slice_get (raw_in f) k) (sym is) ∙ found) in
    record { sources = says.sources; common = says.common; base_is = own.base }
