-- The entries from that of a top on, with all below it, are named within the top: by induction over the tree, row by row.
use Rattle.std.proofs.Common.{◌≡◌, ℕ, suc, ◌+◌, ◌-◌, List, [], ◌∷◌, ◌++◌, length, take, drop, Ok, Option, Some, slice_get, refl, sym, ap, subst, ◌∙◌, arith}
use Rattle.std.specs.Option.{option_map_or}
use Rattle.std.specs.Prelude.{slice_range}
use Rattle.std.proofs.lemmas.List.{append-nil, append_assoc}
use Rattle.std.proofs.Math.Seq.{take-append_seam}
use Rattle.dwz_def_reading.specs.Entries.{RawEntry}
use Rattle.dwz_def_reading.specs.Trees.{End, Entry, Forest, Position, behind, first_below}
use Rattle.dwz_def_reading.specs.Units.{RawUnit}
use Rattle.dwz_def_reading.proofs.ListFacts.{drop_first}
use Rattle.dwz_def_reading.specs.Documents.{Entries, Node, entries_map, node_map}
use Rattle.dwz_def_reading.specs.Meanings.{scope_of}
use Rattle.dwz_def_reading.specs.Meant.{entries_meaning}
use Rattle.dwz_def_reading.specs.Lists.{Each}
use Rattle.dwz_def_tops.proofs.Members.{each_append}
use Rattle.dwz_def_tops.specs.Spots.{EntryName, Labelled, LabelledTop, Top, Within}
use Rattle.dwz_graph.proofs.TopThere.{left_behind}
use Rattle.dwz_graph.proofs.TreeLemmas.{parts}
use Rattle.dwz_graph.specs.declared.file.File.{File}
use Rattle.dwz_graph.specs.Index.{Index}
use Rattle.dwz_graph.specs.Across.{name_at}
use Rattle.dwz_unit.specs.Rows.{EntryRow, rows_below, rows_of, units_of as raw_units}
use Rattle.dwz_unit.proofs.RowLemmas.{shown-length}
use Rattle.dwz_layout.specs.declared.known.EntryTable.{EntryTable}
use Rattle.dwz_layout.specs.declared.known.Row.{Row}
use Rattle.dwz_layout.specs.declared.walk.Origin.{Origin}
use Rattle.dwz_layout.specs.declared.walk.Origin.TheVariants.{Chained, Imported, OwnRoot, Read as OfRow}
use Rattle.dwz_layout.specs.declared.walk.Slot.{Slot}
use Rattle.dwz_layout.specs.Entries.{row, row_slots, slot, slots_below, tree_slots}
use Rattle.dwz_layout.specs.Known.{row_at, rows_in, top_row}
use Rattle.dwz_law_layout.specs.Knows.{FileRead, IsRead}
use Rattle.dwz_law_layout.proofs.RowFits.{row_slots-append}
use Rattle.dwz_law_layout.specs.Beside.{Beside}
use Rattle.dwz_law_layout.specs.Facts.{RunFacts, file_read}
use Rattle.dwz_law_layout.proofs.FileEntries.{IsHere, named, read_name, run_name}

pub first_row : (e : RawEntry) (c : Forest RawEntry) (un : ℕ) (p : Position)
    → rows_below (Entry e c End) un p ≡ record { entry = e; unit = un; depth = p.depth; end = (behind p c).before } ∷ rows_below c un (first_below p)
unfolding rows_below
first_row e c un p = (let r : EntryRow = record { entry = e; unit = un; depth = p.depth; end = (behind p c).before } in ap (λ (w : List EntryRow). r ∷ w)
    (append-nil (rows_below c un (first_below p))))

-- ---- of a file

module _ {beside : Beside} (f : RunFacts beside) (k : EntryTable) (n : ℕ) (x : File) (index : Index) (o : IsHere f k n x index) where
  abbrev pub F : FileRead
  F = file_read f n o.bytes x

  abbrev pub name : ℕ → EntryName
  name = name_at index.starts o.among.kept.read.doc

  -- where a top stands in its file, and what its rows mean there
  pub record TopRead (top : Top) : Type 0 where
    pub number : ℕ
    pub unit : RawUnit
    pub is_unit : slice_get (raw_units x.units) number ≡ Some unit
    pub e : RawEntry
    pub c : Forest RawEntry
    pub d : Node ℕ
    pub g : Entries ℕ
    pub p : Position
    pub behind_it : List EntryRow
    pub row_is : top_row k top.number ≡ row n p.before
    pub stand : drop p.before (rows_of (raw_units x.units)) ≡ rows_below (Entry e c End) number p ++ behind_it
    pub means : entries_meaning (scope_of F.around unit) (Entry e c End) ≡ Ok (Entry d g End)
    pub node : top.node ≡ node_map name d
    pub below : top.below ≡ entries_map name g

  -- an entry of the file that is named within the top with that number
  pub record IsWithin (top entry : ℕ) : Type 0 where
    pub path : List ℕ
    pub is : named f k n x index o entry ≡ Within top path

  abbrev pub WithinOrigin : ℕ → Origin → Type 0
  WithinOrigin top (OfRow r) = (r.file ≡ n) × IsWithin top r.entry
  WithinOrigin top (OwnRoot place) = Unit {0}
  WithinOrigin top (Chained chain space) = Unit {0}
  WithinOrigin top (Imported part) = Unit {0}

  abbrev pub AllWithin : ℕ → List Slot → Type 0
  AllWithin top slots = Each (λ s. WithinOrigin top s.origin) slots

  read_named : (i : ℕ) (r : EntryRow) (d : Node ℕ) → IsRead F i r d → named f k n x index o i ≡ name d.at
  read_named i r d read = sym (read_name f k n x index o o.bytes i r d read) ∙ run_name f k n x index o d.at

  module _ (top : ℕ) (un : ℕ) (u : RawUnit) (is_unit : slice_get (raw_units x.units) un ≡ Some u) (depth base : ℕ) where
    forest_within : (t : Forest RawEntry) (g : Entries ℕ) (p : Position) (rest : List EntryRow) (path : List ℕ) (j : ℕ) → entries_meaning (scope_of F.around u) t ≡ Ok g
        → drop p.before (rows_of (raw_units x.units)) ≡ rows_below t un p ++ rest → Labelled (Within top) path j (entries_map name g)
        → AllWithin top (row_slots n depth base p.before (rows_below t un p))
    unfolding rows_below row_slots entries_map
    forest_within End g p rest path j means found labels = tt
    forest_within (Entry e c m) g p rest path j means found labels =
        let all = rows_of (raw_units x.units) in
        let y = parts (scope_of F.around u) e c m g means in
        let r : EntryRow = record { entry = e; unit = un; depth = p.depth; end = (behind p c).before } in
        let inside = rows_below c un (first_below p) in
        let others = rows_below m un (behind p c) in
        let at = drop_first all p.before r ((inside ++ others) ++ rest) found in
        let read : IsRead F p.before r y.d = record { unit = u; found = at.0; is_unit = is_unit; means = y.node } in
        let below : drop (first_below p).before all ≡ inside ++ (others ++ rest) = at.1 ∙ append_assoc inside others rest in
        let many = shown-length c un (first_below p) in
        let later = left_behind all (first_below p).before (behind p c).before inside (others ++ rest) below (omega (arith, many)) in
        let one : suc p.before ≡ (first_below p).before = omega arith in
        let two : suc p.before + length inside ≡ (behind p c).before = omega (arith, many) in
        let split : row_slots n depth base (suc p.before) (inside ++ others) ≡ row_slots n depth base (first_below p).before inside ++ row_slots n depth base (behind p c).before others =
        row_slots-append n depth base (suc p.before) inside others ∙ (λ i. row_slots n depth base (one i) inside ++ row_slots n depth base (two i) others) in
        let own : Labelled (Within top) path j (entries_map name (Entry y.d y.below y.next)) = subst (λ (w : Entries ℕ). Labelled (Within top) path j (entries_map name w)) (sym y.is) labels in
        let children = forest_within c y.below (first_below p) (others ++ rest) (j ∷ path) 0 y.of_below below own.1 in
        let siblings = forest_within m y.next (behind p c) rest path (suc j) y.of_next later own.2 in
        let tail = each_append (λ s. WithinOrigin top s.origin) (row_slots n depth base (first_below p).before inside) (row_slots n depth base (behind p c).before others) children siblings in
        ((refl, record { path = j ∷ path; is = read_named p.before r y.d read ∙ own.0 }), subst (AllWithin top) (sym split) tail)

  -- an entry with all below it
  pub tree_within : rows_in k n ≡ rows_of (raw_units x.units) → (depth : ℕ) (top : Top) → LabelledTop top → TopRead top → AllWithin top.number (tree_slots k depth (top_row k top.number))
  unfolding entries_map
  tree_within file depth top labels t =
      let all = rows_of (raw_units x.units) in
      let p = t.p in
      let first = row n p.before in
      let r : EntryRow = record { entry = t.e; unit = t.number; depth = p.depth; end = (behind p t.c).before } in
      let inside = rows_below t.c t.number (first_below p) in
      let stand : drop p.before all ≡ r ∷ (inside ++ t.behind_it) = t.stand ∙ ap (λ (w : List EntryRow). w ++ t.behind_it) (first_row t.e t.c t.number p) in
      let at = drop_first all p.before r (inside ++ t.behind_it) stand in
      let y = parts (scope_of F.around t.unit) t.e t.c End (Entry t.d t.g End) t.means in
      let whole : Entry y.d y.below y.next ≡ Entry t.d t.g End = y.is in
      let d_is : y.d ≡ t.d = cc in
      let g_is : y.below ≡ t.g = cc in
      let read : IsRead F p.before r y.d = record { unit = t.unit; found = at.0; is_unit = t.is_unit; means = y.node } in
      let there : row_at k first ≡ Some r = ap (λ (w : List EntryRow). slice_get w p.before) file ∙ at.0 in
      let many = shown-length t.c t.number (first_below p) in
      let one : (first_below p).before ≡ suc p.before = omega arith in
      let count : (behind p t.c).before - suc p.before ≡ length inside = omega (arith, many) in
      let range : slice_range (rows_in k n) (suc p.before) (behind p t.c).before ≡ inside =
      (λ i. take (count i) (drop (suc p.before) (file i))) ∙ ap (λ (w : List EntryRow). take (length inside) w) (ap (λ (m : ℕ). drop m all) (sym one) ∙ at.1)
      ∙ take-append_seam inside t.behind_it in
      let slots : tree_slots k depth first ≡ slot depth (OfRow first) ∷ row_slots n depth p.depth (first_below p).before inside =
      ap (λ (q : Option EntryRow). slot depth (OfRow first) ∷ option_map_or (slots_below k depth first) q []) there
      ∙ (λ i. slot depth (OfRow first) ∷ row_slots n depth p.depth (sym one i) (range i)) in
      let root : named f k n x index o p.before ≡ Within top.number [] =
      read_named p.before r y.d read ∙ ap (λ (d : Node ℕ). name d.at) d_is ∙ ap (λ (w : Node EntryName). w.at) (sym t.node) ∙ labels.0 in
      let own : Labelled (Within top.number) [] 0 (entries_map name y.below) =
      subst (λ (w : Entries EntryName). Labelled (Within top.number) [] 0 w) (t.below ∙ ap (entries_map name) (sym g_is)) labels.1 in
      let inner = forest_within top.number t.number t.unit t.is_unit depth p.depth t.c y.below (first_below p) t.behind_it [] 0 y.of_below at.1 own in
      subst (λ (w : Row). AllWithin top.number (tree_slots k depth w)) (sym t.row_is)
      (subst (AllWithin top.number) (sym slots) ((refl, record { path = []; is = root }), inner))
