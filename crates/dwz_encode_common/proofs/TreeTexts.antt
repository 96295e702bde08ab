-- What an entry with all below it gives, row by row, is what its meaning says, where each row does: by induction over the tree.
use Rattle.std.proofs.Common.{◌≡◌, ℕ, suc, ◌+◌, ◌-◌, List, [], ◌∷◌, ◌++◌, length, take, drop, Ok, Option, Some, slice_get, sym, ap, ◌∙◌, arith}
use Rattle.std.specs.List.{flat_map}
use Rattle.std.specs.Option.{option_map_or}
use Rattle.std.specs.Prelude.{slice_range}
use Rattle.std.proofs.lemmas.List.{append_assoc}
use Rattle.std.proofs.lemmas.List.Concat.{flat_map-append}
use Rattle.std.proofs.Math.Seq.{take-append_seam}
use Rattle.dwz_def_reading.specs.Entries.{RawEntry}
use Rattle.dwz_def_reading.specs.Trees.{End, Entry, Forest, Position, behind, first_below}
use Rattle.dwz_def_reading.specs.Units.{RawUnit}
use Rattle.dwz_def_reading.proofs.ListFacts.{drop_first}
use Rattle.dwz_def_reading.specs.Documents.{Attr, Entries, Node, entries_map, node_map}
use Rattle.dwz_def_reading.specs.Meanings.{scope_of}
use Rattle.dwz_def_reading.specs.Meant.{entries_meaning}
use Rattle.dwz_def_tops.specs.Spots.{EntryName}
use Rattle.dwz_graph.proofs.TopThere.{left_behind}
use Rattle.dwz_graph.proofs.TreeLemmas.{no_more, parts}
use Rattle.dwz_layout_items.specs.Lines.{Line, line, lines}
use Rattle.dwz_unit.specs.Rows.{EntryRow, rows_below, rows_of}
use Rattle.dwz_unit.proofs.RowLemmas.{shown-length}
use Rattle.dwz_layout.specs.declared.known.EntryTable.{EntryTable}
use Rattle.dwz_layout.specs.declared.known.Row.{Row}
use Rattle.dwz_layout.specs.declared.walk.Origin.{Origin}
use Rattle.dwz_layout.specs.declared.walk.Origin.TheVariants.{Read as OfRow}
use Rattle.dwz_layout.specs.declared.walk.Slot.{Slot}
use Rattle.dwz_layout.specs.Entries.{row, row_slots, slot, slots_below, tree_slots}
use Rattle.dwz_layout.specs.Known.{row_at, rows_in}
use Rattle.dwz_law_layout.specs.Knows.{FileRead, IsRead, ShowsTree}
use Rattle.dwz_law_layout.proofs.RowFits.{row_slots-append}
use Rattle.dwz_law_layout.proofs.TopNames.{first_row}
use Rattle.dwz_encode_common.specs.Gathered.{lines_said}
use Rattle.dwz_encode_common.specs.Stored.{slots_give}

module _ (give : Origin → List (List ℕ)) (said : Attr EntryName → List (List ℕ)) (k : EntryTable) (f : FileRead)
    (file : rows_in k f.number ≡ rows_of f.raw)
    (agree : (i : ℕ) (r : EntryRow) (d : Node ℕ) → IsRead f i r d
    → give (OfRow (row f.number i)) ≡ flat_map said (node_map f.after d).attrs) where
  abbrev says : List (Line EntryName) → List (List ℕ)
  says ls = lines_said said ls

  module _ (un : ℕ) (u : RawUnit) (is_unit : slice_get f.raw un ≡ Some u) (depth base : ℕ) where
    abbrev Slots : Forest RawEntry → Position → List Slot
    Slots t p = row_slots f.number depth base p.before (rows_below t un p)

    forest_gives : (t : Forest RawEntry) (g : Entries ℕ) (p : Position) (rest : List EntryRow) (deep : ℕ)
        → entries_meaning (scope_of f.around u) t ≡ Ok g
        → drop p.before (rows_of f.raw) ≡ rows_below t un p ++ rest
        → slots_give give (Slots t p) ≡ says (lines deep (entries_map f.after g))
    unfolding rows_below row_slots lines entries_map
    forest_gives End g p rest deep means found =
        ap (λ (w : Entries ℕ). says (lines deep (entries_map f.after w))) (no_more (scope_of f.around u) g means)
    forest_gives (Entry e c n) g p rest deep means found =
        let x = parts (scope_of f.around u) e c n g means in
        let r : EntryRow = record { entry = e; unit = un; depth = p.depth; end = (behind p c).before } in
        let inside = rows_below c un (first_below p) in
        let others = rows_below n un (behind p c) in
        let at = drop_first (rows_of f.raw) p.before r ((inside ++ others) ++ rest) found in
        let read : IsRead f p.before r x.d = record { unit = u; found = at.0; is_unit = is_unit; means = x.node } in
        let below : drop (first_below p).before (rows_of f.raw) ≡ inside ++ (others ++ rest) = at.1 ∙ append_assoc inside others rest in
        let many = shown-length c un (first_below p) in
        let later = left_behind (rows_of f.raw) (first_below p).before (behind p c).before inside (others ++ rest) below
        (omega (arith, many)) in
        let one : suc p.before ≡ (first_below p).before = omega arith in
        let two : suc p.before + length inside ≡ (behind p c).before = omega (arith, many) in
        let split : row_slots f.number depth base (suc p.before) (inside ++ others) ≡ Slots c (first_below p) ++ Slots n (behind p c) =
        row_slots-append f.number depth base (suc p.before) inside others
        ∙ (λ i. row_slots f.number depth base (one i) inside ++ row_slots f.number depth base (two i) others) in
        let head = agree p.before r x.d read in
        let children = forest_gives c x.below (first_below p) (others ++ rest) (suc deep) x.of_below below in
        let siblings = forest_gives n x.next (behind p c) rest deep x.of_next later in
        let tail : slots_give give (row_slots f.number depth base (suc p.before) (inside ++ others))
        ≡ says (lines (suc deep) (entries_map f.after x.below) ++ lines deep (entries_map f.after x.next)) =
        ap (slots_give give) split
        ∙ flat_map-append (λ (s : Slot). give s.origin) (Slots c (first_below p)) (Slots n (behind p c))
        ∙ (λ i. children i ++ siblings i)
        ∙ sym (flat_map-append (λ (l : Line EntryName). flat_map said l.node.attrs) (lines (suc deep) (entries_map f.after x.below))
        (lines deep (entries_map f.after x.next))) in
        (λ i. head i ++ tail i) ∙ ap (λ (w : Entries ℕ). says (lines deep (entries_map f.after w))) x.is

  -- an entry with all below it
  pub tree_gives : (depth : ℕ) (r : Row) (node : Node EntryName) (below : Entries EntryName) → ShowsTree f r node below
      → slots_give give (tree_slots k depth r) ≡ says (line depth node ∷ lines (suc depth) below)
  tree_gives depth r node below t =
      let p = t.p in
      let top = row f.number p.before in
      let x : EntryRow = record { entry = t.e; unit = t.number; depth = p.depth; end = (behind p t.c).before } in
      let inside = rows_below t.c t.number (first_below p) in
      let stand : drop p.before (rows_of f.raw) ≡ x ∷ (inside ++ t.behind) =
      t.stand ∙ ap (λ (w : List EntryRow). w ++ t.behind) (first_row t.e t.c t.number p) in
      let at = drop_first (rows_of f.raw) p.before x (inside ++ t.behind) stand in
      let s = scope_of f.around t.unit in
      let y = parts s t.e t.c End (Entry t.d t.g End) t.means in
      let whole : Entry y.d y.below y.next ≡ Entry t.d t.g End = y.is in
      let d_is : y.d ≡ t.d = cc in
      let g_is : y.below ≡ t.g = cc in
      let read : IsRead f p.before x y.d = record { unit = t.unit; found = at.0; is_unit = t.is_unit; means = y.node } in
      let there : row_at k top ≡ Some x = ap (λ (w : List EntryRow). slice_get w p.before) file ∙ at.0 in
      let many = shown-length t.c t.number (first_below p) in
      let one : (first_below p).before ≡ suc p.before = omega arith in
      let count : (behind p t.c).before - suc p.before ≡ length inside = omega (arith, many) in
      let range : slice_range (rows_in k f.number) (suc p.before) (behind p t.c).before ≡ inside =
      (λ i. take (count i) (drop (suc p.before) (file i)))
      ∙ ap (λ (w : List EntryRow). take (length inside) w) (ap (λ (m : ℕ). drop m (rows_of f.raw)) (sym one) ∙ at.1)
      ∙ take-append_seam inside t.behind in
      let slots : tree_slots k depth top ≡ slot depth (OfRow top) ∷ row_slots f.number depth p.depth (first_below p).before inside =
      ap (λ (o : Option EntryRow). slot depth (OfRow top) ∷ option_map_or (slots_below k depth top) o []) there
      ∙ (λ i. slot depth (OfRow top) ∷ row_slots f.number depth p.depth (sym one i) (range i)) in
      let head = agree p.before x y.d read in
      let inner = forest_gives t.number t.unit t.is_unit depth p.depth t.c y.below (first_below p) t.behind (suc depth) y.of_below at.1 in
      ap (λ (q : Row). slots_give give (tree_slots k depth q)) t.row_is
      ∙ ap (slots_give give) slots
      ∙ (λ i. head i ++ inner i)
      ∙ (λ i. says (line depth (node_map f.after (d_is i)) ∷ lines (suc depth) (entries_map f.after (g_is i))))
      ∙ (λ i. says (line depth (sym t.node_is i) ∷ lines (suc depth) (sym t.below_is i)))
