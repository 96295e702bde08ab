-- What is written of an entry with all below it is what the definition of forms says: by induction over the tree, row by row.
use Rattle.std.proofs.Common.{◌≡◌, ℕ, suc, ◌+◌, ◌-◌, ◌≤◌, List, [], ◌∷◌, ◌++◌, length, map, take, drop, Ok, Option, Some, slice_get, refl, sym, ap, subst, ◌∙◌, arith}
use Rattle.std.specs.Option.{option_map_or}
use Rattle.std.specs.Prelude.{slice_range}
use Rattle.std.proofs.lemmas.List.{append-nil, append_assoc, map-append}
use Rattle.std.proofs.Math.Seq.{take-append_seam}
use Rattle.dwz_def_reading.specs.Entries.{RawEntry}
use Rattle.dwz_def_reading.specs.Trees.{End, Entry, Forest, Position, behind, first_below}
use Rattle.dwz_def_reading.specs.Units.{RawUnit}
use Rattle.dwz_def_reading.proofs.ListFacts.{drop_first}
use Rattle.dwz_def_reading.specs.Documents.{Entries, Node, entries_map, node_map}
use Rattle.dwz_def_reading.specs.Meanings.{scope_of}
use Rattle.dwz_def_reading.specs.Meant.{entries_meaning}
use Rattle.dwz_def_tops.specs.Spots.{EntryName}
use Rattle.dwz_graph.proofs.TopThere.{left_behind}
use Rattle.dwz_graph.proofs.TreeLemmas.{no_more, parts}
use Rattle.dwz_layout_items.specs.Lines.{Line, line, lines}
use Rattle.dwz_def_tops.proofs.Members.{each_split}
use Rattle.dwz_unit.specs.Rows.{EntryRow, rows_below, rows_of}
use Rattle.dwz_unit.proofs.RowLemmas.{shown-length}
use Rattle.dwz_def_encoding.specs.Placing.{UnitForms, UnitRole}
use Rattle.dwz_layout.specs.declared.known.EntryTable.{EntryTable}
use Rattle.dwz_layout.specs.declared.known.Row.{Row}
use Rattle.dwz_layout.specs.declared.walk.Origin.TheVariants.{Read as OfRow}
use Rattle.dwz_layout.specs.declared.walk.Slot.{Slot}
use Rattle.dwz_layout.specs.Attributes.{WritingContext}
use Rattle.dwz_layout.specs.Entries.{row, row_slots, slot, slots_below, tree_slots}
use Rattle.dwz_layout.specs.Known.{row_at, rows_in}
use Rattle.dwz_encode.specs.Shown.{HeldLine, Keys, line_held, slot_held}
use Rattle.dwz_law_layout.specs.Knows.{FileRead, IsRead, KnowsFile, KnowsOrigin, KnowsRow, KnowsSlots, NewNumbers, ShowsRow, ShowsTree, given_line}
use Rattle.dwz_law_layout.proofs.EntryFits.{row_there, slot_fits}

pub row_slots-append : (file depth base i : ℕ) (xs ys : List EntryRow) → row_slots file depth base i (xs ++ ys) ≡ row_slots file depth base i xs ++ row_slots file depth base (i + length xs) ys
unfolding row_slots
row_slots-append file depth base i [] ys = ap (λ (n : ℕ). row_slots file depth base n ys) (let e : i ≡ i + 0 = omega arith in e)
row_slots-append file depth base i (x ∷ xs) ys =
    let e : suc i + length xs ≡ i + length (x ∷ xs) = omega arith in
    ap (λ (w : List Slot). slot (depth + (x.depth - base)) (OfRow (row file i)) ∷ w) (row_slots-append file depth base (suc i) xs ys
    ∙ ap (λ (n : ℕ). row_slots file depth base (suc i) xs ++ row_slots file depth base n ys) e)

module _ (keys : Keys EntryName) (k : EntryTable) (f : FileRead) (here : WritingContext) (ft : UnitForms EntryName) (rn : NewNumbers) (h : UnitRole) (here_is : here.holder ≡ h) (fit_is : ft.holder ≡ h)
    (file : KnowsFile k f) where
  abbrev held : List Slot → List (HeldLine EntryName)
  held slots = map (slot_held keys k here) slots

  abbrev fitted : List (Line EntryName) → List (HeldLine EntryName)
  fitted ls = map (λ l. line_held (given_line ft rn l)) ls

  abbrev AllKnown : List Slot → Type 0
  AllKnown slots = KnowsSlots keys k f here.unit ft rn slots

  -- an entry alone
  pub row_fits : (depth : ℕ) (r : Row) (node : Node EntryName) → ShowsRow f r node → (r.file ≡ f.number → KnowsRow keys k f here.unit ft rn r.entry)
      → slot_held keys k here (slot depth (OfRow r)) ≡ line_held (given_line ft rn (line depth node))
  row_fits depth r node shows known =
      let one = subst (λ (q : Row). q.file ≡ f.number → KnowsRow keys k f here.unit ft rn q.entry) shows.row_is known refl in
      ap (λ (q : Row). slot_held keys k here (slot depth (OfRow q))) shows.row_is
      ∙ slot_fits keys k f here ft rn h here_is fit_is shows.i shows.x shows.d file shows.read (one.entry shows.x shows.d shows.read) (one.name shows.x shows.d shows.read) depth
      ∙ ap (λ (n : Node EntryName). line_held (given_line ft rn (line depth n))) (sym shows.node_is)

  module _ (un : ℕ) (u : RawUnit) (is_unit : slice_get f.raw un ≡ Some u) (depth base : ℕ) where
    abbrev Slots : Forest RawEntry → Position → List Slot
    Slots t p = row_slots f.number depth base p.before (rows_below t un p)

    forest_fits : (t : Forest RawEntry) (g : Entries ℕ) (p : Position) (rest : List EntryRow) → entries_meaning (scope_of f.around u) t ≡ Ok g
        → drop p.before (rows_of f.raw) ≡ rows_below t un p ++ rest → base ≤ p.depth
        → AllKnown (Slots t p) → held (Slots t p) ≡ fitted (lines (depth + (p.depth - base)) (entries_map f.after g))
    unfolding rows_below row_slots lines entries_map
    forest_fits End g p rest means found le known = ap (λ (w : Entries ℕ). fitted (lines (depth + (p.depth - base)) (entries_map f.after w))) (no_more (scope_of f.around u) g means)
    forest_fits (Entry e c n) g p rest means found le known =
        let x = parts (scope_of f.around u) e c n g means in
        let r : EntryRow = record { entry = e; unit = un; depth = p.depth; end = (behind p c).before } in
        let inside = rows_below c un (first_below p) in
        let others = rows_below n un (behind p c) in
        let deep = depth + (p.depth - base) in
        let at = drop_first (rows_of f.raw) p.before r ((inside ++ others) ++ rest) found in
        let read : IsRead f p.before r x.d = record { unit = u; found = at.0; is_unit = is_unit; means = x.node } in
        let below : drop (first_below p).before (rows_of f.raw) ≡ inside ++ (others ++ rest) = at.1 ∙ append_assoc inside others rest in
        let many = shown-length c un (first_below p) in
        let later = left_behind (rows_of f.raw) (first_below p).before (behind p c).before inside (others ++ rest) below (omega (arith, many)) in
        let one : suc p.before ≡ (first_below p).before = omega arith in
        let two : suc p.before + length inside ≡ (behind p c).before = omega (arith, many) in
        let split : row_slots f.number depth base (suc p.before) (inside ++ others) ≡ Slots c (first_below p) ++ Slots n (behind p c) =
        row_slots-append f.number depth base (suc p.before) inside others ∙ (λ i. row_slots f.number depth base (one i) inside ++ row_slots f.number depth base (two i) others) in
        let both = each_split (λ s. KnowsOrigin keys k f here.unit ft rn s.origin) (Slots c (first_below p)) (Slots n (behind p c)) (subst AllKnown split known.1) in
        let own = known.0 refl in
        let head = slot_fits keys k f here ft rn h here_is fit_is p.before r x.d file read (own.entry r x.d read) (own.name r x.d read) deep in
        let deeper : depth + ((first_below p).depth - base) ≡ suc deep = omega (arith, le) in
        let children : held (Slots c (first_below p)) ≡ fitted (lines (suc deep) (entries_map f.after x.below)) =
        forest_fits c x.below (first_below p) (others ++ rest) x.of_below below (omega (arith, le)) both.0 ∙ ap (λ (m : ℕ). fitted (lines m (entries_map f.after x.below))) deeper in
        let siblings = forest_fits n x.next (behind p c) rest x.of_next later le both.1 in
        let tail : held (row_slots f.number depth base (suc p.before) (inside ++ others)) ≡ fitted (lines (suc deep) (entries_map f.after x.below) ++ lines deep (entries_map f.after x.next)) =
        ap held split ∙ map-append (slot_held keys k here) (Slots c (first_below p)) (Slots n (behind p c)) ∙ (λ i. children i ++ siblings i)
        ∙ sym (map-append (λ (l : Line EntryName). line_held (given_line ft rn l)) (lines (suc deep) (entries_map f.after x.below)) (lines deep (entries_map f.after x.next))) in
        (λ i. head i ∷ tail i) ∙ ap (λ (w : Entries ℕ). fitted (lines deep (entries_map f.after w))) x.is

  first_row : (e : RawEntry) (c : Forest RawEntry) (un : ℕ) (p : Position) → rows_below (Entry e c End) un p ≡ record { entry = e; unit = un; depth = p.depth; end = (behind p c).before } ∷
      rows_below c un (first_below p)
  unfolding rows_below
  first_row e c un p = (let r : EntryRow = record { entry = e; unit = un; depth = p.depth; end = (behind p c).before } in ap (λ (w : List EntryRow). r ∷ w)
      (append-nil (rows_below c un (first_below p))))

  -- an entry with all below it
  pub tree_fits : (depth : ℕ) (r : Row) (node : Node EntryName) (below : Entries EntryName) → ShowsTree f r node below → AllKnown (tree_slots k depth r)
      → held (tree_slots k depth r) ≡ fitted (line depth node ∷ lines (suc depth) below)
  tree_fits depth r node below t known =
      let p = t.p in
      let top = row f.number p.before in
      let x : EntryRow = record { entry = t.e; unit = t.number; depth = p.depth; end = (behind p t.c).before } in
      let inside = rows_below t.c t.number (first_below p) in
      let stand : drop p.before (rows_of f.raw) ≡ x ∷ (inside ++ t.behind) = t.stand ∙ ap (λ (w : List EntryRow). w ++ t.behind) (first_row t.e t.c t.number p) in
      let at = drop_first (rows_of f.raw) p.before x (inside ++ t.behind) stand in
      let s = scope_of f.around t.unit in
      let y = parts s t.e t.c End (Entry t.d t.g End) t.means in
      let whole : Entry y.d y.below y.next ≡ Entry t.d t.g End = y.is in
      let d_is : y.d ≡ t.d = cc in
      let g_is : y.below ≡ t.g = cc in
      let read : IsRead f p.before x y.d = record { unit = t.unit; found = at.0; is_unit = t.is_unit; means = y.node } in
      let there : row_at k top ≡ Some x = row_there keys k f here ft rn h here_is fit_is p.before x y.d file read in
      let many = shown-length t.c t.number (first_below p) in
      let one : (first_below p).before ≡ suc p.before = omega arith in
      let count : (behind p t.c).before - suc p.before ≡ length inside = omega (arith, many) in
      let range : slice_range (rows_in k f.number) (suc p.before) (behind p t.c).before ≡ inside =
      (λ i. take (count i) (drop (suc p.before) (file.rows i))) ∙ ap (λ (w : List EntryRow). take (length inside) w) (ap (λ (m : ℕ). drop m (rows_of f.raw)) (sym one) ∙ at.1)
      ∙ take-append_seam inside t.behind in
      let slots : tree_slots k depth top ≡ slot depth (OfRow top) ∷ row_slots f.number depth p.depth (first_below p).before inside =
      ap (λ (o : Option EntryRow). slot depth (OfRow top) ∷ option_map_or (slots_below k depth top) o []) there
      ∙ (λ i. slot depth (OfRow top) ∷ row_slots f.number depth p.depth (sym one i) (range i)) in
      let all : AllKnown (slot depth (OfRow top) ∷ row_slots f.number depth p.depth (first_below p).before inside) =
      subst AllKnown slots (subst (λ (q : Row). AllKnown (tree_slots k depth q)) t.row_is known) in
      let own = all.0 refl in
      let head = slot_fits keys k f here ft rn h here_is fit_is p.before x y.d file read (own.entry x y.d read) (own.name x y.d read) depth in
      let deeper : depth + ((first_below p).depth - p.depth) ≡ suc depth = omega arith in
      let inner = forest_fits t.number t.unit t.is_unit depth p.depth t.c y.below (first_below p) t.behind y.of_below at.1 (omega arith) all.1
      ∙ ap (λ (m : ℕ). fitted (lines m (entries_map f.after y.below))) deeper in
      ap (λ (q : Row). held (tree_slots k depth q)) t.row_is
      ∙ ap held slots
      ∙ (λ i. head i ∷ inner i)
      ∙ (λ i. fitted (line depth (node_map f.after (d_is i)) ∷ lines (suc depth) (entries_map f.after (g_is i))))
      ∙ (λ i. fitted (line depth (sym t.node_is i) ∷ lines (suc depth) (sym t.below_is i)))
