-- What is written of an entry with all below it, where what stands for each of these after stays: by induction over the tree, row by row.
use Rattle.std.proofs.Common.{◌≡◌, ℕ, suc, ◌+◌, ◌-◌, false, List, [], ◌∷◌, ◌++◌, length, take, drop, Ok, Option, Some, slice_get, refl, sym, ap, subst, ◌∙◌, arith, ◌<◌}
use Rattle.std.specs.Option.{option_map_or}
use Rattle.std.specs.Prelude.{slice_range}
use Rattle.std.proofs.lemmas.List.{append-nil, append_assoc}
use Rattle.std.proofs.Math.Seq.{take-append_seam}
use Rattle.dwz_def_reading.specs.Entries.{RawEntry}
use Rattle.dwz_def_reading.specs.Trees.{End, Entry, Forest, Position, behind, first_below}
use Rattle.dwz_def_reading.specs.Units.{RawUnit}
use Rattle.dwz_def_reading.proofs.ListFacts.{drop_first, same_got}
use Rattle.dwz_def_reading.specs.Documents.{Entries, Node, entries_map, node_map}
use Rattle.dwz_def_reading.specs.Meanings.{scope_of}
use Rattle.dwz_def_reading.specs.Meant.{entries_meaning, node_meaning}
use Rattle.dwz_def_reading.specs.Lists.{Each}
use Rattle.dwz_def_tops.proofs.Members.{each_append}
use Rattle.dwz_def_tops.specs.Spots.{EntryName, FileUnit, Labelled, Within, tops_of}
use Rattle.dwz_graph.proofs.TopThere.{left_behind}
use Rattle.dwz_graph.proofs.TreeLemmas.{parts}
use Rattle.dwz_def_images.specs.Moves.{Move, image_in}
use Rattle.dwz_unit.specs.Rows.{EntryRow, rows_below, rows_of}
use Rattle.dwz_unit.proofs.RowLemmas.{shown-length}
use Rattle.dwz_layout.specs.declared.known.EntryTable.{EntryTable}
use Rattle.dwz_layout.specs.declared.known.Row.{Row}
use Rattle.dwz_layout.specs.declared.walk.Origin.{Origin}
use Rattle.dwz_layout.specs.declared.walk.Origin.TheVariants.{Read as OfRow}
use Rattle.dwz_layout.specs.declared.walk.Slot.{Slot}
use Rattle.dwz_layout.specs.Entries.{row, row_slots, slot, slots_below, tree_slots}
use Rattle.dwz_layout.specs.Known.{row_at, rows_in}
use Rattle.dwz_law_layout.specs.Knows.{FileRead, IsRead, KnowsFile, ShowsRow, ShowsTree}
use Rattle.dwz_law_layout.proofs.RowFits.{row_slots-append}

-- ---- names that stay

-- it is no entry of a top that moves
-- a top of these units that doesn't leave its own
abbrev pub StaysIn : Move → List (FileUnit EntryName) → ℕ → Type 0
StaysIn m units top = (m.gone top ≡ false) × (top < length (tops_of units))

-- where it is the name of an entry of a top, P holds of that
abbrev pub IsStaying : (ℕ → Type 0) → EntryName → Type 0
IsStaying P (Within top path) = P top
IsStaying P _ = Unit {0}

abbrev pub AreStaying : (ℕ → Type 0) → Entries EntryName → Type 0
AreStaying P End = Unit {0}
AreStaying P (Entry e c n) = IsStaying P e.at × AreStaying P c × AreStaying P n

pub labelled_stay : (m : Move) (P : ℕ → Type 0) (name : List ℕ → EntryName) → ((path : List ℕ) → IsStaying P (image_in m (name path))) → (path : List ℕ) (i : ℕ) (g : Entries EntryName) → Labelled name path i g
    → AreStaying P (entries_map (image_in m) g)
unfolding entries_map
labelled_stay m P name stays path i End h = tt
labelled_stay m P name stays path i (Entry e c n) h =
    (subst (λ (w : EntryName). IsStaying P (image_in m w)) (sym h.0) (stays (i ∷ path)), labelled_stay m P name stays (i ∷ path) 0 c h.1, labelled_stay m P name stays path (suc i) n h.2)

-- ---- an entry of a file

pub read_one : (F : FileRead) (i : ℕ) (x y : EntryRow) (d e : Node ℕ) → IsRead F i x d → IsRead F i y e → d ≡ e
read_one F i x y d e a b =
    let rows : x ≡ y = same_got (rows_of F.raw) i x y a.found b.found in
    let unit : a.unit ≡ b.unit = same_got F.raw y.unit a.unit b.unit (ap (λ (w : EntryRow). slice_get F.raw w.unit) (sym rows) ∙ a.is_unit) b.is_unit in
    let both = sym a.means ∙ (λ j. node_meaning (scope_of F.around (unit j)) (rows j).entry) ∙ b.means in
    cc

module _ (P : ℕ → Type 0) (F : FileRead) where
  -- it is an entry of the file, and what stands for it after stays
  abbrev pub RowStays : Row → Type 0
  RowStays r = (r.file ≡ F.number) × ((x : EntryRow) (d : Node ℕ) → IsRead F r.entry x d → IsStaying P (F.after d.at))

  abbrev pub OriginStays : Origin → Type 0
  OriginStays (OfRow r) = (r.file ≡ F.number) × ((x : EntryRow) (d : Node ℕ) → IsRead F r.entry x d → IsStaying P (F.after d.at))
  OriginStays _ = Unit {0}

  abbrev pub SlotsStay : List Slot → Type 0
  SlotsStay slots = Each (λ s. OriginStays s.origin) slots

  entry_stays : (i : ℕ) (x : EntryRow) (d : Node ℕ) → IsRead F i x d → IsStaying P (F.after d.at) → RowStays (row F.number i)
  entry_stays i x d read stays = (refl, λ y e other. (let same = read_one F i x y d e read other in subst (λ (w : Node ℕ). IsStaying P (F.after w.at)) same stays))

  pub row_stays : (r : Row) (node : Node EntryName) → ShowsRow F r node → IsStaying P node.at → RowStays r
  row_stays r node shows stays =
      subst RowStays (sym shows.row_is) (entry_stays shows.i shows.x shows.d shows.read (subst (λ (w : Node EntryName). IsStaying P w.at) shows.node_is stays))

  module _ (un : ℕ) (u : RawUnit) (is_unit : slice_get F.raw un ≡ Some u) (depth base : ℕ) where
    abbrev Slots : Forest RawEntry → Position → List Slot
    Slots t p = row_slots F.number depth base p.before (rows_below t un p)

    forest_stays : (t : Forest RawEntry) (g : Entries ℕ) (p : Position) (rest : List EntryRow) → entries_meaning (scope_of F.around u) t ≡ Ok g
        → drop p.before (rows_of F.raw) ≡ rows_below t un p ++ rest → AreStaying P (entries_map F.after g) → SlotsStay (Slots t p)
    unfolding rows_below row_slots entries_map
    forest_stays End g p rest means found stays = tt
    forest_stays (Entry e c n) g p rest means found stays =
        let x = parts (scope_of F.around u) e c n g means in
        let r : EntryRow = record { entry = e; unit = un; depth = p.depth; end = (behind p c).before } in
        let inside = rows_below c un (first_below p) in
        let others = rows_below n un (behind p c) in
        let all : AreStaying P (entries_map F.after (Entry x.d x.below x.next)) = subst (λ (w : Entries ℕ). AreStaying P (entries_map F.after w)) (sym x.is) stays in
        let at = drop_first (rows_of F.raw) p.before r ((inside ++ others) ++ rest) found in
        let read : IsRead F p.before r x.d = record { unit = u; found = at.0; is_unit = is_unit; means = x.node } in
        let below : drop (first_below p).before (rows_of F.raw) ≡ inside ++ (others ++ rest) = at.1 ∙ append_assoc inside others rest in
        let many = shown-length c un (first_below p) in
        let later = left_behind (rows_of F.raw) (first_below p).before (behind p c).before inside (others ++ rest) below (omega (arith, many)) in
        let one : suc p.before ≡ (first_below p).before = omega arith in
        let two : suc p.before + length inside ≡ (behind p c).before = omega (arith, many) in
        let split : row_slots F.number depth base (suc p.before) (inside ++ others) ≡ Slots c (first_below p) ++ Slots n (behind p c) =
        row_slots-append F.number depth base (suc p.before) inside others ∙ (λ i. row_slots F.number depth base (one i) inside ++ row_slots F.number depth base (two i) others) in
        let children = forest_stays c x.below (first_below p) (others ++ rest) x.of_below below all.1 in
        let siblings = forest_stays n x.next (behind p c) rest x.of_next later all.2 in
        let both = each_append (λ s. OriginStays s.origin) (Slots c (first_below p)) (Slots n (behind p c)) children siblings in
        (entry_stays p.before r x.d read all.0, subst SlotsStay (sym split) both)

  first_row : (e : RawEntry) (c : Forest RawEntry) (un : ℕ) (p : Position)
      → rows_below (Entry e c End) un p ≡ record { entry = e; unit = un; depth = p.depth; end = (behind p c).before } ∷ rows_below c un (first_below p)
  unfolding rows_below
  first_row e c un p = (let r : EntryRow = record { entry = e; unit = un; depth = p.depth; end = (behind p c).before } in ap (λ (w : List EntryRow). r ∷ w)
      (append-nil (rows_below c un (first_below p))))

  -- an entry with all below it
  pub tree_stays : (k : EntryTable) → KnowsFile k F → (depth : ℕ) (r : Row) (node : Node EntryName) (below : Entries EntryName) → ShowsTree F r node below → IsStaying P node.at → AreStaying P below
      → SlotsStay (tree_slots k depth r)
  tree_stays k file depth r node below t top_stays below_stays =
      let p = t.p in
      let top = row F.number p.before in
      let x : EntryRow = record { entry = t.e; unit = t.number; depth = p.depth; end = (behind p t.c).before } in
      let inside = rows_below t.c t.number (first_below p) in
      let stand : drop p.before (rows_of F.raw) ≡ x ∷ (inside ++ t.behind) = t.stand ∙ ap (λ (w : List EntryRow). w ++ t.behind) (first_row t.e t.c t.number p) in
      let at = drop_first (rows_of F.raw) p.before x (inside ++ t.behind) stand in
      let y = parts (scope_of F.around t.unit) t.e t.c End (Entry t.d t.g End) t.means in
      let whole : Entry y.d y.below y.next ≡ Entry t.d t.g End = y.is in
      let d_is : y.d ≡ t.d = cc in
      let g_is : y.below ≡ t.g = cc in
      let read : IsRead F p.before x y.d = record { unit = t.unit; found = at.0; is_unit = t.is_unit; means = y.node } in
      let there : row_at k top ≡ Some x = ap (λ (w : List EntryRow). slice_get w p.before) file.rows ∙ at.0 in
      let many = shown-length t.c t.number (first_below p) in
      let one : (first_below p).before ≡ suc p.before = omega arith in
      let count : (behind p t.c).before - suc p.before ≡ length inside = omega (arith, many) in
      let range : slice_range (rows_in k F.number) (suc p.before) (behind p t.c).before ≡ inside =
      (λ i. take (count i) (drop (suc p.before) (file.rows i))) ∙ ap (λ (w : List EntryRow). take (length inside) w) (ap (λ (n : ℕ). drop n (rows_of F.raw)) (sym one) ∙ at.1)
      ∙ take-append_seam inside t.behind in
      let slots : tree_slots k depth top ≡ slot depth (OfRow top) ∷ row_slots F.number depth p.depth (first_below p).before inside =
      ap (λ (o : Option EntryRow). slot depth (OfRow top) ∷ option_map_or (slots_below k depth top) o []) there
      ∙ (λ i. slot depth (OfRow top) ∷ row_slots F.number depth p.depth (sym one i) (range i)) in
      let own : IsStaying P (F.after y.d.at) = subst (λ (w : Node EntryName). IsStaying P w.at) (t.node_is ∙ ap (λ (w : Node ℕ). node_map F.after w) (sym d_is)) top_stays in
      let others : AreStaying P (entries_map F.after y.below) = subst (AreStaying P) (t.below_is ∙ ap (λ (w : Entries ℕ). entries_map F.after w) (sym g_is)) below_stays in
      let inner = forest_stays t.number t.unit t.is_unit depth p.depth t.c y.below (first_below p) t.behind y.of_below at.1 others in
      let all : SlotsStay (slot depth (OfRow top) ∷ row_slots F.number depth p.depth (first_below p).before inside) = (entry_stays p.before x y.d read own, inner) in
      subst (λ (q : Row). SlotsStay (tree_slots k depth q)) (sym t.row_is) (subst SlotsStay (sym slots) all)
