-- What is written of a top is of the unit that the top was read in: its rows stand one behind the other, all with the number of that unit.
use Rattle.std.proofs.Common.{[], ◌++◌, ◌+◌, ◌-◌, ◌∙◌, ◌∷◌, ◌≡◌, List, Option, Some, ℕ, ap, arith, drop, length, refl, slice_get, subst, suc, sym, take}
use Rattle.std.specs.Option.{option_map_or}
use Rattle.std.specs.Prelude.{slice_range}
use Rattle.std.proofs.Math.Seq.{take-append_seam}
use Rattle.dwz_def_reading.specs.Entries.{RawEntry}
use Rattle.dwz_def_reading.specs.Trees.{End, Entry, Forest, Position, behind, first_below}
use Rattle.dwz_def_reading.specs.Units.{RawUnit}
use Rattle.dwz_def_reading.proofs.ListFacts.{drop_first, same_got}
use Rattle.dwz_def_reading.specs.Lists.{Each}
use Rattle.dwz_def_tops.proofs.Members.{each_append}
use Rattle.dwz_def_tops.specs.Spots.{Top}
use Rattle.dwz_unit.specs.Rows.{EntryRow, rows_below, rows_of}
use Rattle.dwz_unit.proofs.RowLemmas.{shown-length}
use Rattle.dwz_layout.specs.declared.known.EntryTable.{EntryTable}
use Rattle.dwz_layout.specs.declared.known.Row.{Row}
use Rattle.dwz_layout.specs.declared.walk.Origin.{Origin}
use Rattle.dwz_layout.specs.declared.walk.Origin.TheVariants.{Chained, Imported, OwnRoot, Read as OfRow}
use Rattle.dwz_layout.specs.declared.walk.Slot.{Slot}
use Rattle.dwz_layout.specs.Entries.{row, row_slots, slot, slots_below, tree_slots}
use Rattle.dwz_layout.specs.Known.{row_at, rows_in, top_row}
use Rattle.dwz_law_layout.proofs.TopNames.{first_row}
use Rattle.dwz_run_files.proofs.TopUnits.{TopStands}

-- the entry of the file with that number is of the unit that has this number among all, where the file's first one has that one
abbrev pub OfUnit : List RawUnit → (first unit i : ℕ) → Type 0
OfUnit raw first unit i = (r : EntryRow) → slice_get (rows_of raw) i ≡ Some r → unit ≡ first + r.unit

rows_of_unit : (t : Forest RawEntry) (number : ℕ) (p : Position) → Each (λ (r : EntryRow). r.unit ≡ number) (rows_below t number p)
unfolding rows_below
rows_of_unit End number p = tt
rows_of_unit (Entry e c m) number p = (
  refl,
  each_append (λ (r : EntryRow). r.unit ≡ number) (rows_below c number (first_below p)) (rows_below m number (behind p c))
      (rows_of_unit c number (first_below p)) (rows_of_unit m number (behind p c)),
)

module _ (n : ℕ) (raw : List RawUnit) (first unit : ℕ) where
  -- if it is an entry that was read, it is one of that unit of the file
  abbrev pub UnitOrigin : Origin → Type 0
  UnitOrigin (OfRow r) = (r.file ≡ n) × OfUnit raw first unit r.entry
  UnitOrigin (OwnRoot place) = Unit {0}
  UnitOrigin (Chained chain space) = Unit {0}
  UnitOrigin (Imported part) = Unit {0}

  abbrev pub AllOfUnit : List Slot → Type 0
  AllOfUnit slots = Each (λ s. UnitOrigin s.origin) slots

  module _ (number : ℕ) (is : unit ≡ first + number) where
    of_unit : (i : ℕ) (r : EntryRow) → slice_get (rows_of raw) i ≡ Some r → r.unit ≡ number → OfUnit raw first unit i
    of_unit i r found own w e =
        let same : w.unit ≡ number = ap (λ (q : EntryRow). q.unit) (same_got (rows_of raw) i w r e found) ∙ own in
        is ∙ ap (λ (q : ℕ). first + q) (sym same)

    slots_of_unit : (depth base i : ℕ) (rows rest : List EntryRow) → drop i (rows_of raw) ≡ rows ++ rest
        → Each (λ (r : EntryRow). r.unit ≡ number) rows → AllOfUnit (row_slots n depth base i rows)
    unfolding row_slots
    slots_of_unit depth base i [] rest stand own = tt
    slots_of_unit depth base i (r ∷ rows) rest stand own =
        let at = drop_first (rows_of raw) i r (rows ++ rest) stand in
        let next : suc i ≡ i + 1 = omega arith in
        let later : drop (suc i) (rows_of raw) ≡ rows ++ rest = ap (λ (m : ℕ). drop m (rows_of raw)) next ∙ at.1 in
        ((refl, of_unit i r at.0 own.0), slots_of_unit depth base (suc i) rows rest later own.1)

  -- an entry with all below it
  pub tree_of_unit : (k : EntryTable) → rows_in k n ≡ rows_of raw → (depth : ℕ) (top : Top) → top.unit ≡ unit → TopStands k n raw first top
      → AllOfUnit (tree_slots k depth (top_row k top.number))
  tree_of_unit k file depth top own t =
      let all = rows_of raw in
      let p = t.p in
      let from = row n p.before in
      let is : unit ≡ first + t.number = sym own ∙ t.unit_is in
      let r : EntryRow = record { entry = t.e; unit = t.number; depth = p.depth; end = (behind p t.c).before } in
      let inside = rows_below t.c t.number (first_below p) in
      let stand : drop p.before all ≡ r ∷ (inside ++ t.behind) =
      t.stand ∙ ap (λ (w : List EntryRow). w ++ t.behind) (first_row t.e t.c t.number p) in
      let at = drop_first all p.before r (inside ++ t.behind) stand in
      let there : row_at k from ≡ Some r = ap (λ (w : List EntryRow). slice_get w p.before) file ∙ at.0 in
      let many = shown-length t.c t.number (first_below p) in
      let next : (first_below p).before ≡ suc p.before = omega arith in
      let later : drop (suc p.before) all ≡ inside ++ t.behind = ap (λ (m : ℕ). drop m all) (sym next) ∙ at.1 in
      let count : (behind p t.c).before - suc p.before ≡ length inside = omega (arith, many) in
      let range : slice_range (rows_in k n) (suc p.before) (behind p t.c).before ≡ inside =
      (λ i. take (count i) (drop (suc p.before) (file i)))
      ∙ ap (λ (w : List EntryRow). take (length inside) w) later
      ∙ take-append_seam inside t.behind in
      let slots : tree_slots k depth from ≡ slot depth (OfRow from) ∷ row_slots n depth p.depth (suc p.before) inside =
      ap (λ (q : Option EntryRow). slot depth (OfRow from) ∷ option_map_or (slots_below k depth from) q []) there
      ∙ ap (λ (w : List EntryRow). slot depth (OfRow from) ∷ row_slots n depth p.depth (suc p.before) w) range in
      let one : OfUnit raw first unit p.before = of_unit t.number is p.before r at.0 refl in
      let all_own = rows_of_unit t.c t.number (first_below p) in
      let below = slots_of_unit t.number is depth p.depth (suc p.before) inside t.behind later all_own in
      subst (λ (w : Row). AllOfUnit (tree_slots k depth w)) (sym t.row_is) (subst AllOfUnit (sym slots) ((refl, one), below))
