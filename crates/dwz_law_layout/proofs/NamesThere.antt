-- The name of an entry that is written is one of the files': the slot of the entry is the line with that name.
use Rattle.std.proofs.Common.{◌≡◌, ℕ, suc, ◌+◌, List, [], ◌∷◌, length, map, refl, ap, subst, ◌∙◌, inl, inr}
use Rattle.dwz_def_reading.specs.Lists.{In}
use Rattle.dwz_def_reading.proofs.ListFacts.{in_left, in_map, in_right}
use Rattle.dwz_def_reading.specs.Documents.{DwUnit}
use Rattle.dwz_def_tops.specs.Shown.{unit_keys, units_keys}
use Rattle.dwz_def_tops.proofs.Members.{From, in_map_from}
use Rattle.dwz_layout_items.specs.Lines.{Line, unit_lines}
use Rattle.dwz_def_encoding.specs.Placing.{FileOut, files_keys}
use Rattle.dwz_layout.specs.declared.known.EntryTable.{EntryTable}
use Rattle.dwz_layout.specs.declared.order.UnitItems.{UnitItems}
use Rattle.dwz_layout.specs.declared.walk.Origin.{Origin}
use Rattle.dwz_layout.specs.declared.walk.Origin.TheVariants.{Chained, Imported, OwnRoot, Read as OfRow}
use Rattle.dwz_layout.specs.declared.walk.Slot.{Slot}
use Rattle.dwz_layout.specs.Attributes.{WritingContext, here_of}
use Rattle.dwz_layout.specs.Entries.{items_slots}
use Rattle.dwz_encode.specs.Shown.{HasRow, HeldLine, InUnits, IsRow, IsWritten, Keys, ShowFiles, ShowUnits, ShowsUnit, key_of, line_held, slot_held}
use Rattle.dwz_law_layout.proofs.HeldNames.{lines_keys}

module _ {K : Type 0} (names : Keys K) (k : EntryTable) (n : ℕ) where
  origin_key : (unit depth : ℕ) (origin : Origin) → IsRow k n origin → key_of names k unit depth origin ≡ names.row n
  origin_key unit depth (OfRow r) is = ap names.row is
  origin_key unit depth (OwnRoot line) is = absurd is
  origin_key unit depth (Chained chain space) is = absurd is
  origin_key unit depth (Imported part) is = absurd is

  slots_key : (here : WritingContext) (slots : List Slot) → HasRow k n slots → (x : HeldLine K) × In x (map (slot_held names k here) slots) × (x.key ≡ names.row n)
  slots_key here [] has = absurd has
  slots_key here (s ∷ slots) (inl is) = (slot_held names k here s, inl refl, origin_key here.unit s.depth s.origin is)
  slots_key here (s ∷ slots) (inr later) = (let o = slots_key here slots later in (o.0, inr o.1, o.2))

  unit_key : (unit : ℕ) (o : UnitItems) (u : DwUnit K) → ShowsUnit names k unit o u → HasRow k n (items_slots k o.sort o.items) → In (names.row n) (unit_keys u)
  unfolding unit_keys
  unit_key unit o u shows has =
      let s = slots_key (here_of k unit o.sort) (items_slots k o.sort o.items) has in
      let line_in : In s.0 (map line_held (unit_lines u)) = subst (λ (w : List (HeldLine K)). In s.0 w) shows.lines s.1 in
      let l : From line_held (unit_lines u) s.0 = in_map_from line_held s.0 (unit_lines u) line_in in
      let name : l.source.node.at ≡ names.row n = ap (λ (x : HeldLine K). x.key) l.is ∙ s.2 in
      let there : In l.source.node.at (map (λ (x : Line K). x.node.at) (unit_lines u)) = in_map (λ (x : Line K). x.node.at) l.source (unit_lines u) l.there in
      inr (subst (λ (w : List K). In (names.row n) (u.root.at ∷ w)) (lines_keys 2 u.below) (subst (λ (x : K). In x (map (λ (x : Line K). x.node.at) (unit_lines u))) name there))

  units_key : (unit : ℕ) (order : List UnitItems) (units : List (DwUnit K)) → ShowUnits names k unit order units → InUnits k n order → In (names.row n) (units_keys units)
  unfolding units_keys
  units_key unit [] units shows has = absurd has
  units_key unit (o ∷ order) [] shows has = absurd shows
  units_key unit (o ∷ order) (u ∷ units) shows (inl here) = in_left (names.row n) (unit_keys u) (units_keys units) (unit_key unit o u shows.0 here)
  units_key unit (o ∷ order) (u ∷ units) shows (inr later) = in_right (names.row n) (unit_keys u) (units_keys units) (units_key (suc unit) order units shows.1 later)

  pub files_key : (unit : ℕ) (orders : List (List UnitItems)) (files : List (FileOut K)) → ShowFiles names k unit orders files → IsWritten k n orders → In (names.row n) (files_keys files)
  unfolding files_keys
  files_key unit [] files shows has = absurd has
  files_key unit (order ∷ orders) [] shows has = absurd shows
  files_key unit (order ∷ orders) (f ∷ files) shows (inl here) = in_left (names.row n) (units_keys f.units) (files_keys files) (units_key unit order f.units shows.0 here)
  files_key unit (order ∷ orders) (f ∷ files) shows (inr later) = in_right (names.row n) (units_keys f.units) (files_keys files) (files_key (unit + length order) orders files shows.1 later)
