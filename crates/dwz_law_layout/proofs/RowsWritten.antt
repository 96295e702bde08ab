-- An entry whose name is one of the files' is written: the line with that name is that of a slot, and it was read, and is the same.
use Rattle.std.proofs.Common.{◌≡◌, ℕ, suc, ◌+◌, ◌-◌, List, [], ◌∷◌, length, map, refl, sym, ap, subst, ◌∙◌, inl, inr}
use Rattle.dwz_def_reading.specs.Lists.{In}
use Rattle.dwz_def_reading.proofs.ListFacts.{in_cases, in_map}
use Rattle.dwz_def_reading.specs.Documents.{Compile, DwUnit, Kind, OfType, Partial}
use Rattle.dwz_def_tops.specs.Seen.{IsPartial}
use Rattle.dwz_def_tops.specs.Shown.{keys, unit_keys, units_keys}
use Rattle.dwz_def_tops.proofs.Members.{From, in_map_from}
use Rattle.dwz_layout_items.specs.Lines.{Line, lines, unit_lines}
use Rattle.dwz_def_encoding.specs.Placing.{FileOut, files_keys}
use Rattle.dwz_layout.specs.declared.known.EntryTable.{EntryTable}
use Rattle.dwz_layout.specs.declared.order.Sort.{Sort}
use Rattle.dwz_layout.specs.declared.order.Sort.TheVariants.{Compile as CompileSort, OfType as TypeSort, Partial as PartialSort}
use Rattle.dwz_layout.specs.declared.order.UnitItems.{UnitItems}
use Rattle.dwz_layout.specs.declared.walk.Origin.{Origin}
use Rattle.dwz_layout.specs.declared.walk.Origin.TheVariants.{Chained, Imported, OwnRoot, Read as OfRow}
use Rattle.dwz_layout.specs.declared.walk.Slot.{Slot}
use Rattle.dwz_layout.specs.Attributes.{WritingContext, here_of}
use Rattle.dwz_layout.specs.Entries.{items_slots}
use Rattle.dwz_layout.specs.Known.{number_of}
use Rattle.dwz_encode.specs.Shown.{HasRow, HeldLine, InUnits, IsRow, IsWritten, Keys, ShowFiles, ShowUnits, ShowsUnit, SortShows, key_of, line_held, slot_held, unit_held}
use Rattle.dwz_law_layout.specs.Refers.{IsEntryNumber, RowsApart}
use Rattle.dwz_law_layout.proofs.HeldNames.{lines_keys}
use Rattle.dwz_law_layout.proofs.RootSlots.{IsOwnRoot, IsPartialSort, items_own}

sort_partial : {K : Type 0} (keys : Keys K) (sort : Sort) (kind : Kind K) → IsPartialSort sort → SortShows keys sort kind → IsPartial kind
sort_partial keys (CompileSort root) kind own shows = absurd own
sort_partial keys (TypeSort root signature main) kind own shows = absurd own
sort_partial keys (PartialSort line) Compile own shows = absurd shows
sort_partial keys (PartialSort line) (OfType signature main) own shows = absurd shows
sort_partial keys (PartialSort line) Partial own shows = tt

module _ {K : Type 0} (names : Keys K) (k : EntryTable) (all : List (List UnitItems)) (files : List (FileOut K)) (apart : RowsApart names k all files) (m : ℕ) (counted : IsEntryNumber k m) where
  -- an origin with the name of the row is the row
  origin_is : (unit depth : ℕ) (origin : Origin) → ((n : ℕ) → IsRow k n origin → IsWritten k n all) → (IsOwnRoot origin → names.row m ≡ names.root unit → ⊥)
      → names.row m ≡ key_of names k unit depth origin → IsRow k m origin
  origin_is unit depth (OfRow r) written root e = sym (apart.rows m (number_of k r) counted (written (number_of k r) refl) e)
  origin_is unit depth (OwnRoot line) written root e = absurd (root tt e)
  origin_is unit depth (Chained chain space) written root e = absurd (apart.chained m unit chain (depth - 2) counted e)
  origin_is unit depth (Imported part) written root e = absurd (apart.imports m unit part counted e)

  slots_have : (here : WritingContext) (slots : List Slot) → ((n : ℕ) → HasRow k n slots → IsWritten k n all) → ((s : Slot) → In s slots → IsOwnRoot s.origin → names.row m ≡ names.root here.unit → ⊥)
      → (x : HeldLine K) → In x (map (slot_held names k here) slots) → names.row m ≡ x.key → HasRow k m slots
  slots_have here [] written root x there e = absurd there
  slots_have here (s ∷ slots) written root x (inl i) e =
      inl (origin_is here.unit s.depth s.origin (λ n is. written n (inl is)) (root s (inl refl)) (e ∙ sym (ap (λ (y : HeldLine K). y.key) i)))
  slots_have here (s ∷ slots) written root x (inr later) e =
      inr (slots_have here slots (λ n is. written n (inr is)) (λ t there. root t (inr there)) x later e)

  unit_has : (unit : ℕ) (o : UnitItems) (f : FileOut K) (u : DwUnit K) → In f files → In u f.units → ShowsUnit names k unit o u
      → ((n : ℕ) → HasRow k n (items_slots k o.sort o.items) → IsWritten k n all) → In (names.row m) (unit_keys u) → HasRow k m (items_slots k o.sort o.items)
  unfolding unit_keys
  unit_has unit o f u f_in u_in shows written (inl e) = absurd (apart.units m f u counted f_in u_in (sym e))
  unit_has unit o f u f_in u_in shows written (inr there) =
      let below : map (λ (l : Line K). l.node.at) (lines 2 u.below) ≡ keys u.below = lines_keys 2 u.below in
      let key : In (names.row m) (map (λ (l : Line K). l.node.at) (unit_lines u)) = subst (λ (w : List K). In (names.row m) (u.root.at ∷ w)) (sym below) there in
      let o_l : From (λ (l : Line K). l.node.at) (unit_lines u) (names.row m) = in_map_from (λ (l : Line K). l.node.at) (names.row m) (unit_lines u) key in
      let held : In (line_held o_l.source) (map line_held (unit_lines u)) = in_map line_held o_l.source (unit_lines u) o_l.there in
      let slot_in : In (line_held o_l.source) (unit_held names k unit o) = subst (λ (w : List (HeldLine K)). In (line_held o_l.source) w) (sym shows.lines) held in
      slots_have (here_of k unit o.sort) (items_slots k o.sort o.items) written
      (λ s s_in own e. apart.roots m f u counted f_in u_in (sort_partial names o.sort u.kind (items_own k o.sort o.items s s_in own) shows.sort) (e ∙ shows.root))
      (line_held o_l.source) slot_in (sym o_l.is)

  units_have : (unit : ℕ) (order : List UnitItems) (f : FileOut K) (units : List (DwUnit K)) → In f files → ((u : DwUnit K) → In u units → In u f.units) → ShowUnits names k unit order units
      → ((n : ℕ) → InUnits k n order → IsWritten k n all) → In (names.row m) (units_keys units) → InUnits k m order
  unfolding units_keys
  units_have unit [] f [] f_in into shows written key = absurd key
  units_have unit [] f (u ∷ units) f_in into shows written key = absurd shows
  units_have unit (o ∷ order) f [] f_in into shows written key = absurd shows
  units_have unit (o ∷ order) f (u ∷ units) f_in into shows written key = elim (in_cases (names.row m) (unit_keys u) (units_keys units) key) [
    | inl a ↦ inl (unit_has unit o f u f_in (into u (inl refl)) shows.0 (λ n is. written n (inl is)) a)
    | inr b ↦ inr (units_have (suc unit) order f units f_in (λ v there. into v (inr there)) shows.1 (λ n is. written n (inr is)) b)
  ]

  files_have : (unit : ℕ) (orders : List (List UnitItems)) (outs : List (FileOut K)) → ((f : FileOut K) → In f outs → In f files) → ShowFiles names k unit orders outs
      → ((n : ℕ) → IsWritten k n orders → IsWritten k n all) → In (names.row m) (files_keys outs) → IsWritten k m orders
  unfolding files_keys
  files_have unit [] [] into shows written key = absurd key
  files_have unit [] (f ∷ outs) into shows written key = absurd shows
  files_have unit (order ∷ orders) [] into shows written key = absurd shows
  files_have unit (order ∷ orders) (f ∷ outs) into shows written key = elim (in_cases (names.row m) (units_keys f.units) (files_keys outs) key) [
    | inl a ↦ inl (units_have unit order f f.units (into f (inl refl)) (λ u there. there) shows.0 (λ n is. written n (inl is)) a)
    | inr b ↦ inr (files_have (unit + length order) orders outs (λ g there. into g (inr there)) shows.1 (λ n is. written n (inr is)) b)
  ]

  pub row_written : ShowFiles names k 0 all files → In (names.row m) (files_keys files) → IsWritten k m all
  row_written shows key = files_have 0 all files (λ f there. there) shows (λ n is. is) key
