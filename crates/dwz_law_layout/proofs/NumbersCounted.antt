-- The numbers that attributes of an order name are those of references and of partial units.
use Rattle.std.proofs.Common.{◌≡◌, ℕ, zero, suc, ◌+◌, ◌<◌, Bool, true, false, List, [], ◌∷◌, Option, Some, None, cond, eqb, length, refl, arith}
use Rattle.std.specs.Option.{option_map_or}
use Rattle.dwz_def_reading.specs.Entries.{RawAttr}
use Rattle.dwz_def_reading.specs.Lists.{Each}
use Rattle.dwz_def_tops.proofs.Members.{each_append}
use Rattle.dwz_unit.specs.Rows.{EntryRow}
use Rattle.dwz_def_encoding.specs.Placing.{UnitRole}
use Rattle.dwz_layout.specs.declared.known.ValueCounts.{ValueCounts}
use Rattle.dwz_layout.specs.declared.known.EntryTable.{EntryTable}
use Rattle.dwz_layout.specs.declared.known.Row.{Row}
use Rattle.dwz_layout.specs.declared.known.SpaceRow.{SpaceRow}
use Rattle.dwz_layout.specs.declared.known.TextAt.{TextAt}
use Rattle.dwz_layout.specs.declared.order.UnitItems.{UnitItems}
use Rattle.dwz_layout.specs.declared.walk.Origin.{Origin}
use Rattle.dwz_layout.specs.declared.walk.Origin.TheVariants.{Chained, Imported, OwnRoot, Read as OfRow}
use Rattle.dwz_layout.specs.declared.walk.Slot.{Slot}
use Rattle.dwz_layout.specs.declared.ways.Rewrite.{Rewrite}
use Rattle.dwz_layout.specs.declared.ways.Rewrite.TheVariants.{AsEntry, AsExpression, AsFile, AsRead, AsText, Dropped, KeepsText}
use Rattle.dwz_layout.specs.Attributes.{OutAttr, WritingContext, after, attrs_of, expr_parts, here_of, line_attrs, name_attrs, name_by, operand_count, out_attr, out_attrs, out_by, references_from}
use Rattle.dwz_layout.specs.Attributes.{row_attrs}
use Rattle.dwz_layout.specs.Attributes.{space_attrs}
use Rattle.dwz_layout.specs.Entries.{items_slots}
use Rattle.dwz_layout.specs.Known.{firsts_of, reference_at, row_at, space_at, text_held, unit_of_part}
use Rattle.dwz_layout.specs.Ways.{rewrite_of}
use Rattle.dwz_encode.specs.Shown.{unit_count}
use Rattle.dwz_law_layout.specs.Refers.{ContentCounted, FilesCounted, IsEntryNumber, SlotCounted, SortCounted, UnitsCounted}

module _ (k : EntryTable) (units : ℕ) where
  abbrev Counted : OutAttr → Type 0
  Counted a = ContentCounted k units a.content

  module _ (file : ℕ) (known : (n : ℕ) → IsEntryNumber k (reference_at k file n)) where
    from_counted : (n count : ℕ) → Each (IsEntryNumber k) (references_from k file n count)
    unfolding references_from
    from_counted n zero = tt
    from_counted n (suc count) = (known n, from_counted (n + 1) count)

    by_counted : (here : ℕ) (next : ValueCounts) (a : RawAttr) (way : Rewrite) → Each Counted (out_by k file here next a way)
    by_counted here next a Dropped = tt
    by_counted here next a AsRead = (tt, tt)
    by_counted here next a KeepsText = (tt, tt)
    by_counted here next a AsText = (tt, tt)
    by_counted here next a AsFile = (tt, tt)
    by_counted here next a AsEntry = (known next.reference, tt)
    by_counted here next a AsExpression = (from_counted next.reference (operand_count (expr_parts a)), tt)

    out_counted : (here : WritingContext) (next : ValueCounts) (attrs : List RawAttr) → Each Counted (out_attrs k file here next attrs)
    unfolding out_attrs
    out_counted here next [] = tt
    out_counted here next (a ∷ attrs) =
        each_append Counted (out_attr k file here next a) (out_attrs k file here (after here next a) attrs) (by_counted here.unit next a (rewrite_of here.holder a.pair))
        (out_counted here (after here next a) attrs)

  name_counted : (text : TextAt) (a : RawAttr) (way : Rewrite) → Counted (name_by text a way)
  name_counted text a AsText = tt
  name_counted text a _ = tt

  names_counted : (h : UnitRole) (text : TextAt) (attrs : List RawAttr) → Each Counted (name_attrs h text attrs)
  unfolding name_attrs
  names_counted h text [] = tt
  names_counted h text (a ∷ attrs) = by (names_counted h text attrs) (eqb a.pair.name 0x03) where
    by : Each Counted (name_attrs h text attrs) → (b : Bool) → Each Counted (cond b (name_by text a (rewrite_of h a.pair) ∷ []) (name_attrs h text attrs))
    by rest true = (name_counted text a (rewrite_of h a.pair), tt)
    by rest false = rest

  space_counted : (h : UnitRole) (s : SpaceRow) → Each Counted (space_attrs k h s)
  space_counted h s = by (row_at k s.row) where
    by : (o : Option EntryRow) → Each Counted (option_map_or (λ (r : EntryRow). name_attrs h (text_held h s) r.entry.attrs) o [])
    by None = tt
    by (Some r) = names_counted h (text_held h s) r.entry.attrs

  line_counted : (line : Option ℕ) → Each Counted (line_attrs line)
  line_counted None = tt
  line_counted (Some line) = (tt, tt)

  module _ (known : (r : Row) (x : EntryRow) → row_at k r ≡ Some x → (n : ℕ) → IsEntryNumber k (reference_at k r.file n)) (parts : (part : ℕ) → unit_of_part k part < units) where
    origin_counted : (here : WritingContext) (origin : Origin) → Each Counted (attrs_of k here origin)
    origin_counted here (OfRow r) = by (row_at k r) refl where
      by : (o : Option EntryRow) → row_at k r ≡ o → Each Counted (option_map_or (row_attrs k here (OfRow r)) o [])
      by None e = tt
      by (Some x) e = out_counted r.file (known r x e) here (firsts_of k r) x.entry.attrs
    origin_counted here (OwnRoot line) = line_counted line
    origin_counted here (Chained chain space) = space_counted here.holder (space_at k space)
    origin_counted here (Imported part) = (parts part, tt)

    slots_counted : (here : WritingContext) (slots : List Slot) → Each (SlotCounted k units here) slots
    slots_counted here [] = tt
    slots_counted here (s ∷ slots) = (origin_counted here s.origin, slots_counted here slots)

    pub units_counted : (unit : ℕ) (order : List UnitItems) → Each (λ o. SortCounted k o.sort) order → UnitsCounted k units unit order
    units_counted unit [] sorts = tt
    units_counted unit (o ∷ order) sorts = ((sorts.0, slots_counted (here_of k unit o.sort) (items_slots k o.sort o.items)), units_counted (suc unit) order sorts.1)

module _ (k : EntryTable) (all : List (List UnitItems)) (known : (r : Row) (x : EntryRow) → row_at k r ≡ Some x → (n : ℕ) → IsEntryNumber k (reference_at k r.file n))
    (parts : 0 < unit_count all → (part : ℕ) → unit_of_part k part < unit_count all) where
  -- where there is a unit among these, there is one among all
  some_counted : (unit : ℕ) (order : List UnitItems) → (0 < length order → 0 < unit_count all) → Each (λ o. SortCounted k o.sort) order → UnitsCounted k (unit_count all) unit order
  some_counted unit [] some sorts = tt
  some_counted unit (o ∷ order) some sorts = units_counted k (unit_count all) known (parts (some (omega arith))) unit (o ∷ order) sorts

  files_counted : (unit : ℕ) (orders : List (List UnitItems)) → (0 < unit_count orders → 0 < unit_count all) → Each (Each (λ o. SortCounted k o.sort)) orders
      → FilesCounted k (unit_count all) unit orders
  unfolding unit_count
  files_counted unit [] some sorts = tt
  files_counted unit (order ∷ orders) some sorts = (
    some_counted unit order (λ lt. some (omega (arith, lt))) sorts.0,
    files_counted (unit + length order) orders (λ lt. some (omega (arith, lt))) sorts.1,
  )

  pub numbers_counted : Each (Each (λ o. SortCounted k o.sort)) all → FilesCounted k (unit_count all) 0 all
  numbers_counted sorts = files_counted 0 all (λ lt. lt) sorts
