-- What attributes of an order name is in it: the names are those of the files.
use Rattle.std.proofs.Common.{◌≡◌, ℕ, suc, ◌+◌, List, [], ◌∷◌, length, map, refl, sym, subst, inl, inr}
use Rattle.dwz_def_reading.specs.Lists.{Each, In}
use Rattle.dwz_def_reading.specs.Documents.{Compile, DwUnit, Kind, OfType, Partial}
use Rattle.dwz_def_encoding.specs.Placing.{FileOut, files_keys}
use Rattle.dwz_layout.specs.declared.known.EntryTable.{EntryTable}
use Rattle.dwz_layout.specs.declared.order.Sort.{Sort}
use Rattle.dwz_layout.specs.declared.order.Sort.TheVariants.{Compile as CompileSort, OfType as TypeSort, Partial as PartialSort}
use Rattle.dwz_layout.specs.declared.order.UnitItems.{UnitItems}
use Rattle.dwz_layout.specs.declared.walk.Slot.{Slot}
use Rattle.dwz_layout.specs.Attributes.{Content, OfEntry, OfParts, OfRoot, OutAttr, Read, WritingContext, attrs_of, here_of}
use Rattle.dwz_layout.specs.Entries.{items_slots}
use Rattle.dwz_encode.specs.Shown.{ContentRefers, FilesRefer, HeldLine, Keys, Refer, ShowFiles, ShowUnits, ShowsUnit, SlotRefers, SortRefers, SortShows, There, UnitRefers, attr_held, content_held}
use Rattle.dwz_encode.specs.Shown.{slot_held, unit_count, written_in}
use Rattle.dwz_def_readback.specs.Fewer.{NameOnly}
use Rattle.dwz_law_layout.specs.Refers.{ContentCounted, FilesCounted, IsEntryNumber, RowsApart, SlotCounted, SortCounted, UnitCounted, UnitsCounted}
use Rattle.dwz_law_layout.proofs.HeldNames.{AttrIn, LineIn, held_refs, unit_in}
use Rattle.dwz_law_layout.proofs.RowsWritten.{row_written}

-- files name just these, and an entry with one of these names is there
module _ {K : Type 0} (keys : Keys K) (k : EntryTable) (t : There) (names : List K) (files : List (FileOut K)) (row_refers : (n : ℕ) → IsEntryNumber k n → In (keys.row n) names → t.row n)
    (only : (f : FileOut K) → In f files → NameOnly names f.units) where
  numbers_refer : (numbers : List ℕ) → Each (IsEntryNumber k) numbers → ((x : K) → In x (map keys.row numbers) → In x names) → Each t.row numbers
  numbers_refer [] counted named = tt
  numbers_refer (n ∷ numbers) counted named = (row_refers n counted.0 (named (keys.row n) (inl refl)), numbers_refer numbers counted.1 (λ x there. named x (inr there)))

  content_refers : (c : Content) → ContentCounted k t.units c → ((x : K) → In x (held_refs (content_held keys c)) → In x names) → ContentRefers t c
  content_refers (Read raw) counted named = tt
  content_refers (OfEntry n) counted named = row_refers n counted (named (keys.row n) (inl refl))
  content_refers (OfRoot unit) counted named = counted
  content_refers (OfParts parts numbers) counted named = numbers_refer numbers counted named

  attrs_refer : (attrs : List OutAttr) → Each (λ a. ContentCounted k t.units a.content) attrs → Each (AttrIn names) (map (attr_held keys) attrs)
      → Each (λ a. ContentRefers t a.content) attrs
  attrs_refer [] counted named = tt
  attrs_refer (a ∷ attrs) counted named = (content_refers a.content counted.0 named.0, attrs_refer attrs counted.1 named.1)

  slots_refer : (here : WritingContext) (slots : List Slot) → Each (SlotCounted k t.units here) slots → Each (LineIn names) (map (slot_held keys k here) slots)
      → Each (SlotRefers t k here) slots
  slots_refer here [] counted named = tt
  slots_refer here (s ∷ slots) counted named = (attrs_refer (attrs_of k here s.origin) counted.0 named.0, slots_refer here slots counted.1 named.1)

  sort_refers : (sort : Sort) (kind : Kind K) → SortCounted k sort → SortShows keys sort kind → ((signature : ℕ) (main : K) → kind ≡ OfType signature main → In main names) → SortRefers t sort
  sort_refers (CompileSort root) kind counted shows mains = tt
  sort_refers (PartialSort line) kind counted shows mains = tt
  sort_refers (TypeSort root s main) Compile counted shows mains = absurd shows
  sort_refers (TypeSort root s main) Partial counted shows mains = absurd shows
  sort_refers (TypeSort root s main) (OfType signature key) counted shows mains = row_refers main counted (subst (λ (x : K). In x names) (sym shows.1) (mains signature key refl))

  unit_refers : (unit : ℕ) (o : UnitItems) (f : FileOut K) (u : DwUnit K) → In f files → In u f.units → ShowsUnit keys k unit o u → UnitCounted k t.units unit o → UnitRefers t k unit o
  unit_refers unit o f u f_in u_in shows counted = (
    sort_refers o.sort u.kind counted.0 shows.sort (λ signature main is. (only f f_in).mains u signature main u_in is),
    slots_refer (here_of k unit o.sort) (items_slots k o.sort o.items) counted.1
        (subst (λ (w : List (HeldLine K)). Each (LineIn names) w) (sym shows.lines) (unit_in names f.units u (only f f_in) u_in)),
  )

  units_refer : (unit : ℕ) (order : List UnitItems) (f : FileOut K) (units : List (DwUnit K)) → In f files → ((u : DwUnit K) → In u units → In u f.units) → ShowUnits keys k unit order units
      → UnitsCounted k t.units unit order → Refer t k unit order
  units_refer unit [] f units f_in into shows counted = tt
  units_refer unit (o ∷ order) f [] f_in into shows counted = absurd shows
  units_refer unit (o ∷ order) f (u ∷ units) f_in into shows counted = (
    unit_refers unit o f u f_in (into u (inl refl)) shows.0 counted.0,
    units_refer (suc unit) order f units f_in (λ v there. into v (inr there)) shows.1 counted.1,
  )

  pub files_refer : (unit : ℕ) (orders : List (List UnitItems)) (outs : List (FileOut K)) → ((f : FileOut K) → In f outs → In f files) → ShowFiles keys k unit orders outs
      → FilesCounted k t.units unit orders → FilesRefer t k unit orders
  files_refer unit [] outs into shows counted = tt
  files_refer unit (order ∷ orders) [] into shows counted = absurd shows
  files_refer unit (order ∷ orders) (f ∷ outs) into shows counted = (
    units_refer unit order f f.units (into f (inl refl)) (λ u there. there) shows.0 counted.0,
    files_refer (unit + length order) orders outs (λ g there. into g (inr there)) shows.1 counted.1,
  )

pub order_refers : {K : Type 0} (keys : Keys K) (k : EntryTable) (all : List (List UnitItems)) (files : List (FileOut K)) → RowsApart keys k all files → ShowFiles keys k 0 all files
    → ((f : FileOut K) → In f files → NameOnly (files_keys files) f.units) → FilesCounted k (unit_count all) 0 all → FilesRefer (written_in k all) k 0 all
order_refers keys k all files apart shown only counted =
    files_refer keys k (written_in k all) (files_keys files) files (λ n is there. (is, row_written keys k all files apart n is shown there)) only 0 all files (λ f there. there) shown counted
