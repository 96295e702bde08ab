-- Numbers that attributes of an order name are those of entries and of units, as what has none of these has the name of a unit, which
-- nothing refers to.
use Rattle.std.proofs.Common.{◌≡◌, ◌⊎◌, ℕ, zero, suc, ◌+◌, ◌<◌, List, [], ◌∷◌, Option, Some, None, length, get_or, map, slice_get, refl, sym, ap, subst, inl, inr, arith}
use Rattle.dwz_def_reading.specs.Lists.{Each, In}
use Rattle.dwz_def_reading.proofs.ListFacts.{got_below}
use Rattle.dwz_def_reading.specs.Documents.{Compile, DwUnit, Kind, OfType, Partial}
use Rattle.dwz_def_tops.specs.Spots.{EntryName, UnitOf}
use Rattle.dwz_def_encoding.specs.Placing.{FileOut}
use Rattle.dwz_graph.specs.AllNames.{all_names}
use Rattle.dwz_layout.specs.declared.known.EntryTable.{EntryTable}
use Rattle.dwz_layout.specs.declared.order.Sort.{Sort}
use Rattle.dwz_layout.specs.declared.order.Sort.TheVariants.{Compile as CompileSort, OfType as TypeSort, Partial as PartialSort}
use Rattle.dwz_layout.specs.declared.order.UnitItems.{UnitItems}
use Rattle.dwz_layout.specs.declared.walk.Slot.{Slot}
use Rattle.dwz_layout.specs.Attributes.{Content, OfEntry, OfParts, OfRoot, OutAttr, Read, WritingContext, attrs_of, here_of}
use Rattle.dwz_layout.specs.Entries.{items_slots}
use Rattle.dwz_encode.specs.Shown.{HeldLine, ShowFiles, ShowUnits, ShowsUnit, SortShows, attr_held, content_held, slot_held}
use Rattle.dwz_def_readback.specs.Fewer.{NameOnly}
use Rattle.dwz_law_layout.specs.Refers.{ContentCounted, FilesCounted, IsEntryNumber, SlotCounted, SortCounted, UnitCounted, UnitsCounted}
use Rattle.dwz_law_layout.proofs.HeldNames.{AttrIn, LineIn, held_refs, unit_in}
use Rattle.dwz_law_layout.specs.Beside.{Beside}
use Rattle.dwz_law_layout.specs.Facts.{RunFacts, every, units_written}
use Rattle.dwz_law_layout.specs.Named.{keys, root_name}

pub got_or : {X : Type 0} (xs : List X) (n : ℕ) (d : X) → (n < length xs) ⊎ (get_or xs n d ≡ d)
got_or [] n d = inr refl
got_or (x ∷ xs) zero d = inl (omega arith)
got_or (x ∷ xs) (suc n) d = elim (got_or xs n d) [ inl lt ↦ inl (omega (arith, lt)) | inr e ↦ inr e ]

module _ {beside : Beside} (f : RunFacts beside) (k : EntryTable) (many : length k.owners.items ≡ length (all_names (every f))) (names : List EntryName) (entries : (s : EntryName) → In s names → s ≡ UnitOf 0 → ⊥) (total : ℕ)
    (units_many : length (units_written f) ≡ total) where
  row_counted : (n : ℕ) → In ((keys f).row n) names → IsEntryNumber k n
  row_counted n there = elim (got_or (all_names (every f)) n (UnitOf 0)) [
    | inl lt ↦ omega (arith, lt, many)
    | inr e ↦ absurd (entries ((keys f).row n) there e)
  ]

  root_counted : (n : ℕ) → In ((keys f).root n) names → n < total
  root_counted n there = by (slice_get (units_written f) n) refl where
    by : (o : Option (DwUnit EntryName)) → slice_get (units_written f) n ≡ o → n < total
    by None e = absurd (entries ((keys f).root n) there (ap root_name e))
    by (Some u) e = let lt = got_below (units_written f) n u e in omega (arith, lt, units_many)

  rows_counted : (numbers : List ℕ) → ((x : EntryName) → In x (map (keys f).row numbers) → In x names) → Each (IsEntryNumber k) numbers
  rows_counted [] named = tt
  rows_counted (n ∷ numbers) named = (row_counted n (named ((keys f).row n) (inl refl)), rows_counted numbers (λ x there. named x (inr there)))

  content_counted : (c : Content) → ((x : EntryName) → In x (held_refs (content_held (keys f) c)) → In x names) → ContentCounted k total c
  content_counted (Read raw) named = tt
  content_counted (OfEntry n) named = row_counted n (named ((keys f).row n) (inl refl))
  content_counted (OfRoot unit) named = root_counted unit (named ((keys f).root unit) (inl refl))
  content_counted (OfParts parts numbers) named = rows_counted numbers named

  attrs_counted : (attrs : List OutAttr) → Each (AttrIn names) (map (attr_held (keys f)) attrs) → Each (λ a. ContentCounted k total a.content) attrs
  attrs_counted [] named = tt
  attrs_counted (a ∷ attrs) named = (content_counted a.content named.0, attrs_counted attrs named.1)

  slots_counted : (here : WritingContext) (slots : List Slot) → Each (LineIn names) (map (slot_held (keys f) k here) slots) → Each (SlotCounted k total here) slots
  slots_counted here [] named = tt
  slots_counted here (s ∷ slots) named = (attrs_counted (attrs_of k here s.origin) named.0, slots_counted here slots named.1)

  sort_counted : (sort : Sort) (kind : Kind EntryName) → SortShows (keys f) sort kind → ((signature : ℕ) (main : EntryName) → kind ≡ OfType signature main → In main names) → SortCounted k sort
  sort_counted (CompileSort root) kind shows mains = tt
  sort_counted (PartialSort line) kind shows mains = tt
  sort_counted (TypeSort root s main) Compile shows mains = absurd shows
  sort_counted (TypeSort root s main) Partial shows mains = absurd shows
  sort_counted (TypeSort root s main) (OfType signature key) shows mains = row_counted main (subst (λ (x : EntryName). In x names) (sym shows.1) (mains signature key refl))

  unit_counted : (unit : ℕ) (o : UnitItems) (us : List (DwUnit EntryName)) (u : DwUnit EntryName) → NameOnly names us → In u us → ShowsUnit (keys f) k unit o u → UnitCounted k total unit o
  unit_counted unit o us u only there shows = (
    sort_counted o.sort u.kind shows.sort (λ signature main is. only.mains u signature main there is),
    slots_counted (here_of k unit o.sort) (items_slots k o.sort o.items) (subst (λ (w : List (HeldLine EntryName)). Each (LineIn names) w) (sym shows.lines) (unit_in names us u only there)),
  )

  units_counted : (unit : ℕ) (order : List UnitItems) (all us : List (DwUnit EntryName)) → NameOnly names all → ((u : DwUnit EntryName) → In u us → In u all) → ShowUnits (keys f) k unit order us
      → UnitsCounted k total unit order
  units_counted unit [] all us only into shows = tt
  units_counted unit (o ∷ order) all [] only into shows = absurd shows
  units_counted unit (o ∷ order) all (u ∷ us) only into shows =
      (unit_counted unit o all u only (into u (inl refl)) shows.0, units_counted (suc unit) order all us only (λ v there. into v (inr there)) shows.1)

  pub files_counted : (unit : ℕ) (orders : List (List UnitItems)) (files : List (FileOut EntryName)) → ((x : FileOut EntryName) → In x files → NameOnly names x.units)
      → ShowFiles (keys f) k unit orders files
      → FilesCounted k total unit orders
  files_counted unit [] files only shows = tt
  files_counted unit (order ∷ orders) [] only shows = absurd shows
  files_counted unit (order ∷ orders) (x ∷ files) only shows = (
    units_counted unit order x.units x.units (only x (inl refl)) (λ u there. there) shows.0,
    files_counted (unit + length order) orders files (λ y there. only y (inr there)) shows.1,
  )
