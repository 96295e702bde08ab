-- Which units the items of files show, once entries that were read and units have names.
use Rattle.std.specs.Prelude.{◌≡◌, ◌⊎◌, ℕ, pos, suc, ◌+◌, ◌-◌, ◌<◌, List, [], ◌∷◌, length, map}
use Rattle.dwz_def_reading.specs.Values.{Bytes, Number, Raw}
use Rattle.dwz_def_reading.specs.Documents.{Attr, Compile, DwUnit, Expr, Kind, OfType, Part, Partial, Plain}
use Rattle.dwz_def_reading.specs.Classes.{OfCommonEntry, OfExpression, OfInfoEntry, OfUnitEntry}
use Rattle.dwz_def_reading.specs.Classes.{Class, class_of}
use Rattle.dwz_model.specs.declared.place.Pair.{Pair}
use Rattle.dwz_layout_items.specs.Lines.{Line, unit_lines}
use Rattle.dwz_def_reading.specs.Lists.{Each}
use Rattle.dwz_def_encoding.specs.Placing.{FileOut, zeros}
use Rattle.dwz_def_encoding.specs.Writing.{pair_of, stored_as}
use Rattle.dwz_layout.specs.declared.known.EntryTable.{EntryTable}
use Rattle.dwz_layout.specs.declared.order.Sort.{Sort}
use Rattle.dwz_layout.specs.declared.order.Sort.TheVariants.{Compile as CompileSort, OfType as TypeSort, Partial as PartialSort}
use Rattle.dwz_layout.specs.declared.order.UnitItems.{UnitItems}
use Rattle.dwz_layout.specs.declared.walk.Origin.{Origin}
use Rattle.dwz_layout.specs.declared.walk.Origin.TheVariants.{Chained, Imported, OwnRoot, Read as OfRow}
use Rattle.dwz_layout.specs.declared.walk.Slot.{Slot}
use Rattle.dwz_layout.specs.Attributes.{Content, OfEntry, OfParts, OfRoot, OutAttr, Read, WritingContext, attrs_of, here_of, tag_of}
use Rattle.dwz_layout.specs.Entries.{items_slots}
use Rattle.dwz_layout.specs.Known.{number_of}

-- ---- entries, whatever the numbers are

-- what an attribute stores: a value, the number of a name, or an expression that names some
pub data Held (K : Type 0) : Type 0 where
  Value : Raw → Held K
  Key : K → Held K
  Parts : List Part → List K → Held K

pub record HeldAttr (K : Type 0) : Type 0 where
  pub pair : Pair
  pub held : Held K

-- an entry with its depth, its name and its tag, and what its attributes store
pub record HeldLine (K : Type 0) : Type 0 where
  pub depth : ℕ
  pub key : K
  pub tag : ℕ
  pub attrs : List (HeldAttr K)

abbrev pub first_held : {K : Type 0} → List K → Held K
first_held [] = Value (Number (pos 0))
first_held (k ∷ refs) = Key k

abbrev pub expr_held : {K : Type 0} → Plain → List K → Held K
expr_held (Expr parts) refs = Parts parts refs
expr_held _ refs = Value (Bytes [])

abbrev pub held_as : {K : Type 0} → Class → Attr K → Held K
held_as OfUnitEntry a = first_held a.value.refs
held_as OfInfoEntry a = first_held a.value.refs
held_as OfCommonEntry a = first_held a.value.refs
held_as OfExpression a = expr_held a.value.plain a.value.refs
held_as c a = Value (stored_as c zeros 0 a)

abbrev pub held_of : {K : Type 0} → Attr K → HeldAttr K
held_of a = record { pair = pair_of a; held = held_as (class_of a.form) a }

abbrev pub line_held : {K : Type 0} → Line K → HeldLine K
line_held l = record { depth = l.depth; key = l.node.at; tag = l.node.tag; attrs = map held_of l.node.attrs }

-- ---- what items say

-- the names of entries that were read, by their numbers among all files; those of the roots of units, by the numbers of units that are
-- written; and in such a unit those of the spaces of a chain, by how many spaces each stands in, and of imports
pub record Keys (K : Type 0) : Type 0 where
  pub row : ℕ → K
  pub root : ℕ → K
  pub chained : (unit chain depth : ℕ) → K
  pub import : (unit part : ℕ) → K

abbrev pub content_held : {K : Type 0} → Keys K → Content → Held K
content_held keys (Read raw) = Value raw
content_held keys (OfEntry number) = Key (keys.row number)
content_held keys (OfRoot unit) = Key (keys.root unit)
content_held keys (OfParts parts numbers) = Parts parts (map keys.row numbers)

abbrev pub attr_held : {K : Type 0} → Keys K → OutAttr → HeldAttr K
attr_held keys a = record { pair = a.pair; held = content_held keys a.content }

-- the outermost space of a chain stands at depth 2
abbrev pub key_of : {K : Type 0} → Keys K → EntryTable → ℕ → ℕ → Origin → K
key_of keys k unit depth (OfRow r) = keys.row (number_of k r)
key_of keys k unit depth (OwnRoot line) = keys.root unit
key_of keys k unit depth (Chained chain space) = keys.chained unit chain (depth - 2)
key_of keys k unit depth (Imported part) = keys.import unit part

abbrev pub slot_held : {K : Type 0} → Keys K → EntryTable → WritingContext → Slot → HeldLine K
slot_held keys k here s = record {
  depth = s.depth;
  key = key_of keys k here.unit s.depth s.origin;
  tag = tag_of k s.origin;
  attrs =
      map (attr_held keys) (attrs_of k here s.origin);
}

abbrev pub unit_held : {K : Type 0} → Keys K → EntryTable → ℕ → UnitItems → List (HeldLine K)
unit_held keys k unit o = map (slot_held keys k (here_of k unit o.sort)) (items_slots k o.sort o.items)

-- ---- items show units

abbrev pub SortShows : {K : Type 0} → Keys K → Sort → Kind K → Type 0
SortShows keys (CompileSort root) Compile = Unit {0}
SortShows keys (TypeSort root s main) (OfType signature key) = (s ≡ signature) × (keys.row main ≡ key)
SortShows keys (PartialSort line) Partial = Unit {0}
SortShows keys _ _ = ⊥

-- the unit with that number: the same entries in preorder, at the same depths, with what these store
pub record ShowsUnit {K : Type 0} (keys : Keys K) (k : EntryTable) (unit : ℕ) (o : UnitItems) (u : DwUnit K) : Type 0 where
  pub sort : SortShows keys o.sort u.kind
  pub root : keys.root unit ≡ u.root.at
  pub lines : unit_held keys k unit o ≡ map line_held (unit_lines u)

-- units one by one, the first of which has that number
abbrev pub ShowUnits : {K : Type 0} → Keys K → EntryTable → ℕ → List UnitItems → List (DwUnit K) → Type 0
ShowUnits keys k unit [] [] = Unit {0}
ShowUnits keys k unit (o ∷ order) (u ∷ units) = ShowsUnit keys k unit o u × ShowUnits keys k (suc unit) order units
ShowUnits keys k unit _ _ = ⊥

-- ---- what is written

abbrev pub IsRow : EntryTable → ℕ → Origin → Type 0
IsRow k number (OfRow r) = number_of k r ≡ number
IsRow k number _ = ⊥

-- the entry with that number is among these, or in a unit, or in a file
abbrev pub HasRow : EntryTable → ℕ → List Slot → Type 0
HasRow k number [] = ⊥
HasRow k number (s ∷ slots) = IsRow k number s.origin ⊎ HasRow k number slots

abbrev pub InUnits : EntryTable → ℕ → List UnitItems → Type 0
InUnits k number [] = ⊥
InUnits k number (o ∷ order) = HasRow k number (items_slots k o.sort o.items) ⊎ InUnits k number order

abbrev pub IsWritten : EntryTable → ℕ → List (List UnitItems) → Type 0
IsWritten k number [] = ⊥
IsWritten k number (order ∷ files) = InUnits k number order ⊎ IsWritten k number files

unfoldable pub unit_count : List (List UnitItems) → ℕ
unit_count [] = 0
unit_count (order ∷ files) = length order + unit_count files

abbrev pub RowRefers : EntryTable → List (List UnitItems) → ℕ → Type 0
RowRefers k all number = (number < length k.owners.items) × IsWritten k number all

-- ---- what is named is there

-- which entries are there to be named, by their numbers among all files, and of how many units the roots
pub record There : Type 1 where
  pub row : ℕ → Type 0
  pub units : ℕ

-- what an order writes
abbrev pub written_in : EntryTable → List (List UnitItems) → There
written_in k all = record { row = RowRefers k all; units = unit_count all }

abbrev pub ContentRefers : There → Content → Type 0
ContentRefers t (Read raw) = Unit {0}
ContentRefers t (OfEntry number) = t.row number
ContentRefers t (OfRoot unit) = unit < t.units
ContentRefers t (OfParts parts numbers) = Each t.row numbers

abbrev pub SortRefers : There → Sort → Type 0
SortRefers t (CompileSort root) = Unit {0}
SortRefers t (TypeSort root s main) = t.row main
SortRefers t (PartialSort line) = Unit {0}

abbrev pub SlotRefers : There → EntryTable → WritingContext → Slot → Type 0
SlotRefers t k here s = Each (λ a. ContentRefers t a.content) (attrs_of k here s.origin)

abbrev pub UnitRefers : There → EntryTable → ℕ → UnitItems → Type 0
UnitRefers t k unit o = SortRefers t o.sort × Each (SlotRefers t k (here_of k unit o.sort)) (items_slots k o.sort o.items)

-- units, the first of which has that number
abbrev pub Refer : There → EntryTable → ℕ → List UnitItems → Type 0
Refer t k unit [] = Unit {0}
Refer t k unit (o ∷ order) = UnitRefers t k unit o × Refer t k (suc unit) order

-- ---- files

-- the units of files one by one, where the first unit has that number
abbrev pub ShowFiles : {K : Type 0} → Keys K → EntryTable → ℕ → List (List UnitItems) → List (FileOut K) → Type 0
ShowFiles keys k unit [] [] = Unit {0}
ShowFiles keys k unit (order ∷ files) (f ∷ outs) = ShowUnits keys k unit order f.units × ShowFiles keys k (unit + length order) files outs
ShowFiles keys k unit _ _ = ⊥

abbrev pub FilesRefer : There → EntryTable → ℕ → List (List UnitItems) → Type 0
FilesRefer t k unit [] = Unit {0}
FilesRefer t k unit (order ∷ files) = Refer t k unit order × FilesRefer t k (unit + length order) files
