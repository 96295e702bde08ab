-- What the items of an old unit stand for, in the units that were read: tops of it that stay, spaces of it, and partial units that it uses.
use Rattle.std.specs.Prelude.{◌≡◌, ℕ, suc, false, List, [], ◌∷◌, ◌++◌, ◌==◌, length, Some, slice_get}
use Rattle.dwz_def_reading.specs.Lists.{In}
use Rattle.dwz_def_reading.specs.Units.{RawUnit}
use Rattle.dwz_def_reading.specs.Documents.{Compile, Kind, Node, OfType, Partial}
use Rattle.dwz_def_reading.specs.Meanings.{IfSo}
use Rattle.dwz_def_tops.specs.Lists.{Nth}
use Rattle.dwz_def_tops.specs.Spots.{EntryName, FileUnit, Top, tops_of}
use Rattle.dwz_layout_items.specs.declared.order.Item.{Item}
use Rattle.dwz_layout_items.specs.declared.order.ItemKind.{ItemKind}
use Rattle.dwz_layout_items.specs.declared.order.ItemKind.TheVariants.{Import, Space as ASpaceOf, Top as ATopOf, Whole}
use Rattle.dwz_def_images.specs.Moves.{Move}
use Rattle.dwz_def_images.specs.Plan.{PartialUnit}
use Rattle.dwz_layout.specs.declared.order.UnitItems.{UnitItems}
use Rattle.dwz_layout_order.specs.declared.marks.Marks.{Marks}
use Rattle.dwz_layout_order.specs.declared.outline.Next.{Next}
use Rattle.dwz_layout_order.specs.Kept.{AreKept, From}
use Rattle.dwz_layout_order.specs.Named.{MarksAll}
use Rattle.dwz_layout_order.specs.Orders.{Entered, First}
use Rattle.dwz_layout_order.specs.Shown.{IsFile, ShowsImports}
use Rattle.dwz_layout_order.specs.Spaces.{spaces_below, spaces_of}
use Rattle.dwz_law_layout.specs.Items.{IsOneOf, RootThen, item}

-- a top of the unit with that number, which stays there
pub record StaysHere (m : Move) (units : List (FileUnit EntryName)) (i t : ℕ) : Type 0 where
  pub top : Top
  pub there : In top (tops_of units)
  pub number : top.number ≡ t
  pub unit : top.unit ≡ i
  pub stays : m.gone t ≡ false

-- a space of the unit with that number, by its number among those of all units
pub record IsSpaceIn (units : List (FileUnit EntryName)) (i s : ℕ) : Type 0 where
  pub before : List (FileUnit EntryName)
  pub unit : FileUnit EntryName
  pub after : List (FileUnit EntryName)
  pub units_are : units ≡ before ++ unit ∷ after
  pub number : length before ≡ i
  pub space : IsOneOf (length (spaces_of before)) (length (spaces_below unit.unit.kind unit.unit.below)) s

-- the space with that number, an entry of the unit
pub record SpaceStands (units : List (FileUnit EntryName)) (i s : ℕ) : Type 0 where
  pub unit : FileUnit EntryName
  pub nth : Nth 0 units i unit
  pub node : Node EntryName
  pub found : slice_get (spaces_of units) s ≡ Some node
  pub below : In node (spaces_below unit.unit.kind unit.unit.below)

-- a space of a unit stands in it
abbrev pub SpaceLaw : Type 0
SpaceLaw = (units : List (FileUnit EntryName)) (i s : ℕ) → IsSpaceIn units i s → SpaceStands units i s

-- a partial unit that has the unit with that number among its users
pub record IsUsedBy (parts : List PartialUnit) (i n : ℕ) : Type 0 where
  pub part : PartialUnit
  pub nth : Nth 0 parts n part
  pub user : In i part.users

abbrev pub IsOfOld : Move → List (FileUnit EntryName) → (i : ℕ) → ItemKind → Type 0
IsOfOld m units i (ATopOf t) = StaysHere m units i t
IsOfOld m units i (ASpaceOf s) = IsSpaceIn units i s
IsOfOld m units i (Import part) = IsUsedBy m.parts i part
IsOfOld m units i _ = ⊥

-- of the unit with that number, by its kind: a unit that has no tops is written as a whole
abbrev pub OldNames : Move → List (FileUnit EntryName) → (i : ℕ) → Kind EntryName → List Item → Type 0
OldNames m units i Compile items = RootThen (IsOfOld m units i) items
OldNames m units i (OfType signature main) items = items ≡ item 1 Whole ∷ []
OldNames m units i Partial items = items ≡ item 1 Whole ∷ []

-- of these units, the first of which has that number, P holds of those of a file with what is written of them, one behind the other
abbrev pub EachOld : (ℕ → FileUnit EntryName → UnitItems → Type 0) → (file i : ℕ) → List (FileUnit EntryName) → List UnitItems → Type 0
EachOld P file i [] order = order ≡ []
EachOld P file i (f ∷ units) order =
    IfSo (f.file == file) (First (P i f) (EachOld P file (suc i) units) order) (EachOld P file (suc i) units order)

-- so it is of all old units of a file
abbrev pub OldItemsLaw : Type 0
OldItemsLaw =
    (e : Entered) (m : Move) (units : List (FileUnit EntryName)) (marks : Marks) (parts : ℕ → List ℕ) (raw : List RawUnit) (from : From)
    (next : Next) (order : List UnitItems) → IsFile e units raw from next → MarksAll m units marks → ShowsImports m units parts
    → AreKept raw marks parts from next raw order → EachOld (λ i f o. OldNames m units i f.unit.kind o.items) from.file 0 units order
