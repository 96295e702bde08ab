-- What the items of a partial unit stand for, in the units that were read: its tops, which are all of one unit, and spaces of that unit.
use Rattle.std.specs.Prelude.{◌≡◌, ◌⊎◌, ℕ, false, List, map, slice_index_or}
use Rattle.std.specs.List.{range_with_len}
use Rattle.dwz_def_reading.specs.Lists.{Each, In}
use Rattle.dwz_def_reading.specs.Documents.{Doc}
use Rattle.dwz_def_tops.specs.Lists.{Nth}
use Rattle.dwz_def_tops.specs.Spots.{EntryName, FileUnit, Top, tops_of, units_of}
use Rattle.dwz_graph.specs.Index.{Index}
use Rattle.dwz_graph.specs.Indexed.{AreIndexes}
use Rattle.dwz_layout_items.specs.declared.order.Item.{Item}
use Rattle.dwz_layout_items.specs.declared.order.ItemKind.{ItemKind}
use Rattle.dwz_layout_items.specs.declared.order.ItemKind.TheVariants.{InChain, Top as ATopOf}
use Rattle.dwz_layout_items.specs.declared.partial.SpaceRow.{SpaceRow}
use Rattle.dwz_layout_items.specs.declared.partial.TopSpaces.{TopSpaces}
use Rattle.dwz_layout_items.specs.Chains.{Up, inner_at}
use Rattle.dwz_def_images.specs.Homes.{Common, Local, Rule, moves}
use Rattle.dwz_def_images.specs.Moves.{Move, first_unit}
use Rattle.dwz_def_images.specs.Plan.{PartialUnit, partials, stand_in}
use Rattle.dwz_plan.specs.declared.plan.Home.TheVariants.{Stay as InUnit}
use Rattle.dwz_plan.specs.Planned.{Planned, place_at}
use Rattle.dwz_plan.specs.Shows.{ShowsPlan}
use Rattle.dwz_layout_order.specs.Lists.{all_spaces, all_tops, rows_from, spaces_at}
use Rattle.dwz_layout_order.specs.Parts.{IsPart}
use Rattle.dwz_layout_order.specs.Shown.{KnowsSpaces}
use Rattle.dwz_law_layout.specs.Items.{RootThen}
use Rattle.dwz_law_layout.specs.Moving.{IsMadePart}
use Rattle.dwz_law_layout.specs.Old.{IsSpaceIn}

-- ---- tops

-- a top is of the file of its unit
pub record IsOfUnit (units : List (FileUnit EntryName)) (t : Top) : Type 0 where
  pub unit : FileUnit EntryName
  pub nth : Nth 0 units t.unit unit
  pub file : t.file ≡ unit.file

abbrev pub TopUnitLaw : Type 0
TopUnitLaw = (units : List (FileUnit EntryName)) (t : Top) → In t (tops_of units) → IsOfUnit units t

-- each of these tops has its place there, by the number of the partial unit
abbrev pub PartPlaceLaw : Type 0
PartPlaceLaw =
    (rule : Rule) (units : List (FileUnit EntryName)) (files : ℕ) (planned : Planned) → ShowsPlan rule units files planned
    → (n : ℕ) (part : PartialUnit) → Nth 0 (partials rule units (range_with_len 0 files)) n part → (t : Top) → In t part.tops
    → slice_index_or planned.homes t.number InUnit ≡ place_at part.home n

-- a top that stays has its place in its unit, and stands for itself
abbrev pub StayPlaceLaw : Type 0
StayPlaceLaw =
    (rule : Rule) (units : List (FileUnit EntryName)) (files : ℕ) (planned : Planned) → ShowsPlan rule units files planned
    → (t : Top) → In t (tops_of units) → moves rule units t.number ≡ false
    → (slice_index_or planned.homes t.number InUnit ≡ InUnit) × (stand_in rule units t.number ≡ t.number)

-- ---- users

-- a unit uses partial units of its own file and of the common one alone
abbrev pub UsedHomeLaw : Type 0
UsedHomeLaw =
    (rule : Rule) (units : List (FileUnit EntryName)) (files : List ℕ) (n : ℕ) (part : PartialUnit)
    → Nth 0 (partials rule units files) n part
    → (i : ℕ) (u : FileUnit EntryName) → Nth 0 units i u → In i part.users → (part.home ≡ Common) ⊎ (part.home ≡ Local u.file)

-- ---- spaces

-- rows of the spaces of files
abbrev pub rows_of_spaces : List Index → List SpaceRow
rows_of_spaces indexes = rows_from 0 (all_spaces indexes)

-- what is kept of the spaces of their tops, where the name lists have these numbers
abbrev pub spaces_of_tops : (lists : List ℕ) → List Index → List TopSpaces
spaces_of_tops lists indexes = map (spaces_at lists) (all_tops indexes)

-- from a top they lead to spaces of its unit
abbrev pub WaysLaw : Type 0
WaysLaw =
    (docs : List (Doc ℕ)) (indexes : List Index) (lists : List ℕ) → AreIndexes docs indexes → (t : Top) → In t (tops_of (units_of docs))
    → (ups : List ℕ) → Up (rows_of_spaces indexes) (inner_at (spaces_of_tops lists indexes) t.number) ups
    → Each (IsSpaceIn (units_of docs) t.unit) ups

-- ---- items

-- a top that the partial unit holds, or a space of the unit that its tops are of
abbrev pub IsOfNew : List (FileUnit EntryName) → PartialUnit → ItemKind → Type 0
IsOfNew units part (ATopOf t) = (x : Top) × In x part.tops × (x.number ≡ t)
IsOfNew units part (InChain chain s) = IsSpaceIn units (first_unit part.tops) s
IsOfNew units part _ = ⊥

abbrev pub NewNames : List (FileUnit EntryName) → PartialUnit → List Item → Type 0
NewNames units part items = RootThen (IsOfNew units part) items

abbrev pub NewItemsLaw : Type 0
NewItemsLaw =
    (docs : List (Doc ℕ)) (indexes : List Index) (m : Move) (texts lists : List ℕ)
    → AreIndexes docs indexes
    → KnowsSpaces (units_of docs) (rows_of_spaces indexes) texts lists (all_tops indexes)
    → (n : ℕ) (part : PartialUnit) (items : List Item) → IsMadePart m (units_of docs) n part
    → IsPart (rows_of_spaces indexes) (spaces_of_tops lists indexes) (map (λ t. t.number) part.tops) items
    → NewNames (units_of docs) part items
