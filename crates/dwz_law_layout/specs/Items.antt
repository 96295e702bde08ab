-- Which tops, spaces and imports the items of a unit stand for, by their numbers.
use Rattle.std.specs.Prelude.{◌≡◌, ℕ, ◌+◌, ◌<◌, ◌≤◌, true, List, [], ◌∷◌}
use Rattle.dwz_def_reading.specs.Entries.{RawEntry}
use Rattle.dwz_def_reading.specs.Lists.{Each, In}
use Rattle.dwz_def_reading.specs.Trees.{Forest}
use Rattle.dwz_def_reading.specs.Units.{CompileUnit, PartialUnit, RawKind, TypeUnit}
use Rattle.dwz_graph.specs.Spaces.{stored_space}
use Rattle.dwz_graph.specs.Steps.{spaces_by, tops_by}
use Rattle.dwz_layout_items.specs.declared.order.Item.{Item}
use Rattle.dwz_layout_items.specs.declared.order.ItemKind.{ItemKind}
use Rattle.dwz_layout_items.specs.declared.order.ItemKind.TheVariants.{Import, InChain, Root, Space, Top, Whole}
use Rattle.dwz_layout_items.specs.declared.partial.SpaceRow.{SpaceRow}
use Rattle.dwz_layout_items.specs.declared.partial.TopSpaces.{TopSpaces}
use Rattle.dwz_layout_items.specs.Chains.{Up, inner_at}
use Rattle.dwz_layout_order.specs.declared.marks.Marks.{Marks}
use Rattle.dwz_layout_order.specs.declared.outline.Next.{Next}
use Rattle.dwz_layout_order.specs.Kept.{IsKept}
use Rattle.dwz_layout_order.specs.Marks.{mark_at}
use Rattle.dwz_layout_order.specs.Parts.{IsPart}

abbrev pub item : ℕ → ItemKind → Item
item depth what = record { what = what; depth = depth }

-- the root of a unit comes first, and P holds of what each item behind it stands for
pub record RootThen (P : ItemKind → Type 0) (items : List Item) : Type 0 where
  pub others : List Item
  pub items_are : items ≡ item 1 Root ∷ others
  pub each : Each (λ x. P x.what) others

-- ---- partial units

-- one of these tops, or a space that one of them stands in, where these numbers lead out from each
abbrev pub IsOfPart : (tops : List ℕ) → (ups : ℕ → List ℕ) → ItemKind → Type 0
IsOfPart tops ups (Top t) = In t tops
IsOfPart tops ups (InChain chain s) = (t : ℕ) × In t tops × In s (ups t)
IsOfPart tops ups _ = ⊥

abbrev pub PartNames : (tops : List ℕ) → (ups : ℕ → List ℕ) → List Item → Type 0
PartNames tops ups items = RootThen (IsOfPart tops ups) items

abbrev pub PartItemsLaw : Type 0
PartItemsLaw =
    (rows : List SpaceRow) (of_tops : List TopSpaces) (tops : List ℕ) (ups : ℕ → List ℕ) (items : List Item)
    → ((t : ℕ) → In t tops → Up rows (inner_at of_tops t) (ups t)) → IsPart rows of_tops tops items → PartNames tops ups items

-- ---- units that are kept

-- one of so many numbers, from the first on
pub record IsOneOf (first count n : ℕ) : Type 0 where
  pub low : first ≤ n
  pub high : n < first + count

-- a top below the root that stays, a space there, where these are the next top and the next space; or one of these imports
abbrev pub IsOfKept : Marks → (below : Forest RawEntry) → Next → (imports : List ℕ) → ItemKind → Type 0
IsOfKept m below next imports (Top t) = IsOneOf next.top (tops_by stored_space below) t × ((mark_at m.tops.now t).stays ≡ true)
IsOfKept m below next imports (Space s) = IsOneOf next.space (spaces_by stored_space below) s
IsOfKept m below next imports (Import part) = In part imports
IsOfKept m below next imports _ = ⊥

-- by the kind of the unit: a unit that has no tops is written as a whole
abbrev pub KeptNames : Marks → RawKind → (below : Forest RawEntry) → Next → (imports : List ℕ) → List Item → Type 0
KeptNames m CompileUnit below next imports items = RootThen (IsOfKept m below next imports) items
KeptNames m (TypeUnit signature type_offset) below next imports items = items ≡ item 1 Whole ∷ []
KeptNames m PartialUnit below next imports items = items ≡ item 1 Whole ∷ []

abbrev pub KeptItemsLaw : Type 0
KeptItemsLaw =
    (m : Marks) (kind : RawKind) (below : Forest RawEntry) (next : Next) (imports : List ℕ) (items : List Item)
    → IsKept m kind below next imports [] items → KeptNames m kind below next imports items
