-- What is written of units that are kept, unit by unit.
use Rattle.std.specs.Prelude.{◌≡◌, ℕ, suc, ◌+◌, List, [], ◌∷◌, ◌++◌, slice_index_or}
use Rattle.dwz_def_tops.specs.Spots.{EntryName, Row}
use Rattle.dwz_def_reading.specs.Entries.{RawEntry}
use Rattle.dwz_def_reading.specs.Trees.{Forest}
use Rattle.dwz_def_reading.specs.Units.{CompileUnit, PartialUnit, RawKind, RawUnit, TypeUnit, entry_count}
use Rattle.dwz_graph.specs.Spaces.{stored_space}
use Rattle.dwz_layout_items.specs.declared.order.Item.{Item}
use Rattle.dwz_layout_items.specs.Lines.{line, lines, row_lines}
use Rattle.dwz_layout_items.specs.Order.{Names, import_lines, order_lines}
use Rattle.dwz_layout_items.specs.Outline.{ShowsRow, View}
use Rattle.dwz_def_images.specs.Plan.{pinned_first, row_staying}
use Rattle.dwz_layout.specs.declared.order.UnitItems.{UnitItems}
use Rattle.dwz_plan.specs.Planned.{Planned}
use Rattle.dwz_layout_order.specs.declared.kept.Source.{Source}
use Rattle.dwz_layout_order.specs.declared.marks.Marks.{Marks}
use Rattle.dwz_layout_order.specs.declared.outline.Next.{Next}
use Rattle.dwz_layout_order.specs.Outline.{behind_list, outers_in}
use Rattle.dwz_layout_order.specs.Sorts.{SortOf}

abbrev pub behind_kind : RawKind → Forest RawEntry → Next → Next
behind_kind CompileUnit below n = behind_list stored_space below n
behind_kind (TypeUnit signature type_offset) below n = n
behind_kind PartialUnit below n = n

abbrev pub behind_unit : RawUnit → Next → Next
behind_unit u n = behind_kind u.kind u.below n

-- of a unit whose root stays, with all below it
abbrev pub IsWhole : List Item → List Item → Type 0
IsWhole old new = (n : Names EntryName) → order_lines n new ≡ order_lines n old ++ (line 1 n.root ∷ lines 2 n.whole)

-- What was appended of a unit of that kind is its root, what stays of the row that these tops and spaces show, and these imports; or all of
-- it, where the unit has no tops.
abbrev pub IsKept : Marks → RawKind → Forest RawEntry → Next → List ℕ → List Item → List Item → Type 0
IsKept m CompileUnit below next imports old new =
    (v : View) (row : Row) → ShowsRow v row (outers_in stored_space m next below)
    → order_lines v.names new ≡ order_lines v.names old
    ++ (line 1 v.names.root ∷ row_lines v.image 2 (pinned_first v.pinned (row_staying v.gone row)) ++ import_lines v.names imports)
IsKept m (TypeUnit signature type_offset) below next imports old new = IsWhole old new
IsKept m PartialUnit below next imports old new = IsWhole old new

-- a file's units, and where the first unit, the first entry and the root of the first stand among all
pub record From : Type 0 where
  pub file : ℕ
  pub start : ℕ
  pub unit : ℕ
  pub first : ℕ

abbrev pub behind_from : From → RawUnit → From
behind_from f u = record { file = f.file; start = f.start; unit = suc f.unit; first = f.first + entry_count u }

pub record UnitKept (all : List RawUnit) (m : Marks) (imports : ℕ → List ℕ) (from : From) (next : Next) (u : RawUnit) (o : UnitItems) : Type
    0 where
  pub items : IsKept m u.kind u.below next (imports from.unit) [] o.items
  pub sort : SortOf all from.file from.start from.first u o.sort

-- unit by unit
abbrev pub AreKept : List RawUnit → Marks → (imports : ℕ → List ℕ) → From → Next → List RawUnit → List UnitItems → Type 0
AreKept all m imports from next [] [] = Unit {0}
AreKept all m imports from next (u ∷ raw) (o ∷ order) = UnitKept all m imports from next u o × AreKept all m imports (behind_from from u)
    (behind_unit u next) raw order
AreKept all m imports from next _ _ = ⊥

-- units were appended
pub record PutsKept (raw : List RawUnit) (m : Marks) (imports : ℕ → List ℕ) (from : From) (next : Next) (old new : List UnitItems) : Type
    0 where
  pub more : List UnitItems
  pub order : new ≡ old ++ more
  pub kept : AreKept raw m imports from next raw more

abbrev pub imports_at : Planned → ℕ → List ℕ
imports_at plan unit = slice_index_or plan.imports unit []

abbrev pub from_source : Source → From
from_source s = record { file = s.file; start = s.start; unit = s.unit; first = 0 }
