-- The entries of a unit that is written, one by one, with their depths: where children begin and lists of them end follows from these.
use Rattle.std.specs.Prelude.{ℕ, suc, ◌+◌, ◌-◌, List, [], ◌∷◌, ◌++◌, nat_lt, slice_range}
use Rattle.std.specs.Option.{option_map_or}
use Rattle.dwz_layout_items.specs.declared.order.Item.{Item}
use Rattle.dwz_layout_items.specs.declared.order.ItemKind.{ItemKind}
use Rattle.dwz_layout_items.specs.declared.order.ItemKind.TheVariants.{Import, InChain, Root, Space, Top, Whole}
use Rattle.dwz_unit.specs.Rows.{EntryRow}
use Rattle.dwz_layout.specs.declared.known.EntryTable.{EntryTable}
use Rattle.dwz_layout.specs.declared.known.Row.{Row}
use Rattle.dwz_layout.specs.declared.order.Sort.{Sort}
use Rattle.dwz_layout.specs.declared.order.Sort.TheVariants.{Compile, OfType, Partial}
use Rattle.dwz_layout.specs.declared.order.UnitItems.{UnitItems}
use Rattle.dwz_layout.specs.declared.walk.Entry.{Entry}
use Rattle.dwz_layout.specs.declared.walk.Origin.{Origin}
use Rattle.dwz_layout.specs.declared.walk.Origin.TheVariants.{Chained, Imported, OwnRoot, Read}
use Rattle.dwz_layout.specs.declared.walk.Slot.{Slot}
use Rattle.dwz_layout.specs.Known.{row_at, rows_in, space_at, top_row}

abbrev pub slot : ℕ → Origin → Slot
slot depth origin = record { depth = depth; origin = origin }

abbrev pub row : ℕ → ℕ → Row
row file entry = record { file = file; entry = entry }

-- entries of a file, the first of which has that number; what stood as deep as `base` stands at `depth`
unfoldable pub row_slots : (file depth base entry : ℕ) → List EntryRow → List Slot
row_slots file depth base entry [] = []
row_slots file depth base entry (r ∷ rows) = slot (depth + (r.depth - base)) (Read (row file entry)) ∷ row_slots file depth base (suc entry)
    rows

-- all entries below one
abbrev pub slots_below : EntryTable → ℕ → Row → EntryRow → List Slot
slots_below k depth r top = row_slots r.file depth top.depth (suc r.entry) (slice_range (rows_in k r.file) (suc r.entry) top.end)

-- an entry with all below it
abbrev pub tree_slots : EntryTable → ℕ → Row → List Slot
tree_slots k depth r = slot depth (Read r) ∷ option_map_or (slots_below k depth r) (row_at k r) []

abbrev pub root_of : Sort → Origin
root_of (Compile root) = Read root
root_of (OfType root signature main) = Read root
root_of (Partial line) = OwnRoot line

abbrev pub whole_slots : EntryTable → ℕ → Sort → List Slot
whole_slots k depth (Compile root) = tree_slots k depth root
whole_slots k depth (OfType root signature main) = tree_slots k depth root
whole_slots k depth (Partial line) = slot depth (OwnRoot line) ∷ []

abbrev pub what_slots : EntryTable → Sort → ℕ → ItemKind → List Slot
what_slots k sort depth Root = slot depth (root_of sort) ∷ []
what_slots k sort depth Whole = whole_slots k depth sort
what_slots k sort depth (Top top) = tree_slots k depth (top_row k top)
what_slots k sort depth (Space space) = let s = space_at k space in slot depth (Read s.row) ∷ []
what_slots k sort depth (InChain chain space) = slot depth (Chained chain space) ∷ []
what_slots k sort depth (Import part) = slot depth (Imported part) ∷ []

unfoldable pub items_slots : EntryTable → Sort → List Item → List Slot
items_slots k sort [] = []
items_slots k sort (item ∷ items) = what_slots k sort item.depth item.what ++ items_slots k sort items

-- how deep the first one stands; behind all a root would follow
abbrev pub depth_of : List Slot → ℕ
depth_of [] = 1
depth_of (s ∷ slots) = s.depth

-- An entry has children if the next one stands deeper, and behind it as many lists end as the next one stands higher.
unfoldable pub entries_of : List Slot → List Entry
entries_of [] = []
entries_of (s ∷ slots) = record {
  origin = s.origin;
  depth = s.depth;
  children = nat_lt s.depth (depth_of slots);
  ends =
      s.depth - depth_of slots;
} ∷ entries_of slots

abbrev pub unit_entries : EntryTable → UnitItems → List Entry
unit_entries k u = entries_of (items_slots k u.sort u.items)
