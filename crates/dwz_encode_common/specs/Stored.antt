-- The texts that the values of entries name which are written, as the files store them.
use Rattle.std.specs.Prelude.{ℕ, List, [], ◌∷◌, map, Option, Some, None, slice_get, ◌==◌, if◌then◌else◌}
use Rattle.std.specs.List.{flat_map}
use Rattle.std.specs.Option.{option_and_then, option_map_or}
use Rattle.dwz_def_reading.specs.Entries.{RawAttr}
use Rattle.dwz_def_reading.specs.Texts.{text_at}
use Rattle.dwz_def_reading.specs.Units.{RawUnit}
use Rattle.dwz_def_reading.specs.Files.{sources_of}
use Rattle.dwz_def_reading.specs.Meanings.{Sources, base_in, first_raw, offset_of}
use Rattle.dwz_def_reading.specs.Classes.{OfTextBySlot, OfTextInLineStr, OfTextInStr}
use Rattle.dwz_def_reading.specs.Classes.{Class, class_of}
use Rattle.dwz_unit.specs.Rows.{EntryRow, units_of}
use Rattle.dwz_def_encoding.specs.Placing.{slot_number}
use Rattle.dwz_layout.specs.declared.known.FileRows.{FileRows}
use Rattle.dwz_layout.specs.declared.known.EntryTable.{EntryTable}
use Rattle.dwz_layout.specs.declared.known.Row.{Row}
use Rattle.dwz_layout.specs.declared.order.UnitItems.{UnitItems}
use Rattle.dwz_layout.specs.declared.walk.Origin.{Origin}
use Rattle.dwz_layout.specs.declared.walk.Origin.TheVariants.{Chained, Imported, OwnRoot, Read}
use Rattle.dwz_layout.specs.declared.walk.Slot.{Slot}
use Rattle.dwz_layout.specs.Entries.{items_slots}
use Rattle.dwz_layout.specs.Known.{row_at, space_at}

-- ---- values

-- no bytes where no text stands
abbrev pub text_or_none : Option (List ℕ) → List ℕ
text_or_none None = []
text_or_none (Some text) = text

-- the text of a number, if values of the class are texts that have a place in a section (DWARF 5, 7.5.5, class string): at that offset of
-- the section, or of `.debug_str` at the offset in that slot, from a base on (7.26)
abbrev pub class_texts : Class → Sources → Option ℕ → ℕ → List (List ℕ)
class_texts OfTextInStr s base number = text_or_none (text_at s.strs number) ∷ []
class_texts OfTextInLineStr s base number = text_or_none (text_at s.line_strs number) ∷ []
class_texts OfTextBySlot s base number = text_or_none (text_at s.strs (slot_number s.offsets base number)) ∷ []
class_texts _ s base number = []

-- that of a value; DW_AT_sibling (1) is not written
abbrev pub text_read : Sources → Option ℕ → RawAttr → List (List ℕ)
text_read s base a = if a.pair.name == 0x01 then [] else class_texts (class_of a.pair.form) s base (offset_of a)

-- ---- units

-- where the slots of a unit begin (3.1.1, DW_AT_str_offsets_base, 72), and those of the unit with a number
abbrev pub slots_base : RawUnit → Option ℕ
slots_base u = base_in (first_raw 0x72 u.root.attrs)

abbrev pub slots_base_at : List RawUnit → ℕ → Option ℕ
slots_base_at raw n = option_and_then slots_base (slice_get raw n)

-- those of each file
abbrev pub file_bases : FileRows → List (Option ℕ)
file_bases r = map slots_base (units_of r.units.now)

-- ---- entries that were read

-- the units of the file with that number
abbrev pub units_in : EntryTable → ℕ → List RawUnit
units_in k file = option_map_or (λ (r : FileRows). units_of r.units.now) (slice_get k.files.items file) []

-- what an entry of a file gives, if there is such an entry in the lists, and such a file
abbrev pub by_row : List (List ℕ) → EntryTable → Row → (Sources → List RawUnit → EntryRow → List (List ℕ)) → List (List ℕ)
by_row contents k r give =
    option_map_or (λ bytes. option_map_or (give (sources_of bytes) (units_in k r.file)) (row_at k r) []) (slice_get contents r.file) []

-- its texts
abbrev pub row_texts : Sources → List RawUnit → EntryRow → List (List ℕ)
row_texts s raw x = flat_map (text_read s (slots_base_at raw x.unit)) x.entry.attrs

-- its name (3), the first one
abbrev pub name_read : Sources → Option ℕ → Option RawAttr → List (List ℕ)
name_read s base None = []
name_read s base (Some a) = text_read s base a

abbrev pub row_name : Sources → List RawUnit → EntryRow → List (List ℕ)
row_name s raw x = name_read s (slots_base_at raw x.unit) (first_raw 0x03 x.entry.attrs)

-- ---- entries that are written

abbrev pub origin_texts : List (List ℕ) → EntryTable → Origin → List (List ℕ)
origin_texts contents k (Read r) = by_row contents k r row_texts
origin_texts contents k (OwnRoot line) = []
origin_texts contents k (Chained chain space) = by_row contents k (space_at k space).row row_name
origin_texts contents k (Imported part) = []

-- what these entries give
abbrev pub slots_give : (Origin → List (List ℕ)) → List Slot → List (List ℕ)
slots_give give slots = flat_map (λ (s : Slot). give s.origin) slots

abbrev pub items_give : (Origin → List (List ℕ)) → EntryTable → UnitItems → List (List ℕ)
items_give give k o = slots_give give (items_slots k o.sort o.items)

-- what units give
abbrev pub order_give : (Origin → List (List ℕ)) → EntryTable → List UnitItems → List (List ℕ)
order_give give k order = flat_map (items_give give k) order

-- their texts
abbrev pub order_texts : List (List ℕ) → EntryTable → List UnitItems → List (List ℕ)
order_texts contents k order = order_give (origin_texts contents k) k order
