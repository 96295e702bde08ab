-- Values that say the same where texts move, by what is known of their unit.
use Rattle.std.specs.Prelude.{ℕ, Bool, true, false, ◌==◌, ◌&&◌, if◌then◌else◌, List, Option, Some, None, slice_get}
use Rattle.std.specs.List.{list_all}
use Rattle.std.specs.Option.{option_map_or}
use Rattle.dwz_def_reading.specs.Rows.{has}
use Rattle.dwz_def_reading.specs.Texts.{slot_place}
use Rattle.dwz_def_reading.specs.LineTables.{FileTable}
use Rattle.dwz_def_reading.specs.Meanings.{offset_of}
use Rattle.dwz_def_reading.specs.Classes.{OfConstant, OfTextBySlot}
use Rattle.dwz_def_reading.specs.Classes.{Class, class_of, names_file}
use Rattle.dwz_model.specs.declared.place.Pair.{Pair}
use Rattle.dwz_graph_pruning.specs.declared.values.Known.{Known}
use Rattle.dwz_unit.specs.Rows.{EntryRow}

-- It has to be asked of a text by a slot, and of the number of a file of a line table with the form strp, but of no DW_AT_sibling.
abbrev pub asks_as : Class → Bool → ℕ → Bool
asks_as OfTextBySlot strp name = true
asks_as OfConstant strp name = strp && names_file name
asks_as _ strp name = false

abbrev pub asks : Bool → Pair → Bool
asks strp pair = if pair.name == 1 then false else asks_as (class_of pair.form) strp pair.name

-- the slot of an index is one of these, or there is no base
abbrev pub is_slot : List ℕ → Option ℕ → ℕ → Bool
is_slot slots None index = true
is_slot slots (Some base) index = has (slot_place base index) slots

abbrev pub stays_as : Class → List ℕ → Option ℕ → ℕ → Bool
stays_as OfTextBySlot slots base index = is_slot slots base index
stays_as _ slots base index = false

abbrev pub stays : List ℕ → Known → Pair → ℕ → Bool
stays slots k pair number = if asks k.strp pair then stays_as (class_of pair.form) slots k.base number else true

-- each value of an entry does
abbrev pub row_stays : List ℕ → Known → EntryRow → Bool
row_stays slots k row = list_all (λ a. stays slots k a.pair (offset_of a)) row.entry.attrs

-- a format of the table with that number has the form strp
abbrev pub line_strp : List FileTable → Option ℕ → Bool
line_strp tables None = false
line_strp tables (Some number) = option_map_or (λ t. t.has_strp) (slice_get tables number) false
