-- Where texts stand that are stored by an offset or by a slot (DWARF 5, 7.5.5, class string): in `.debug_str` of the file that has them.
use Rattle.std.specs.Prelude.{ℕ, zero, suc, Bool, true, false, List, [], ◌∷◌, Option, map, slice_get}
use Rattle.std.specs.List.{filter, flat_map}
use Rattle.std.specs.Option.{option_and_then}
use Rattle.dwz_def_reading.specs.Entries.{RawAttr}
use Rattle.dwz_def_reading.specs.Units.{RawUnit}
use Rattle.dwz_def_reading.specs.Meanings.{Around, offset_of, scope_of}
use Rattle.dwz_def_reading.specs.Classes.{OfTextBySlot, OfTextInStr}
use Rattle.dwz_def_reading.specs.Classes.{Class, class_of}
use Rattle.dwz_model.specs.declared.place.Pair.{Pair}
use Rattle.dwz_unit.specs.Rows.{EntryRow, rows_of}
use Rattle.dwz_def_encoding.specs.Bases.{bases_of}
use Rattle.dwz_def_encoding.specs.Placing.{slot_number}
use Rattle.dwz_layout.specs.declared.known.TextAt.{TextAt}
use Rattle.dwz_layout.specs.declared.known.TextAt.TheVariants.{Own}
use Rattle.dwz_layout_numbers.specs.Befores.{is_pair_placed}

-- the offset there of a value's text: its number (DW_FORM_strp), or the number in its slot (the forms strx, 7.26); and 0 where the text
-- stands in another section
abbrev pub str_offset : Class → List ℕ → Option ℕ → ℕ → ℕ
str_offset OfTextInStr offsets base number = number
str_offset OfTextBySlot offsets base number = slot_number offsets base number
str_offset _ offsets base number = 0

-- of an attribute, in a unit with that base of its slots
abbrev pub own_text : List ℕ → Option ℕ → RawAttr → TextAt
own_text offsets base a = Own (str_offset (class_of a.pair.form) offsets base (offset_of a))

-- the texts of attributes, in order
abbrev pub own_texts : List ℕ → Option ℕ → List RawAttr → List TextAt
own_texts offsets base attrs = map (own_text offsets base) (filter (λ a. is_pair_placed a.pair) attrs)

-- DW_AT_str_offsets_base of a unit, and of the unit with a number
abbrev pub slots_base : Around ℕ → RawUnit → Option ℕ
slots_base around u = (bases_of (scope_of around u)).slots

abbrev pub slots_base_at : Around ℕ → List RawUnit → ℕ → Option ℕ
slots_base_at around raw n = option_and_then (slots_base around) (slice_get raw n)

-- those of an entry
abbrev pub row_texts : Around ℕ → List RawUnit → EntryRow → List TextAt
row_texts around raw r = own_texts around.sources.offsets (slots_base_at around raw r.unit) r.entry.attrs

-- those of a file, entry by entry, in preorder
abbrev pub file_texts : Around ℕ → List RawUnit → List TextAt
file_texts around raw = flat_map (row_texts around raw) (rows_of raw)

-- ---- by declarations (DWARF 5, 7.5.3)

abbrev pub end_behind : Bool → ℕ → ℕ
end_behind text (suc n) = suc (suc n)
end_behind true zero = 1
end_behind false zero = 0

-- how many values of these names and forms there are up to the last text
unfoldable pub texts_end : List Pair → ℕ
texts_end [] = 0
texts_end (pair ∷ pairs) = end_behind (is_pair_placed pair) (texts_end pairs)
