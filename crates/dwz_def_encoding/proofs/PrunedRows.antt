-- A text in the middle of another, which a common file has or not, and a slot that names it, by the definitions.
use Rattle.std.proofs.Common.{◌≡◌, ℕ, pos, false, List, [], ◌∷◌, ◌++◌, eqb, refl}
use Rattle.dwz_def_reading.specs.Spelling.{le_bytes}
use Rattle.dwz_def_reading.specs.OffsetTables.{count_at, counts_in, is_contribution}
use Rattle.dwz_def_reading.specs.Pruning.{bytes_kept, is_kept, new_number, pruned, range_end}
use Rattle.dwz_def_reading.specs.Texts.{text_in}
use Rattle.dwz_def_reading.specs.Trees.{End, Entry}
use Rattle.dwz_def_reading.specs.Values.{value_bytes}
use Rattle.dwz_def_reading.specs.Documents.{Attr, Compile, DwUnit, Text, only}
use Rattle.dwz_def_reading.specs.Classes.{class_in, class_rows}
use Rattle.dwz_def_tops.specs.Shown.{keys, unit_keys, units_keys}
use Rattle.dwz_def_tops.specs.Spots.{same_numbers}
use Rattle.dwz_def_encoding.specs.Bases.{no_bases}
use Rattle.dwz_def_encoding.specs.Placing.{Forms, fit, fit_units, has_text, text_place, zeros}
use Rattle.dwz_def_encoding.specs.Pruned.{all_uses, attrs_uses, entries_renumbered, entries_uses, known_slots, renumbered_units, slot_after, slot_uses, units_uses}
use Rattle.dwz_def_encoding.specs.Writing.{attrs_bytes}

-- `int`, and `long int` with the zero byte that ends it
abbrev short : List ℕ
short = 0x69 ∷ 0x6e ∷ 0x74 ∷ []

abbrev long : List ℕ
long = 0x6c ∷ 0x6f ∷ 0x6e ∷ 0x67 ∷ 0x20 ∷ 0x69 ∷ 0x6e ∷ 0x74 ∷ 0 ∷ []

-- DW_AT_name `int`, of a form and with a number
abbrev name_by : ℕ → ℕ → Attr ℕ
name_by form number = record { name = 0x03; form = form; raw = pos number; value = only (Text short) }

-- a unit with a base type that has this name
abbrev unit_with : Attr ℕ → DwUnit ℕ
unit_with name = record { at = 0; kind = Compile; root = record { at = 1; tag = 0x11; attrs = [] }; below = Entry (record { at = 2; tag = 0x24; attrs = name ∷ [] }) End End }

-- a file that shares such texts
abbrev forms : List (List ℕ) → Forms ℕ
forms texts = record { same = eqb; is_common = false; texts = texts; shared = texts; paths = []; offsets = []; origin = λ k. no_bases }

-- ---- with a common file that has it

shared : fit_units (forms (short ∷ [])) (unit_with (name_by 0x0e 5) ∷ []) ≡ unit_with (name_by 0x1d 0) ∷ []
unfolding fit_units fit units_keys unit_keys keys class_in class_rows has_text text_place same_numbers
shared = refl

shared_uses : all_uses long [] (unit_with (name_by 0x1d 0) ∷ []) ≡ []
unfolding units_uses attrs_uses entries_uses slot_uses counts_in
shared_uses = refl

nothing_used : pruned long [] ≡ []
unfolding bytes_kept is_kept
nothing_used = refl

shared_bytes : attrs_bytes zeros 0 (name_by 0x1d 0 ∷ []) ≡ 0 ∷ 0 ∷ 0 ∷ 0 ∷ []
unfolding attrs_bytes value_bytes class_in class_rows le_bytes
shared_bytes = refl

-- ---- by itself, with a slot that names it

alone : fit_units (forms []) (unit_with (name_by 0x0e 5) ∷ []) ≡ unit_with (name_by 0x0e 5) ∷ []
unfolding fit_units fit units_keys unit_keys keys class_in class_rows has_text text_place
alone = refl

-- a contribution with one slot
abbrev slots : List ℕ
slots = 8 ∷ 0 ∷ 0 ∷ 0 ∷ 5 ∷ 0 ∷ 0 ∷ 0 ∷ 5 ∷ 0 ∷ 0 ∷ 0 ∷ []

slot_at_8 : known_slots slots ≡ 8 ∷ []
unfolding counts_in is_contribution count_at
slot_at_8 = refl

alone_uses : all_uses long slots (unit_with (name_by 0x0e 5) ∷ []) ≡ 5 ∷ 5 ∷ []
unfolding units_uses attrs_uses entries_uses slot_uses counts_in is_contribution count_at text_in
alone_uses = refl

alone_strs : pruned long (5 ∷ 5 ∷ []) ≡ short ++ 0 ∷ []
unfolding bytes_kept is_kept range_end text_in
alone_strs = refl

alone_renumbered : renumbered_units (new_number long (5 ∷ 5 ∷ [])) (unit_with (name_by 0x0e 5) ∷ []) ≡ unit_with (name_by 0x0e 0) ∷ []
unfolding renumbered_units entries_renumbered bytes_kept is_kept range_end text_in
alone_renumbered = refl

alone_slot : slot_after long (5 ∷ 5 ∷ []) 5 ≡ 0
unfolding bytes_kept is_kept range_end text_in
alone_slot = refl

-- a slot that names no text stays
other_slot : slot_after long (5 ∷ 5 ∷ []) 9 ≡ 9
unfolding text_in
other_slot = refl
