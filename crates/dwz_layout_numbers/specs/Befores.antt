-- How many texts and numbers of files come before those of an entry.
use Rattle.std.specs.Prelude.{ℕ, ◌+◌, ◌&&◌, ◌==◌, not, Bool, true, false, List, [], ◌∷◌, count_by}
use Rattle.dwz_def_reading.specs.Entries.{RawAttr}
use Rattle.dwz_def_reading.specs.Classes.{OfConstant, OfTextBySlot, OfTextInLineStr, OfTextInStr}
use Rattle.dwz_def_reading.specs.Classes.{Class, class_of, names_file}
use Rattle.dwz_model.specs.declared.place.Pair.{Pair}
use Rattle.dwz_unit.specs.Rows.{EntryRow}
use Rattle.dwz_layout_numbers.specs.declared.firsts.CountsBefore.{CountsBefore}
use Rattle.dwz_layout_numbers.specs.declared.firsts.PairCounts.{PairCounts}

-- the values of the class are texts that are stored by an offset or by a slot
abbrev pub is_placed : Class → Bool
is_placed OfTextInStr = true
is_placed OfTextInLineStr = true
is_placed OfTextBySlot = true
is_placed _ = false

abbrev pub is_constant : Class → Bool
is_constant OfConstant = true
is_constant _ = false

-- DW_AT_sibling (1) isn't written
abbrev pub is_pair_placed : Pair → Bool
is_pair_placed pair = not (pair.name == 0x01) && is_placed (class_of pair.form)

-- a constant with one of the names of numbers of files
abbrev pub is_pair_file : Pair → Bool
is_pair_file pair = is_constant (class_of pair.form) && names_file pair.name

-- how many texts, and how many numbers of files, there are among values of these names and forms
abbrev pub counts_of : List Pair → PairCounts
counts_of pairs = record { texts = count_by is_pair_placed pairs; files = count_by is_pair_file pairs }

abbrev pub text_count : List RawAttr → ℕ
text_count attrs = count_by (λ a. is_pair_placed a.pair) attrs

abbrev pub file_count : List RawAttr → ℕ
file_count attrs = count_by (λ a. is_pair_file a.pair) attrs

-- with those of an entry
abbrev pub behind : CountsBefore → EntryRow → CountsBefore
behind b row = record { texts = b.texts + text_count row.entry.attrs; files = b.files + file_count row.entry.attrs }

-- of entries one behind the other, before the first of which so many come
unfoldable pub befores_from : CountsBefore → List EntryRow → List CountsBefore
befores_from b [] = []
befores_from b (row ∷ rows) = b ∷ befores_from (behind b row) rows
