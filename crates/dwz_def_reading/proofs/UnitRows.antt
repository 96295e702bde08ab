-- Small sections, read by the definitions.
use Rattle.std.proofs.Common.{◌≡◌, ℕ, ◌+◌, ◌-◌, ◌*◌, List, [], ◌∷◌, ◌++◌, Result, Ok, Err, refl, length, map, replicate, take, drop}
use Rattle.dwz_model.specs.declared.fault.Fault.{Fault}
use Rattle.dwz_model.specs.declared.fault.Reason.{Reason}
use Rattle.dwz_model.specs.declared.fault.Reason.TheVariants.{Truncated, UnsupportedForm, TooDeep, TooMany}
use Rattle.dwz_bytes.specs.Input.{input}
use Rattle.dwz_bytes.specs.Spelling.{le_bytes}
use Rattle.dwz_bytes.specs.Reading.{groups_at, sleb_at, uleb_at}
use Rattle.dwz_codes.specs.Forms.{form_rows}
use Rattle.dwz_def_reading.specs.Abbrevs.{declaration_at, pair_at, table_at}
use Rattle.dwz_def_reading.specs.Entries.{attrs_at, front_at, given}
use Rattle.dwz_def_reading.specs.Faults.{info_fault}
use Rattle.dwz_def_reading.specs.Items.{items_at, items_from}
use Rattle.dwz_def_reading.specs.Texts.{text_in}
use Rattle.dwz_def_reading.specs.Trees.{forest_at, siblings_at}
use Rattle.dwz_def_reading.specs.Units.{RawUnit, header_reason, tree_at, unit_at, units_at, units_from, zero_count}
use Rattle.dwz_def_reading.specs.Values.{shaped_at}

-- Two units with one type each, over one table: the type's declaration has the code 2.
abbrev table : List ℕ
table = 0x01 ∷ 0x11 ∷ 0x01 ∷ 0x00 ∷ 0x00 ∷ 0x02 ∷ 0x24 ∷ 0x00 ∷ 0x03 ∷ 0x08 ∷ 0x0b ∷ 0x0b ∷ 0x3e ∷ 0x0b ∷ 0x00 ∷ 0x00 ∷ 0x00 ∷ []

abbrev a_unit : List ℕ
a_unit = 0x11 ∷ 0x00 ∷ 0x00 ∷ 0x00 ∷ 0x05 ∷ 0x00 ∷ 0x01 ∷ 0x08 ∷ 0x00 ∷ 0x00 ∷ 0x00 ∷ 0x00 ∷ 0x01 ∷ 0x02 ∷ 0x69 ∷ 0x6e ∷ 0x74 ∷ 0x00 ∷ 0x04 ∷ 0x05 ∷ 0x00 ∷ []

abbrev two : List ℕ
two = a_unit ++ a_unit

-- how many units are read, or the fault
abbrev pub count_of : Result (List RawUnit) Fault → Result ℕ Fault
count_of (Ok units) = Ok (length units)
count_of (Err f) = Err f

abbrev read : List ℕ → ℕ → List ℕ → Result ℕ Fault
read abbrevs entries info = count_of (units_at abbrevs (given entries) 0 (input info 0))

abbrev fails_at : ℕ → Reason → Result ℕ Fault
fails_at at reason = Err (info_fault at reason)

-- four entries are read where there is room for four
both : read table 4 two ≡ Ok 2
unfolding le_bytes units_at units_from unit_at header_reason tree_at zero_count front_at attrs_at siblings_at forest_at table_at declaration_at pair_at items_at items_from uleb_at sleb_at groups_at
    shaped_at text_in form_rows
both = refl

-- and not where there is room for three
no_room : read table 3 two ≡ fails_at 0x22 TooMany
unfolding le_bytes units_at units_from unit_at header_reason tree_at zero_count front_at attrs_at siblings_at forest_at table_at declaration_at pair_at items_at items_from uleb_at sleb_at groups_at
    shaped_at text_in form_rows
no_room = refl

-- the second unit ends past the section
later_length_too_great : read table 4 (a_unit ++ 0x12 ∷ drop 1 a_unit) ≡ fails_at 0x15 Truncated
unfolding le_bytes units_at units_from unit_at header_reason tree_at zero_count front_at attrs_at siblings_at forest_at table_at declaration_at pair_at items_at items_from uleb_at sleb_at groups_at
    shaped_at text_in form_rows
later_length_too_great = refl

-- the first unit does, by one byte
first_length_too_great : read table 4 (0x27 ∷ drop 1 two) ≡ fails_at 0 Truncated
unfolding le_bytes units_at units_from unit_at header_reason tree_at zero_count front_at attrs_at siblings_at forest_at table_at declaration_at pair_at items_at items_from uleb_at sleb_at groups_at
    shaped_at text_in form_rows
first_length_too_great = refl

abbrev cut_to : ℕ → Result ℕ Fault
cut_to n = read table 4 (take n two)

-- a section without bytes has no units
nothing_left : cut_to 0 ≡ Ok 0
unfolding le_bytes units_at units_from unit_at header_reason tree_at zero_count front_at attrs_at siblings_at forest_at table_at declaration_at pair_at items_at items_from uleb_at sleb_at groups_at
    shaped_at text_in form_rows
nothing_left = refl

-- cut behind the first unit
one_left : cut_to 21 ≡ Ok 1
unfolding le_bytes units_at units_from unit_at header_reason tree_at zero_count front_at attrs_at siblings_at forest_at table_at declaration_at pair_at items_at items_from uleb_at sleb_at groups_at
    shaped_at text_in form_rows
one_left = refl

abbrev from_one : List ℕ
from_one = 1 ∷ 2 ∷ 3 ∷ 4 ∷ 5 ∷ 6 ∷ 7 ∷ 8 ∷ 9 ∷ 10 ∷ 11 ∷ 12 ∷ 13 ∷ 14 ∷ 15 ∷ 16 ∷ 17 ∷ 18 ∷ 19 ∷ 20 ∷ []

abbrev behind_one : List ℕ
behind_one = 22 ∷ 23 ∷ 24 ∷ 25 ∷ 26 ∷ 27 ∷ 28 ∷ 29 ∷ 30 ∷ 31 ∷ 32 ∷ 33 ∷ 34 ∷ 35 ∷ 36 ∷ 37 ∷ 38 ∷ 39 ∷ 40 ∷ 41 ∷ []

-- cut anywhere in the first unit
cut_in_the_first : map cut_to from_one ≡ replicate 20 (fails_at 0 Truncated)
unfolding le_bytes units_at units_from unit_at header_reason tree_at zero_count front_at attrs_at siblings_at forest_at table_at declaration_at pair_at items_at items_from uleb_at sleb_at groups_at
    shaped_at text_in form_rows
cut_in_the_first = refl

-- cut anywhere in the second
cut_in_the_second : map cut_to behind_one ≡ replicate 20 (fails_at 0x15 Truncated)
unfolding le_bytes units_at units_from unit_at header_reason tree_at zero_count front_at attrs_at siblings_at forest_at table_at declaration_at pair_at items_at items_from uleb_at sleb_at groups_at
    shaped_at text_in form_rows
cut_in_the_second = refl

-- the same table with DW_FORM_indirect for the size
abbrev indirect_table : List ℕ
indirect_table = 0x01 ∷ 0x11 ∷ 0x01 ∷ 0x00 ∷ 0x00 ∷ 0x02 ∷ 0x24 ∷ 0x00 ∷ 0x03 ∷ 0x08 ∷ 0x0b ∷ 0x16 ∷ 0x3e ∷ 0x0b ∷ 0x00 ∷ 0x00 ∷ 0x00 ∷ []

-- a form that isn't read is a fault at its entry
indirect : read indirect_table 4 two ≡ fails_at 0xd (UnsupportedForm 0x16)
unfolding le_bytes units_at units_from unit_at header_reason tree_at zero_count front_at attrs_at siblings_at forest_at table_at declaration_at pair_at items_at items_from uleb_at sleb_at groups_at
    shaped_at text_in form_rows
indirect = refl

-- entries of one byte, each the only child of the one before
abbrev deep_table : List ℕ
deep_table = 0x01 ∷ 0x11 ∷ 0x01 ∷ 0x00 ∷ 0x00 ∷ 0x02 ∷ 0x0b ∷ 0x01 ∷ 0x00 ∷ 0x00 ∷ 0x00 ∷ []

abbrev deep : ℕ → List ℕ
deep n = le_bytes 4 (8 + 2 * n) ++ (5 ∷ 0 ∷ 1 ∷ 8 ∷ 0 ∷ 0 ∷ 0 ∷ 0 ∷ 1 ∷ replicate (n - 1) 2 ++ replicate n 0)

-- 256 of them are read
deepest : read deep_table 300 (deep 256) ≡ Ok 1
unfolding le_bytes units_at units_from unit_at header_reason tree_at zero_count front_at attrs_at siblings_at forest_at table_at declaration_at pair_at items_at items_from uleb_at sleb_at groups_at
    shaped_at text_in form_rows
deepest = refl

-- and the one below is too deep
too_deep : read deep_table 300 (deep 257) ≡ fails_at 0x10c TooDeep
unfolding le_bytes units_at units_from unit_at header_reason tree_at zero_count front_at attrs_at siblings_at forest_at table_at declaration_at pair_at items_at items_from uleb_at sleb_at groups_at
    shaped_at text_in form_rows
too_deep = refl

-- Three units, each with a structure, its member and a pointer that point at each other.
abbrev cycle_info : List ℕ
cycle_info = 0x20 ∷ 0x00 ∷ 0x00 ∷ 0x00 ∷ 0x05 ∷ 0x00 ∷ 0x01 ∷ 0x08 ∷ 0x00 ∷ 0x00 ∷ 0x00 ∷ 0x00 ∷ 0x01 ∷ 0x02 ∷ 0x6e ∷ 0x00 ∷ 0x08 ∷ 0x03 ∷ 0x6e ∷ 0x65 ∷ 0x78 ∷ 0x74 ∷ 0x00 ∷ 0x1d ∷ 0x00 ∷ 0x00 ∷ 0x00
    ∷ 0x00 ∷ 0x00 ∷ 0x04 ∷ 0x08 ∷ 0x0d ∷ 0x00 ∷ 0x00 ∷ 0x00 ∷ 0x00 ∷ 0x20 ∷ 0x00 ∷ 0x00 ∷ 0x00 ∷ 0x05 ∷ 0x00 ∷ 0x01 ∷ 0x08 ∷ 0x00 ∷ 0x00 ∷ 0x00 ∷ 0x00 ∷ 0x01 ∷ 0x02 ∷ 0x6e ∷ 0x00 ∷ 0x08 ∷ 0x03 ∷ 0x6e
    ∷ 0x65 ∷ 0x78 ∷ 0x74 ∷ 0x00 ∷ 0x1d ∷ 0x00 ∷ 0x00 ∷ 0x00 ∷ 0x00 ∷ 0x00 ∷ 0x04 ∷ 0x08 ∷ 0x0d ∷ 0x00 ∷ 0x00 ∷ 0x00 ∷ 0x00 ∷ 0x20 ∷ 0x00 ∷ 0x00 ∷ 0x00 ∷ 0x05 ∷ 0x00 ∷ 0x01 ∷ 0x08 ∷ 0x00 ∷ 0x00 ∷ 0x00
    ∷ 0x00 ∷ 0x01 ∷ 0x02 ∷ 0x6e ∷ 0x00 ∷ 0x08 ∷ 0x03 ∷ 0x6e ∷ 0x65 ∷ 0x78 ∷ 0x74 ∷ 0x00 ∷ 0x1d ∷ 0x00 ∷ 0x00 ∷ 0x00 ∷ 0x00 ∷ 0x00 ∷ 0x04 ∷ 0x08 ∷ 0x0d ∷ 0x00 ∷ 0x00 ∷ 0x00 ∷ 0x00 ∷ []

abbrev cycle_table : List ℕ
cycle_table = 0x01 ∷ 0x11 ∷ 0x01 ∷ 0x00 ∷ 0x00 ∷ 0x02 ∷ 0x13 ∷ 0x01 ∷ 0x03 ∷ 0x08 ∷ 0x0b ∷ 0x0b ∷ 0x00 ∷ 0x00 ∷ 0x03 ∷ 0x0d ∷ 0x00 ∷ 0x03 ∷ 0x08 ∷ 0x49 ∷ 0x13 ∷ 0x38 ∷ 0x0b ∷ 0x00 ∷ 0x00 ∷ 0x04 ∷ 0x0f
    ∷ 0x00 ∷ 0x0b ∷ 0x0b ∷ 0x49 ∷ 0x13 ∷ 0x00 ∷ 0x00 ∷ 0x00 ∷ []

-- they are read
cycles : read cycle_table 12 cycle_info ≡ Ok 3
unfolding le_bytes units_at units_from unit_at header_reason tree_at zero_count front_at attrs_at siblings_at forest_at table_at declaration_at pair_at items_at items_from uleb_at sleb_at groups_at
    shaped_at text_in form_rows
cycles = refl

-- the same, where the size of a pointer has DW_FORM_indirect, and the first member's type names the middle of an entry: what stands
-- is tested before what it means
abbrev cycle_indirect : List ℕ
cycle_indirect = 0x01 ∷ 0x11 ∷ 0x01 ∷ 0x00 ∷ 0x00 ∷ 0x02 ∷ 0x13 ∷ 0x01 ∷ 0x03 ∷ 0x08 ∷ 0x0b ∷ 0x0b ∷ 0x00 ∷ 0x00 ∷ 0x03 ∷ 0x0d ∷ 0x00 ∷ 0x03 ∷ 0x08 ∷ 0x49 ∷ 0x13 ∷ 0x38 ∷ 0x0b ∷ 0x00 ∷ 0x00 ∷ 0x04
    ∷ 0x0f ∷ 0x00 ∷ 0x0b ∷ 0x16 ∷ 0x49 ∷ 0x13 ∷ 0x00 ∷ 0x00 ∷ 0x00 ∷ []

abbrev cycle_other : List ℕ
cycle_other = take 0x17 cycle_info ++ 0x1e ∷ drop 0x18 cycle_info

form_before_reference : read cycle_indirect 12 cycle_other ≡ fails_at 0x1d (UnsupportedForm 0x16)
unfolding le_bytes units_at units_from unit_at header_reason tree_at zero_count front_at attrs_at siblings_at forest_at table_at declaration_at pair_at items_at items_from uleb_at sleb_at groups_at
    shaped_at text_in form_rows
form_before_reference = refl
