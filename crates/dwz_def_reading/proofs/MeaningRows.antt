-- What small units mean, by the definitions.
use Rattle.std.proofs.Common.{◌≡◌, ℕ, ℤ, pos, negsuc, ◌+◌, true, false, List, [], ◌∷◌, ◌++◌, Some, None, Result, Ok, Err, refl}
use Rattle.std.specs.Prelude.{codes}
use Rattle.dwz_model.specs.declared.fault.Fault.{Fault}
use Rattle.dwz_model.specs.declared.fault.Reason.TheVariants.{BadFile, BadList, BadReference, BadString}
use Rattle.dwz_bytes.specs.Input.{input}
use Rattle.dwz_bytes.specs.Reading.{◌>>=◌, groups_at, uleb_at}
use Rattle.dwz_codes.specs.Forms.{form_rows}
use Rattle.dwz_def_reading.specs.Abbrevs.{declaration_at, pair_at, table_at}
use Rattle.dwz_def_reading.specs.Documents.{Addr, Attr, Block, Compile, DwUnit, File, Flag, Index, Num, OfType, Sec, Sig, Text, Value, first_named, language, only, ref}
use Rattle.dwz_def_reading.specs.Entries.{RawAttr, attrs_at, front_at, given}
use Rattle.dwz_def_reading.specs.Faults.{info_fault}
use Rattle.dwz_def_reading.specs.Items.{items_at, items_from}
use Rattle.dwz_def_reading.specs.Meanings.{MeaningContext, Sources, all_places, alone, first_raw, has, places_in}
use Rattle.dwz_def_reading.specs.Classes.{class_in, class_rows}
use Rattle.dwz_def_reading.specs.Meant.{attrs_meaning, entries_meaning, kind_meaning, meaning, units_meaning}
use Rattle.dwz_def_reading.specs.Meanings.{without_siblings}
use Rattle.dwz_def_reading.specs.Texts.{text_in}
use Rattle.dwz_def_reading.specs.Trees.{End, Entry, forest_at, siblings_at}
use Rattle.dwz_def_reading.specs.Units.{TypeUnit, header_reason, tree_at, unit_at, units_at, units_from, zero_count}
use Rattle.dwz_def_reading.specs.Values.{Bytes, Number, Raw, shaped_at}

-- ---- three units with a cycle: a structure, whose member is a pointer to it

abbrev table : List ℕ
table =
    0x01 ∷ 0x11 ∷ 0x01 ∷ 0x00 ∷ 0x00
    ∷ 0x02 ∷ 0x13 ∷ 0x01 ∷ 0x03 ∷ 0x08 ∷ 0x0b ∷ 0x0b ∷ 0x00 ∷ 0x00
    ∷ 0x03 ∷ 0x0d ∷ 0x00 ∷ 0x03 ∷ 0x08 ∷ 0x49 ∷ 0x13 ∷ 0x38 ∷ 0x0b ∷ 0x00 ∷ 0x00
    ∷ 0x04 ∷ 0x0f ∷ 0x00 ∷ 0x0b ∷ 0x0b ∷ 0x49 ∷ 0x13 ∷ 0x00 ∷ 0x00
    ∷ 0x00 ∷ []

-- a unit whose member has the type at this offset of the unit
abbrev a_unit : ℕ → List ℕ
a_unit type =
    0x20 ∷ 0 ∷ 0 ∷ 0 ∷ 5 ∷ 0 ∷ 1 ∷ 8 ∷ 0 ∷ 0 ∷ 0 ∷ 0
    ∷ 1
    ∷ 2 ∷ 0x6e ∷ 0 ∷ 8
    ∷ 3 ∷ 0x6e ∷ 0x65 ∷ 0x78 ∷ 0x74 ∷ 0 ∷ type ∷ 0 ∷ 0 ∷ 0 ∷ 0
    ∷ 0
    ∷ 4 ∷ 8 ∷ 0x0d ∷ 0 ∷ 0 ∷ 0
    ∷ 0 ∷ []

abbrev nothing_else : Sources
nothing_else = record { strs = []; line_strs = []; offsets = []; line = []; lists = [] }

abbrev attr : ℕ → ℕ → ℤ → Value ℕ → Attr ℕ
attr name form raw value = record { name = name; form = form; raw = raw; value = value }

abbrev num : ℕ → Value ℕ
num n = only (Num 0 (pos n))

-- the unit that it means, at this place
abbrev unit_said : ℕ → DwUnit ℕ
unit_said at = record {
  at = at;
  kind = Compile;
  root = record { at = at + 0x0c; tag = 0x11; attrs = [] };
  below = Entry (record { at = at + 0x0d; tag = 0x13; attrs = attr 0x03 0x08 (pos 0) (only (Text (0x6e ∷ []))) ∷ attr 0x0b 0x0b (pos 8) (num 8) ∷ [] })
      (Entry (record {
        at = at + 0x11;
        tag = 0x0d;
        attrs = attr 0x03 0x08 (pos 0) (only (Text (codes "next"))) ∷ attr 0x49 0x13 (pos 0x1d) (ref (at + 0x1d)) ∷ attr 0x38 0x0b (pos 0) (num 0) ∷ [];
      }) End End)
      (Entry (record { at = at + 0x1d; tag = 0x0f; attrs = attr 0x0b 0x0b (pos 8) (num 8) ∷ attr 0x49 0x13 (pos 0x0d) (ref (at + 0x0d)) ∷ [] }) End End);
}

-- what bytes of `.debug_info` say; whatever unfolds this unfolds all that is read with
said_by : List ℕ → Result (List (DwUnit ℕ)) Fault
unfolding units_at units_from unit_at header_reason tree_at zero_count front_at attrs_at siblings_at forest_at table_at declaration_at pair_at items_at items_from uleb_at groups_at shaped_at text_in
    form_rows units_meaning entries_meaning attrs_meaning meaning class_in class_rows without_siblings all_places places_in has first_raw
said_by bytes = units_at table (given 12) 0 (input bytes 0) >>= λ units. units_meaning (alone nothing_else units) units

cycle : said_by (a_unit 0x1d ++ (a_unit 0x1d ++ a_unit 0x1d)) ≡ Ok (unit_said 0 ∷ unit_said 0x24 ∷ unit_said 0x48 ∷ [])
unfolding said_by
cycle = refl

-- the byte behind the beginning of the pointer begins no entry
middle : said_by (a_unit 0x1e ++ (a_unit 0x1d ++ a_unit 0x1d)) ≡ Err (info_fault 0x17 BadReference)
unfolding said_by
middle = refl

-- an entry of the next unit is none of this one
next_unit : said_by (a_unit 0x31 ++ (a_unit 0x1d ++ a_unit 0x1d)) ≡ Err (info_fault 0x17 BadReference)
unfolding said_by
next_unit = refl

-- the first fault is the earlier one
later_fault : said_by (a_unit 0x1d ++ (a_unit 0x1e ++ a_unit 0x1e)) ≡ Err (info_fault 0x3b BadReference)
unfolding said_by
later_fault = refl

-- ---- values by themselves

-- an attribute at 0x40 of `.debug_info`
abbrev stored : ℕ → ℕ → Raw → RawAttr
stored name form raw = record { at = 0x40; end = 0x50; pair = record { name = name; form = form; constant = pos 0 }; raw = raw }

abbrev number : ℕ → Raw
number n = Number (pos n)

-- "long int", and "int" once more; in `.debug_str_offsets` a header of 8 bytes and the slots 5 and 9; in `.debug_line_str` "a.c"
abbrev sources : Sources
sources = record {
  strs = codes "long int" ++ 0 ∷ codes "int" ++ 0 ∷ [];
  line_strs = codes "a.c" ++ 0 ∷ [];
  offsets = 0x0c ∷ 0 ∷ 0 ∷ 0 ∷ 5 ∷ 0 ∷ 0 ∷ 0 ∷ 5 ∷ 0 ∷ 0 ∷ 0 ∷ 9 ∷ 0 ∷ 0 ∷ 0 ∷ [];
  line = [];
  lists = [];
}

-- a unit at 0x24 that has entries at 0x30 and 0x31, in a file with entries at 0x0c and 0x0d before them
abbrev scope : List RawAttr → MeaningContext ℕ
scope attrs = record {
  around = record { sources = sources; all = 0x0c ∷ 0x0d ∷ 0x30 ∷ 0x31 ∷ []; place = λ n. n; common = None };
  unit = 0x24;
  root = record { at = 0x30; tag = 0x11; children = true; attrs = attrs };
  own = 0x30 ∷ 0x31 ∷ [];
}

-- what a stored value means in a unit whose root has these attributes
means : List RawAttr → ℕ → ℕ → Raw → Result (Value ℕ) Fault
unfolding meaning class_in class_rows first_raw has text_in
means root name form raw = meaning (scope root) (stored name form raw)

abbrev bad_string : Result (Value ℕ) Fault
bad_string = Err (info_fault 0x40 BadString)

abbrev bad_reference : Result (Value ℕ) Fault
bad_reference = Err (info_fault 0x40 BadReference)

abbrev text : List ℕ → Result (Value ℕ) Fault
text bytes = Ok (only (Text bytes))

abbrev base : List RawAttr
base = stored 0x72 0x17 (number 8) ∷ []

-- strp: the whole text, the middle of it, the other, and behind the end of the section
strp_whole : means [] 0x03 0x0e (number 0) ≡ text (codes "long int")
unfolding means
strp_whole = refl

strp_middle : means [] 0x03 0x0e (number 5) ≡ text (codes "int")
unfolding means
strp_middle = refl

strp_empty : means [] 0x03 0x0e (number 8) ≡ text []
unfolding means
strp_empty = refl

strp_past_end : means [] 0x03 0x0e (number 13) ≡ bad_string
unfolding means
strp_past_end = refl

line_strp : means [] 0x03 0x1f (number 0) ≡ text (codes "a.c")
unfolding means
line_strp = refl

-- strx1: by a slot, by one that isn't whole, and in a unit without a base, or with one of another form, or with another first
strx1_slot : means base 0x03 0x25 (number 0) ≡ text (codes "int")
unfolding means
strx1_slot = refl

strx1_next_slot : means base 0x03 0x25 (number 1) ≡ text (codes "int")
unfolding means
strx1_next_slot = refl

strx1_no_slot : means base 0x03 0x25 (number 2) ≡ bad_string
unfolding means
strx1_no_slot = refl

strx1_no_base : means [] 0x03 0x25 (number 0) ≡ bad_string
unfolding means
strx1_no_base = refl

strx1_other_base : means (stored 0x72 0x06 (number 8) ∷ base) 0x03 0x25 (number 0) ≡ bad_string
unfolding means
strx1_other_base = refl

-- the slot at 2 holds 0x50000
strx1_no_text : means (stored 0x72 0x17 (number 2) ∷ []) 0x03 0x25 (number 0) ≡ bad_string
unfolding means
strx1_no_text = refl

-- ref4 is counted from the unit, ref_addr from the section's first byte; both name the first byte of an entry
ref4 : means [] 0x49 0x13 (number 0x0d) ≡ Ok (ref 0x31)
unfolding means
ref4 = refl

ref4_middle : means [] 0x49 0x13 (number 0x0e) ≡ bad_reference
unfolding means
ref4_middle = refl

ref_addr : means [] 0x49 0x10 (number 0x0d) ≡ Ok (ref 0x0d)
unfolding means
ref_addr = refl

ref_addr_own : means [] 0x49 0x10 (number 0x31) ≡ Ok (ref 0x31)
unfolding means
ref_addr_own = refl

ref_addr_middle : means [] 0x49 0x10 (number 0x0e) ≡ bad_reference
unfolding means
ref_addr_middle = refl

ref_sig8 : means [] 0x49 0x20 (number 77) ≡ Ok (only (Sig 77))
unfolding means
ref_sig8 = refl

-- a number whose top bit is set keeps its width, unless its attribute has no sign, or the form says whether it has one
data1_high : means [] 0x1c 0x0b (number 0x80) ≡ Ok (only (Num 1 (pos 0x80)))
unfolding means
data1_high = refl

data1_low : means [] 0x1c 0x0b (number 0x7f) ≡ Ok (only (Num 0 (pos 0x7f)))
unfolding means
data1_low = refl

data1_unsigned : means [] 0x3b 0x0b (number 200) ≡ Ok (only (Num 0 (pos 200)))
unfolding means
data1_unsigned = refl

data2_high : means [] 0x1c 0x05 (number 0x8000) ≡ Ok (only (Num 2 (pos 0x8000)))
unfolding means
data2_high = refl

data2_low : means [] 0x1c 0x05 (number 0x7fff) ≡ Ok (only (Num 0 (pos 0x7fff)))
unfolding means
data2_low = refl

data4_high : means [] 0x1c 0x06 (number 0x80000000) ≡ Ok (only (Num 4 (pos 0x80000000)))
unfolding means
data4_high = refl

data8_high : means [] 0x1c 0x07 (number 0x8000000000000000) ≡ Ok (only (Num 8 (pos 0x8000000000000000)))
unfolding means
data8_high = refl

udata_high : means [] 0x1c 0x0f (number 0x80) ≡ Ok (only (Num 0 (pos 0x80)))
unfolding means
udata_high = refl

sdata_negative : means [] 0x1c 0x0d (Number (negsuc 199)) ≡ Ok (only (Num 0 (negsuc 199)))
unfolding means
sdata_negative = refl

-- flags, bytes, offsets and indexes
flag_not_0 : means [] 0x3f 0x0c (number 2) ≡ Ok (only (Flag true))
unfolding means
flag_not_0 = refl

flag_0 : means [] 0x3f 0x0c (number 0) ≡ Ok (only (Flag false))
unfolding means
flag_0 = refl

flag_present : means [] 0x3f 0x19 (number 0) ≡ Ok (only (Flag true))
unfolding means
flag_present = refl

data16 : means [] 0x1c 0x1e (Bytes (codes "0123456789abcdef")) ≡ Ok (only (Block (codes "0123456789abcdef")))
unfolding means
data16 = refl

sec_offset : means [] 0x55 0x17 (number 12) ≡ Ok (only (Sec 12))
unfolding means
sec_offset = refl

rnglistx : means [] 0x55 0x23 (number 3) ≡ Ok (only (Index 3))
unfolding means
rnglistx = refl

addr : means [] 0x11 0x01 (number 0x401000) ≡ Ok (only (Addr 0x401000))
unfolding means
addr = refl

-- in a unit without a line table 0 is no file, and no other number is one
no_file : means [] 0x3a 0x0b (number 0) ≡ Ok (only (File None))
unfolding means
no_file = refl

decl_file : means [] 0x3a 0x0b (number 1) ≡ Err (info_fault 0x40 BadFile)
unfolding means
decl_file = refl

-- a location list outside of the section, and one by a slot in a unit without a base
location_list : means [] 0x02 0x17 (number 12) ≡ Err (info_fault 0x40 BadList)
unfolding means
location_list = refl

loclistx : means [] 0x02 0x22 (number 0) ≡ Err (info_fault 0x40 BadList)
unfolding means
loclistx = refl

-- ---- attributes, roots and kinds

attrs_mean : List RawAttr → Result (List (Attr ℕ)) Fault
unfolding attrs_meaning without_siblings means
attrs_mean attrs = attrs_meaning (scope []) (without_siblings attrs)

-- a sibling is left out, wherever it points
sibling : attrs_mean (stored 0x01 0x13 (number 0x0e) ∷ stored 0x0b 0x0b (number 200) ∷ []) ≡ Ok (attr 0x0b 0x0b (pos 200) (num 200) ∷ [])
unfolding attrs_mean
sibling = refl

-- the first of two faults
first_of_two : attrs_mean (stored 0x03 0x0e (number 13) ∷ stored 0x02 0x17 (number 1) ∷ []) ≡ Err (info_fault 0x40 BadString)
unfolding attrs_mean
first_of_two = refl

root_said : List (Attr ℕ) → DwUnit ℕ
root_said attrs = record { at = 0; kind = Compile; root = record { at = 0x0c; tag = 0x11; attrs = attrs }; below = End }

-- the language is the number of the first attribute of that name, and none where that is no number
language_c11 : language (root_said (attr 0x03 0x08 (pos 0) (only (Text [])) ∷ attr 0x13 0x0b (pos 0x1d) (num 0x1d) ∷ [])) ≡ Some (pos 0x1d)
unfolding root_said first_named
language_c11 = refl

language_first : language (root_said (attr 0x13 0x05 (pos 0x1d) (num 0x1d) ∷ attr 0x13 0x05 (pos 0x21) (num 0x21) ∷ [])) ≡ Some (pos 0x1d)
unfolding root_said first_named
language_first = refl

language_no_number : language (root_said (attr 0x13 0x08 (pos 0) (only (Text (codes "C"))) ∷ attr 0x13 0x05 (pos 0x1d) (num 0x1d) ∷ [])) ≡ None
unfolding root_said first_named
language_no_number = refl

language_none : language (root_said []) ≡ None
unfolding root_said first_named
language_none = refl

-- a type unit's type is an entry of it
type_unit : kind_meaning (scope []) (TypeUnit 77 0x0d) ≡ Ok (OfType 77 0x31)
unfolding means
type_unit = refl

type_unit_middle : kind_meaning (scope []) (TypeUnit 77 0x0e) ≡ Err (info_fault 0x38 BadReference)
unfolding means
type_unit_middle = refl
