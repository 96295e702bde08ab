-- Small documents, each of one file.
use Rattle.std.proofs.Common.{ℕ, zero, suc, ◌+◌, pos, false, true, List, [], ◌∷◌, Some}
use Rattle.std.specs.Prelude.{codes, replicate}
use Rattle.dwz_def_reading.specs.Base.TheVariants.{Unit as FromUnit}
use Rattle.dwz_def_reading.specs.Documents.{Attr, Doc, DwUnit, Entries, File, Loc, Node, OfType, Operand, Same, Sec, Text, only, ref}
use Rattle.dwz_def_reading.specs.Trees.{End, Entry}
use Rattle.dwz_def_tops.proofs.SmallDocs.{base_type, computed, entry, in_language, int_type, listed, long_type, named, short_type, sized, space, then, typed, unit, unspecified, data1}

-- units of a file for a machine of x86-64
abbrev pub file : List (DwUnit ℕ) → Doc ℕ
file units = record { machine = 62; units = units }

-- DW_AT_type, ref4: a number counted from its unit, which is at a place
abbrev typed_in : ℕ → ℕ → Attr ℕ
typed_in unit number = record { name = 0x49; form = 0x13; raw = pos number; value = ref (unit + number) }

-- `int`, in two units
abbrev pub ints : Doc ℕ
ints = file (unit 0 [] (then (int_type 0x0d) End) ∷ unit 0x15 [] (then (int_type 0x22) End) ∷ [])

-- a structure `n` with a member `next`, and a pointer that is the member's type
abbrev cycle : ℕ → DwUnit ℕ
cycle place = unit place []
    (Entry (entry (place + 0x0d) 0x13 (named (codes "n") ∷ sized 8 ∷ [])) (then (entry (place + 0x11) 0x0d (named (codes "next") ∷ typed_in place 0x1d ∷ data1 0x38 0 ∷ [])) End)
    (then (entry (place + 0x1d) 0x0f (sized 8 ∷ typed_in place 0x0d ∷ [])) End))

abbrev pub cycle_doc : Doc ℕ
cycle_doc = file (cycle 0 ∷ cycle 0x24 ∷ cycle 0x48 ∷ [])

-- two types in two units, and the first in a third
abbrev pub users_doc : Doc ℕ
users_doc = file (
    unit 0 [] (then (long_type 0x0d) (then (short_type 0x27) End))
    ∷ unit 0x47 [] (then (long_type 0x54) (then (short_type 0x6e) End))
    ∷ unit 0x8e [] (then (long_type 0x9b) End)
    ∷ []
    )

-- a type, and two constant types of it; and the same with one
abbrev pub repeats_doc : Doc ℕ
repeats_doc = file (
    unit 0 [] (then (long_type 0x0d) (then (entry 0x27 0x26 (typed 0x0d ∷ [])) (then (entry 0x2c 0x26 (typed 0x0d ∷ [])) End)))
    ∷ unit 0x32 [] (then (long_type 0x3f) (then (entry 0x59 0x26 (typed_in 0x32 0x0d ∷ [])) End))
    ∷ []
    )

-- a type, `int`, and a variable `x` whose location list names `int`; and the type again
abbrev pub pinned_doc : Doc ℕ
pinned_doc = file (
    unit 0 [] (then (unspecified 0x0d) (then (int_type 0x2a) (then (entry 0x31 0x34 (named (codes "x") ∷ listed 0x2a ∷ [])) End)))
    ∷ unit 0x39 [] (then (unspecified 0x46) End)
    ∷ []
    )

-- a type in two units of one language, C11
abbrev pub language_doc : Doc ℕ
language_doc = file (unit 0 (in_language 0x1d ∷ []) (then (unspecified 0x0e) End) ∷ unit 0x2c (in_language 0x1d ∷ []) (then (unspecified 0x3a) End) ∷ [])

-- `int` and a typedef of it, twice, and `int` alone
abbrev pub carried_doc : Doc ℕ
carried_doc = file (
    unit 0 [] (then (int_type 0x0d) (then (entry 0x14 0x16 (named (codes "extended short unsigned int") ∷ typed 0x0d ∷ [])) End))
    ∷ unit 0x36 [] (then (int_type 0x43) (then (entry 0x4a 0x16 (named (codes "extended short unsigned int") ∷ typed_in 0x36 0x0d ∷ [])) End))
    ∷ unit 0x6c [] (then (int_type 0x79) End)
    ∷ []
    )

-- a namespace `ns` with a type and `int`, and one with the type alone
abbrev pub space_doc : Doc ℕ
space_doc = file (
    unit 0 [] (Entry (space 0x0d (codes "ns")) (then (unspecified 0x11) (then (int_type 0x2e) End)) End)
    ∷ unit 0x37 [] (Entry (space 0x44 (codes "ns")) (then (unspecified 0x48) End) End)
    ∷ []
    )

-- a type; a type unit with a structure `s`; and the type again
abbrev type_unit : DwUnit ℕ
type_unit = record {
  at = 0x2b;
  kind = OfType 0x0102030405060708 0x44;
  root = entry 0x43 0x41 [];
  below = then (entry 0x44 0x13 (named (codes "s") ∷ sized 4 ∷ [])) End;
}

abbrev pub type_unit_doc : Doc ℕ
type_unit_doc = file (unit 0 [] (then (unspecified 0x0d) End) ∷ type_unit ∷ unit 0x49 [] (then (unspecified 0x56) End) ∷ [])

-- a type whose name has so many letters, `int`, another type, and a variable `x` whose location list names the first two; the root names
-- `int` too, in one byte (DW_AT_base_types, DW_FORM_ref1); and the other type again
abbrev listing : ℕ → ℕ → Attr ℕ
listing first second = record {
  name = 0x02;
  form = 0x17;
  raw = pos 0x0c;
  value = record {
    plain = Loc ((Same (0x70 ∷ 0 ∷ 0xa8 ∷ []) ∷ Operand 1 true FromUnit ∷ Same (0xa8 ∷ []) ∷ Operand 1 true FromUnit ∷ Same (0x9f ∷ []) ∷ []) ∷ []);
    refs = first ∷ second ∷ [];
    address = false;
  };
}

abbrev pub far_doc : ℕ → Doc ℕ
far_doc letters = file (
    unit 0 (record { name = 0x35; form = 0x11; raw = pos (letters + 0x12); value = ref (letters + 0x12) } ∷ []) (
    then (base_type 0x0e (replicate letters 0x62) 4 5) (then (int_type (letters + 0x12)) (then (unspecified (letters + 0x19))
    (then (entry (letters + 0x36) 0x34 (named (codes "x") ∷ listing 0x0e (letters + 0x12) ∷ [])) End))))
    ∷ unit (letters + 0x3e) [] (then (unspecified (letters + 0x4b)) End)
    ∷ []
    )

-- ---- documents of files that are read together

-- a type with DW_AT_decl_file of form data1, that number, which stands for a path; the root of its unit has a line table at 0
abbrev declared : ℕ → Node ℕ
declared number = entry 0x11 0x3b (named (codes "extended short unsigned int")
    ∷ record { name = 0x3a; form = 0x0b; raw = pos number; value = only (File (Some (codes "/usr/include/stdint.h"))) } ∷ [])

abbrev pub declared_doc : ℕ → Doc ℕ
declared_doc number = file (unit 0 (record { name = 0x10; form = 0x17; raw = pos 0; value = only (Sec 0) } ∷ []) (then (declared number) End) ∷ [])

-- a type, and a variable `v` of that type at an address
abbrev pub addressed_doc : Doc ℕ
addressed_doc = file (unit 0 [] (then (short_type 0x0d) (then (entry 0x2c 0x34
    (named (codes "v") ∷ typed 0x0d ∷ computed true (0x03 ∷ 0 ∷ 0x40 ∷ 0x40 ∷ 0 ∷ 0 ∷ 0 ∷ 0 ∷ 0 ∷ []) ∷ [])) End)) ∷ [])

abbrev pub short_doc : Doc ℕ
short_doc = file (unit 0 [] (then (short_type 0x0d) End) ∷ [])

abbrev pub unspecified_doc : Doc ℕ
unspecified_doc = file (unit 0 [] (then (unspecified 0x0d) End) ∷ [])

-- a base type whose name is the text `int` of `.debug_str`, by a form and a number: its offset (strp), or a slot (strx1)
abbrev by_text : ℕ → ℕ → ℕ → ℕ → ℕ → Node ℕ
by_text place form number size encoding = entry place 0x24
    (record { name = 0x03; form = form; raw = pos number; value = only (Text (codes "int")) } ∷ sized size ∷ data1 0x3e encoding ∷ [])

-- with a type before it; and a further base type of that name
abbrev pub texts_doc : Doc ℕ
texts_doc = file (unit 0 [] (then (unspecified 0x0d) (then (by_text 0x2a 0x0e 5 4 5) End)) ∷ [])

abbrev pub more_texts_doc : Doc ℕ
more_texts_doc = file (unit 0 [] (then (unspecified 0x0d) (then (by_text 0x2a 0x0e 5 4 5) (then (by_text 0x31 0x0e 5 8 5) End))) ∷ [])

-- the first two in a unit whose slots begin at 8 (DW_AT_str_offsets_base), and the name by slot 0
abbrev slots_unit : ℕ → DwUnit ℕ
slots_unit place = unit place (record { name = 0x72; form = 0x17; raw = pos 8; value = only (Sec 8) } ∷ [])
    (then (unspecified (place + 0x11)) (then (by_text (place + 0x2e) 0x25 0 4 5) End))

abbrev pub slots_doc : Doc ℕ
slots_doc = file (slots_unit 0 ∷ [])

-- a unit of each kind in one file
abbrev pub both_doc : Doc ℕ
both_doc = file (unit 0 [] (then (unspecified 0x0d) (then (by_text 0x2a 0x0e 5 4 5) End)) ∷ slots_unit 0x32 ∷ [])

-- a type in two units
abbrev pub shorts_doc : Doc ℕ
shorts_doc = file (unit 0 [] (then (short_type 0x0d) End) ∷ unit 0x2d [] (then (short_type 0x3a) End) ∷ [])

-- no unit
abbrev pub empty_doc : Doc ℕ
empty_doc = file []

-- a type in two units whose roots have line tables, which give one path for two numbers
abbrev declared_unit : ℕ → ℕ → ℕ → DwUnit ℕ
declared_unit place line number = unit place (record { name = 0x10; form = 0x17; raw = pos line; value = only (Sec line) } ∷ [])
    (then (entry (place + 0x11) 0x3b (named (codes "extended short unsigned int")
    ∷ record { name = 0x3a; form = 0x0b; raw = pos number; value = only (File (Some (codes "/usr/include/stdint.h"))) } ∷ [])) End)

abbrev pub lines_doc : Doc ℕ
lines_doc = file (declared_unit 0 0 3 ∷ declared_unit 0x30 0x49 5 ∷ [])

-- a class with that name and a member `v`, and a variable that names the member (DW_AT_specification), twice
abbrev class_unit : ℕ → List ℕ → DwUnit ℕ
class_unit place text = unit place []
    (Entry (entry (place + 0x0d) 0x02 (named text ∷ [])) (then (entry (place + 0x10) 0x0d (named (codes "v") ∷ [])) End)
    (then (entry (place + 0x14) 0x34 (record { name = 0x47; form = 0x13; raw = pos 0x10; value = ref (place + 0x10) } ∷ [])) End))

abbrev pub classes_doc : List ℕ → List ℕ → Doc ℕ
classes_doc text other = file (class_unit 0 text ∷ class_unit 0x1a other ∷ [])

-- a type in two units of some languages
abbrev pub languages_doc : ℕ → ℕ → Doc ℕ
languages_doc m n = file (unit 0 (in_language m ∷ []) (then (unspecified 0x0e) End) ∷ unit 0x2c (in_language n ∷ []) (then (unspecified 0x3a) End) ∷ [])

-- a namespace with a type and `int`, and one with the type, with names of one letter
abbrev pub spaces_doc : List ℕ → List ℕ → Doc ℕ
spaces_doc text other = file (
    unit 0 [] (Entry (space 0x0d text) (then (unspecified 0x10) (then (int_type 0x2d) End)) End)
    ∷ unit 0x36 [] (Entry (space 0x43 other) (then (unspecified 0x46) End) End)
    ∷ []
    )

-- so many typedefs `t`, each of the next, the first at that place; and `int` of some size behind them
abbrev typedefs : ℕ → ℕ → ℕ → ℕ → Entries ℕ
typedefs place number size zero = then (base_type (place + number) (codes "int") size 5) End
typedefs place number size (suc n) =
    then (entry (place + number) 0x16 (named (codes "t") ∷ typed_in place (number + 7) ∷ [])) (typedefs place (number + 7) size n)

-- 40 of them in two units
abbrev pub deep_doc : ℕ → ℕ → Doc ℕ
deep_doc size other = file (unit 0 [] (typedefs 0 0x0d size 40) ∷ unit 0x12d [] (typedefs 0x12d 0x0d other 40) ∷ [])
