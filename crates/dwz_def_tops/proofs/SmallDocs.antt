-- Small documents, spelled by hand: entries at places of one or more files, from which rows compute what is said of them.
use Rattle.std.proofs.Common.{ℕ, ◌+◌, pos, Bool, true, false, List, [], ◌∷◌, map}
use Rattle.std.specs.Prelude.{codes}
use Rattle.dwz_def_reading.specs.Base.TheVariants.{Unit as FromUnit}
use Rattle.dwz_def_reading.specs.Documents.{Addr, Attr, Compile, Doc, DwUnit, Entries, Expr, Loc, Node, Num, Operand, Same, Text, only, ref}
use Rattle.dwz_def_reading.specs.Trees.{End, Entry}
use Rattle.dwz_def_tops.specs.Spots.{EntryName, FileUnit, units_of}

-- ---- attributes

-- DW_AT_name, string
abbrev pub named : List ℕ → Attr ℕ
named text = record { name = 0x03; form = 0x08; raw = pos 0; value = only (Text text) }

-- of form data1
abbrev pub data1 : ℕ → ℕ → Attr ℕ
data1 name n = record { name = name; form = 0x0b; raw = pos n; value = only (Num 0 (pos n)) }

-- DW_AT_byte_size and DW_AT_language
abbrev pub sized : ℕ → Attr ℕ
sized n = data1 0x0b n

abbrev pub in_language : ℕ → Attr ℕ
in_language n = data1 0x13 n

-- of form ref4; DW_AT_type
abbrev pub referring : ℕ → ℕ → Attr ℕ
referring name place = record { name = name; form = 0x13; raw = pos place; value = ref place }

abbrev pub typed : ℕ → Attr ℕ
typed place = referring 0x49 place

-- DW_AT_low_pc, addr
abbrev pub located : ℕ → Attr ℕ
located address = record { name = 0x11; form = 0x01; raw = pos address; value = only (Addr address) }

-- DW_AT_location, an expression that names no entry, and has an address or none
abbrev pub computed : (address : Bool) → List ℕ → Attr ℕ
computed address bytes =
    record { name = 0x02; form = 0x18; raw = pos 0; value = record { plain = Expr (Same bytes ∷ []); refs = []; address = address } }

-- the same, of a list with one expression: breg0 0, converted to the type at a place, stack_value
abbrev pub listed : ℕ → Attr ℕ
listed place = record {
  name = 0x02;
  form = 0x17;
  raw = pos 0x0c;
  value = record {
    plain = Loc ((Same (0x70 ∷ 0 ∷ 0xa8 ∷ []) ∷ Operand 1 true FromUnit ∷ Same (0x9f ∷ []) ∷ []) ∷ []);
    refs = place ∷ [];
    address = false;
  };
}

-- ---- entries and units

abbrev pub entry : ℕ → ℕ → List (Attr ℕ) → Node ℕ
entry place tag attrs = record { at = place; tag = tag; attrs = attrs }

-- DW_TAG_base_type with DW_AT_byte_size and DW_AT_encoding
abbrev pub base_type : ℕ → List ℕ → ℕ → ℕ → Node ℕ
base_type place text size encoding = entry place 0x24 (named text ∷ sized size ∷ data1 0x3e encoding ∷ [])

abbrev pub int_type : ℕ → Node ℕ
int_type place = base_type place (codes "int") 4 5

-- base types of 26 and of 31 bytes
abbrev pub long_type : ℕ → Node ℕ
long_type place = base_type place (codes "long long unsigned int") 8 7

abbrev pub short_type : ℕ → Node ℕ
short_type place = base_type place (codes "extended short unsigned int") 2 7

-- DW_TAG_unspecified_type, of 29 bytes
abbrev pub unspecified : ℕ → Node ℕ
unspecified place = entry place 0x3b (named (codes "extended short unsigned int") ∷ [])

-- DW_TAG_namespace
abbrev pub space : ℕ → List ℕ → Node ℕ
space place text = entry place 0x39 (named text ∷ [])

-- without children, and what is behind it
abbrev pub then : Node ℕ → Entries ℕ → Entries ℕ
then e next = Entry e End next

-- a compile unit at a place, its root behind the header
abbrev pub unit : ℕ → List (Attr ℕ) → Entries ℕ → DwUnit ℕ
unit place attrs below = record { at = place; kind = Compile; root = entry (place + 0x0c) 0x11 attrs; below = below }

-- the units of files, and of one file
abbrev pub files_of : List (List (DwUnit ℕ)) → List (FileUnit EntryName)
files_of files = units_of (map {B = Doc ℕ} (λ units. record { machine = 62; units = units }) files)

abbrev pub one : List (DwUnit ℕ) → List (FileUnit EntryName)
one units = files_of (units ∷ [])

-- two units, each a file of its own
abbrev pub apart : DwUnit ℕ → DwUnit ℕ → List (FileUnit EntryName)
apart u v = files_of ((u ∷ []) ∷ (v ∷ []) ∷ [])

-- ---- files

-- `int` in two units, whose tops are 0 and 1
abbrev pub ints : List (FileUnit EntryName)
ints = one (unit 0 [] (then (int_type 0x0d) End) ∷ unit 0x15 [] (then (int_type 0x22) End) ∷ [])

-- a structure with a pointer to itself, in three units: 0, 2, 4 are the structures, 1, 3, 5 the pointers
abbrev cycle : ℕ → DwUnit ℕ
cycle place = unit place []
    (Entry (entry (place + 0x0d) 0x13 (named (codes "n") ∷ sized 8 ∷ [])) (then (entry (place + 0x11) 0x0d (named (codes "next") ∷ typed (place + 0x1d) ∷ data1 0x38 0 ∷ [])) End)
    (then (entry (place + 0x1d) 0x0f (sized 8 ∷ typed (place + 0x0d) ∷ [])) End))

abbrev pub cycles : List (FileUnit EntryName)
cycles = one (cycle 0 ∷ cycle 0x24 ∷ cycle 0x48 ∷ [])

-- two types in two units, and one of them in a third: 0 and 1, 2 and 3, 4
abbrev pub two_lists_of_users : List (FileUnit EntryName)
two_lists_of_users = one (
    unit 0 [] (then (long_type 0x0d) (then (short_type 0x27) End))
    ∷ unit 0x47 [] (then (long_type 0x54) (then (short_type 0x6e) End))
    ∷ unit 0x8e [] (then (long_type 0x9b) End)
    ∷ []
    )

-- a class with a member, and a variable that names the member (DW_AT_specification), in two units: 0 and 1, 2 and 3
abbrev class_unit : ℕ → List ℕ → DwUnit ℕ
class_unit place text = unit place []
    (Entry (entry (place + 0x0d) 0x02 (named text ∷ [])) (then (entry (place + 0x10) 0x0d (named (codes "v") ∷ [])) End)
    (then (entry (place + 0x14) 0x34 (referring 0x47 (place + 0x10) ∷ [])) End))

abbrev pub classes : List ℕ → List ℕ → List (FileUnit EntryName)
classes text other = one (class_unit 0 text ∷ class_unit 0x1a other ∷ [])

-- a type, and two constant types of it, and the same with one of them: 0, 1 and 2, 3 and 4
abbrev pub twice_in_a_unit : List (FileUnit EntryName)
twice_in_a_unit = one (
    unit 0 [] (then (long_type 0x0d) (then (entry 0x27 0x26 (typed 0x0d ∷ [])) (then (entry 0x2c 0x26 (typed 0x0d ∷ [])) End)))
    ∷ unit 0x32 [] (then (long_type 0x3f) (then (entry 0x59 0x26 (typed 0x3f ∷ [])) End))
    ∷ []
    )

-- a type in two units of some languages: 0 and 1
abbrev pub languages : ℕ → ℕ → List (FileUnit EntryName)
languages m n = one (unit 0 (in_language m ∷ []) (then (unspecified 0x0e) End) ∷ unit 0x2c (in_language n ∷ []) (then (unspecified 0x3a) End) ∷ [])

-- a type, `int`, and a variable whose location list names `int`; the first type again: 0 to 2, 3
abbrev pub pinned : List (FileUnit EntryName)
pinned = one (
    unit 0 [] (then (unspecified 0x0d) (then (int_type 0x2a) (then (entry 0x31 0x34 (named (codes "x") ∷ listed 0x2a ∷ [])) End)))
    ∷ unit 0x39 [] (then (unspecified 0x46) End)
    ∷ []
    )

-- `int` and a typedef of it, twice, and `int` alone: 0 and 1, 2 and 3, 4
abbrev pub carried : List (FileUnit EntryName)
carried = one (
    unit 0 [] (then (int_type 0x0d) (then (entry 0x14 0x16 (named (codes "extended short unsigned int") ∷ typed 0x0d ∷ [])) End))
    ∷ unit 0x36 [] (then (int_type 0x43) (then (entry 0x4a 0x16 (named (codes "extended short unsigned int") ∷ typed 0x43 ∷ [])) End))
    ∷ unit 0x6c [] (then (int_type 0x79) End)
    ∷ []
    )

-- a namespace with a type and `int`, and one with the type alone: 0 and 1, 2
abbrev pub spaces : List ℕ → List ℕ → List (FileUnit EntryName)
spaces text other = one (
    unit 0 [] (Entry (space 0x0d text) (then (unspecified 0x11) (then (int_type 0x2e) End)) End)
    ∷ unit 0x37 [] (Entry (space 0x44 other) (then (unspecified 0x48) End) End)
    ∷ []
    )

-- variables with these expressions as their locations, each with whether it has an address
abbrev variables : ℕ → List (Bool × List ℕ) → Entries ℕ
variables place [] = End
variables place (expr ∷ more) = then (entry place 0x34 (computed expr.0 expr.1 ∷ [])) (variables (place + 1) more)

abbrev pub expressions : List (Bool × List ℕ) → List (FileUnit EntryName)
expressions exprs = one (unit 0 [] (variables 0x0d exprs) ∷ [])
