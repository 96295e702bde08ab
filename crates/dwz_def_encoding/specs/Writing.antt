-- The bytes of units whose places are keys, under numbers for the keys (DWARF 5, 7.5).
use Rattle.std.specs.Prelude.{ℕ, pos, suc, ◌+◌, ◌-◌, Bool, true, false, List, [], ◌∷◌, ◌++◌, length, map, Option, Some, None, ◌==◌}
use Rattle.std.specs.Prelude.{if◌then◌else◌}
use Rattle.dwz_def_reading.specs.Base.{Base}
use Rattle.dwz_def_reading.specs.Base.TheVariants.{Unit as FromUnit, Info as FromInfo}
use Rattle.dwz_def_reading.specs.Pair.{Pair}
use Rattle.dwz_def_reading.specs.Spelling.{le_bytes, uleb}
use Rattle.dwz_def_reading.specs.Abbrevs.{Declaration, children_byte, table_bytes}
use Rattle.dwz_def_reading.specs.Documents.{Attr, Block, Compile, DwUnit, Entries, Expr, Kind, Node, OfType, Operand, Part, Partial, Plain, Same, Text}
use Rattle.dwz_def_reading.specs.Classes.{OfBlock, OfCommonEntry, OfExpression, OfInfoEntry, OfText, OfUnitEntry, Class, class_of}
use Rattle.dwz_def_reading.specs.Patching.{number_in_width}
use Rattle.dwz_def_reading.specs.Trees.{End, Entry}
use Rattle.dwz_def_reading.specs.Values.{Bytes, Number, Raw, value_bytes}
use Rattle.dwz_def_tops.specs.Deciding.{same_by, same_int}
use Rattle.dwz_def_tops.specs.Spots.{same_numbers}

-- What writing needs to know of the whole output: the place of each key, counted from the first byte of the `.debug_info` of the file
-- in which it stands.
pub record Numbering (K : Type 0) : Type 0 where
  pub place : K → ℕ

-- ---- values

abbrev pub first_place : {K : Type 0} → Numbering K → List K → ℕ
first_place n [] = 0
first_place n (k ∷ refs) = n.place k

abbrev pub text_or_empty : Plain → List ℕ
text_or_empty (Text text) = text
text_or_empty _ = []

abbrev pub block_in : Plain → List ℕ
block_in (Block bytes) = bytes
block_in _ = []

-- a number from which an operand's is counted
abbrev pub base_place : ℕ → Base → ℕ
base_place unit FromUnit = unit
base_place unit FromInfo = 0

-- the bytes of an expression in a unit that begins at a place
unfoldable pub parts_bytes : {K : Type 0} → Numbering K → ℕ → List Part → List K → List ℕ
parts_bytes n unit [] refs = []
parts_bytes n unit (Same bytes ∷ parts) refs = bytes ++ parts_bytes n unit parts refs
parts_bytes n unit (Operand width uleb base ∷ parts) [] = []
parts_bytes n unit (Operand width uleb base ∷ parts) (k ∷ refs) = number_in_width uleb width (n.place k - base_place unit base)
    ++ parts_bytes n unit parts refs

abbrev pub expr_bytes : {K : Type 0} → Numbering K → ℕ → Plain → List K → List ℕ
expr_bytes n unit (Expr parts) refs = parts_bytes n unit parts refs
expr_bytes n unit _ refs = []

-- what an attribute of a class stores, in a unit that begins at a place
abbrev pub stored_as : {K : Type 0} → Class → Numbering K → ℕ → Attr K → Raw
stored_as OfText n unit a = Bytes (text_or_empty a.value.plain)
stored_as OfBlock n unit a = Bytes (block_in a.value.plain)
stored_as OfExpression n unit a = Bytes (expr_bytes n unit a.value.plain a.value.refs)
stored_as OfUnitEntry n unit a = Number (pos (first_place n a.value.refs - unit))
stored_as OfInfoEntry n unit a = Number (pos (first_place n a.value.refs))
stored_as OfCommonEntry n unit a = Number (pos (first_place n a.value.refs))
stored_as _ n unit a = Number a.raw

abbrev pub stored : {K : Type 0} → Numbering K → ℕ → Attr K → Raw
stored n unit a = stored_as (class_of a.form) n unit a

unfoldable pub attrs_bytes : {K : Type 0} → Numbering K → ℕ → List (Attr K) → List ℕ
attrs_bytes n unit [] = []
attrs_bytes n unit (a ∷ attrs) = value_bytes a.form (stored n unit a) ++ attrs_bytes n unit attrs

-- ---- declarations, with codes from 1 by first use in preorder

-- a declaration without its code
pub record DeclarationShape : Type 0 where
  pub tag : ℕ
  pub children : Bool
  pub pairs : List Pair

abbrev pub any : {K : Type 0} → Entries K → Bool
any End = false
any (Entry e children next) = true

-- the constant stands in the declaration where the form is DW_FORM_implicit_const
abbrev pub pair_of : {K : Type 0} → Attr K → Pair
pair_of a = record { name = a.name; form = a.form; constant = if a.form == 0x21 then a.raw else pos 0 }

abbrev pub declaration_shape : {K : Type 0} → Node K → Entries K → DeclarationShape
declaration_shape e children = record { tag = e.tag; children = any children; pairs = map pair_of e.attrs }

abbrev pub same_pair : Pair → Pair → Bool
same_pair p q = elim (p.name == q.name) as (λ _. Bool) [
  | true ↦
      elim (p.form == q.form) as (λ _. Bool) [ true ↦ same_int p.constant q.constant | false ↦ false ]
  | false ↦ false
]

unfoldable pub same_shape : DeclarationShape → DeclarationShape → Bool
same_shape a b =
    elim (a.tag == b.tag) as (λ _. Bool) [
      | true ↦
          elim (children_byte a.children == children_byte b.children) as (λ _. Bool) [
            | true ↦ same_by same_pair a.pairs b.pairs
            | false ↦ false
          ]
      | false ↦ false
    ]

-- the code of a shape, where the first of the table has that code
unfoldable pub code_in : ℕ → List DeclarationShape → DeclarationShape → Option ℕ
code_in n [] s = None
code_in n (t ∷ table) s = elim (same_shape t s) as (λ _. Option ℕ) [ true ↦ Some n | false ↦ code_in (suc n) table s ]

abbrev pub add_if : Option ℕ → List DeclarationShape → DeclarationShape → List DeclarationShape
add_if (Some n) table s = table
add_if None table s = table ++ s ∷ []

unfoldable pub with_shape : List DeclarationShape → DeclarationShape → List DeclarationShape
with_shape table s = add_if (code_in 1 table s) table s

unfoldable pub shapes_in : {K : Type 0} → List DeclarationShape → Entries K → List DeclarationShape
shapes_in table End = table
shapes_in table (Entry e children next) = shapes_in (shapes_in (with_shape table (declaration_shape e children)) children) next

-- the shapes of a unit's entries, each once
abbrev pub table_of : {K : Type 0} → DwUnit K → List DeclarationShape
table_of u = shapes_in (with_shape [] (declaration_shape u.root u.below)) u.below

abbrev pub declaration_of : ℕ → DeclarationShape → Declaration
declaration_of code s = record { code = code; tag = s.tag; children = s.children; pairs = s.pairs }

-- the declarations, the first of which has that code
unfoldable pub coded : ℕ → List DeclarationShape → List Declaration
coded n [] = []
coded n (s ∷ table) = declaration_of n s ∷ coded (suc n) table

abbrev pub abbrevs_of : {K : Type 0} → DwUnit K → List ℕ
abbrevs_of u = table_bytes (coded 1 (table_of u))

-- ---- entries

abbrev pub code_bytes : Option ℕ → List ℕ
code_bytes None = []
code_bytes (Some n) = uleb n

-- an entry is its code and its values
unfoldable pub node_bytes : {K : Type 0} → Numbering K → ℕ → List DeclarationShape → Node K → Entries K → List ℕ
node_bytes n unit table e children = code_bytes (code_in 1 table (declaration_shape e children)) ++ attrs_bytes n unit e.attrs

abbrev pub if_any : {K : Type 0} → Entries K → List ℕ → List ℕ
if_any End bytes = []
if_any (Entry e children next) bytes = bytes

-- an entry with children is followed by them and a zero byte
unfoldable pub spelled : {K : Type 0} → Numbering K → ℕ → List DeclarationShape → Entries K → List ℕ
spelled n unit table End = 0 ∷ []
spelled n unit table (Entry e children next) =
    node_bytes n unit table e children ++ (if_any children (spelled n unit table children) ++ spelled n unit table next)

-- ---- units

unfoldable pub tree_bytes : {K : Type 0} → Numbering K → ℕ → DwUnit K → List ℕ
tree_bytes n unit u = node_bytes n unit (table_of u) u.root u.below ++ if_any u.below (spelled n unit (table_of u) u.below)

-- DW_UT_compile, DW_UT_type, DW_UT_partial
abbrev pub type_of : {K : Type 0} → Kind K → ℕ
type_of Compile = 1
type_of (OfType signature main) = 2
type_of Partial = 3

-- a type unit has its signature and the offset of its type besides
abbrev pub kind_bytes : {K : Type 0} → Numbering K → ℕ → Kind K → List ℕ
kind_bytes n unit (OfType signature main) = le_bytes 8 signature ++ le_bytes 4 (n.place main - unit)
kind_bytes n unit _ = []

abbrev pub written_header_size : {K : Type 0} → Kind K → ℕ
written_header_size (OfType signature main) = 24
written_header_size _ = 12

abbrev pub written_unit_size : {K : Type 0} → Numbering K → ℕ → DwUnit K → ℕ
written_unit_size n unit u = written_header_size u.kind + length (tree_bytes n unit u)

-- a unit that begins at a place, with the offset of its table: its length, version 5, its type, address size 8
unfoldable pub unit_bytes : {K : Type 0} → Numbering K → ℕ → ℕ → DwUnit K → List ℕ
unit_bytes n offset unit u =
    le_bytes 4 (written_unit_size n unit u - 4)
    ++ (le_bytes 2 5 ++ (type_of u.kind ∷ 8 ∷ [] ++ (le_bytes 4 offset ++ (kind_bytes n unit u.kind ++ tree_bytes n unit u))))

-- ---- the tables, in the order of the units; one whose bytes were written before is used again

unfoldable pub table_in : ℕ → List (List ℕ) → List ℕ → Option ℕ
table_in at [] t = None
table_in at (u ∷ tables) t = elim (same_numbers u t) as (λ _. Option ℕ) [ true ↦ Some at | false ↦ table_in (at + length u) tables t ]

abbrev pub add_table : Option ℕ → List (List ℕ) → List ℕ → List (List ℕ)
add_table (Some at) tables t = tables
add_table None tables t = tables ++ t ∷ []

unfoldable pub with_table : List (List ℕ) → List ℕ → List (List ℕ)
with_table tables t = add_table (table_in 0 tables t) tables t

unfoldable pub tables_of : {K : Type 0} → List (List ℕ) → List (DwUnit K) → List (List ℕ)
tables_of tables [] = tables
tables_of tables (u ∷ units) = tables_of (with_table tables (abbrevs_of u)) units

unfoldable pub joined : List (List ℕ) → List ℕ
joined [] = []
joined (t ∷ tables) = t ++ joined tables

abbrev pub or_zero : Option ℕ → ℕ
or_zero None = 0
or_zero (Some n) = n

abbrev pub table_offset : {K : Type 0} → List (List ℕ) → DwUnit K → ℕ
table_offset tables u = or_zero (table_in 0 tables (abbrevs_of u))

-- the units one behind the other
unfoldable pub units_bytes : {K : Type 0} → Numbering K → List (List ℕ) → List (DwUnit K) → List ℕ
units_bytes n tables [] = []
units_bytes n tables (u ∷ units) = unit_bytes n (table_offset tables u) (n.place u.at) u ++ units_bytes n tables units
