-- Weights of entries, counted up to 64.
use Rattle.std.specs.Prelude.{ℕ, ◌+◌, ◌==◌, Bool, true, false, List, [], ◌∷◌, Option, Some, None, min, nat_lt, if◌then◌else◌}
use Rattle.dwz_codes.specs.declared.shape.Shape.{Shape}
use Rattle.dwz_codes.specs.declared.shape.Shape.TheVariants.{Nothing, Fixed1, Fixed2, Fixed3, Fixed4, Fixed8, Address}
use Rattle.dwz_def_tops.specs.Spots.{EntryName}
use Rattle.dwz_def_reading.specs.Documents.{Node, node_map}
use Rattle.dwz_def_reading.specs.Classes.{OfBlock, OfCommonEntry, OfCommonText, OfConstant, OfExpression, OfInfoEntry, OfText, OfTextBySlot}
use Rattle.dwz_def_reading.specs.Classes.{Class, class_of, names_file}
use Rattle.dwz_def_reading.specs.Classes.{OfTextInLineStr, OfTextInStr, OfUnitEntry}
use Rattle.dwz_def_reading.specs.Forms.{form_rows}
use Rattle.dwz_def_reading.specs.Values.{shape_of}
use Rattle.dwz_def_plan.specs.Gain.{attrs_weight}
use Rattle.dwz_model.specs.declared.place.Pair.{Pair}
use Rattle.dwz_unit.specs.Rows.{EntryRow}

-- what weighs 64 or more counts as 64
abbrev pub capped : ℕ → ℕ
capped n = min n 64

-- what a value of a class weighs that isn't a text that stands there, whichever it is; a number may be that of a file
abbrev pub set_weight : Class → Bool → Option ℕ
set_weight OfText file = Some 4
set_weight OfTextInStr file = Some 4
set_weight OfTextInLineStr file = Some 4
set_weight OfTextBySlot file = Some 4
set_weight OfCommonText file = Some 4
set_weight OfUnitEntry file = Some 4
set_weight OfInfoEntry file = Some 4
set_weight OfCommonEntry file = Some 4
set_weight OfConstant true = Some 1
set_weight OfConstant false = None
set_weight _ file = None

-- an entry that has children, or none, weighs so much itself
abbrev pub node_weight : Bool → Node EntryName → ℕ
node_weight parent d = (if parent then 2 else 1) + attrs_weight d.attrs

-- the entries that rows mean, the first of which has that number: those below an entry come before its row's end
unfoldable pub rows_weight : (ℕ → EntryName) → ℕ → List EntryRow → List (Node ℕ) → ℕ
rows_weight name i (row ∷ rows) (d ∷ ds) = node_weight (nat_lt (i + 1) row.end) (node_map name d) + rows_weight name (i + 1) rows ds
rows_weight name i _ _ = 0

-- ---- of declarations (DWARF 5, 7.5.3)

-- a number of a shape has so many bytes, whichever it is
abbrev pub number_size : Shape → Option ℕ
number_size Nothing = Some 0
number_size Fixed1 = Some 1
number_size Fixed2 = Some 2
number_size Fixed3 = Some 3
number_size Fixed4 = Some 4
number_size Fixed8 = Some 8
number_size Address = Some 8
number_size _ = None

abbrev pub or_size : Option ℕ → Shape → Option ℕ
or_size (Some weight) shape = Some weight
or_size None shape = number_size shape

-- what each value of a class and a shape weighs, if all weigh the same; a number may be that of a file
abbrev pub form_weight : Class → Bool → Shape → Option ℕ
form_weight OfText file shape = None
form_weight OfBlock file shape = None
form_weight OfExpression file shape = None
form_weight class file shape = or_size (set_weight class file) shape

-- of a name and a form; DW_AT_sibling (1) weighs nothing
abbrev pub pair_weight : Pair → Option ℕ
pair_weight pair = if pair.name == 0x01 then Some 0 else form_weight (class_of pair.form) (names_file pair.name) (shape_of form_rows pair.form)

-- two weights together, if both are known
abbrev pub weigh_both : Option ℕ → Option ℕ → Option ℕ
weigh_both (Some a) (Some b) = Some (capped (a + b))
weigh_both _ _ = None

-- of the names and forms of a declaration
unfoldable pub pairs_weight : List Pair → Option ℕ
pairs_weight [] = Some 0
pairs_weight (pair ∷ pairs) = weigh_both (pair_weight pair) (pairs_weight pairs)
