-- The classes of forms (DWARF 5, 7.5.6), and what names say of numbers (7.5.5).
use Rattle.std.specs.Prelude.{ℕ, ◌-◌, ◌*◌, ◌^◌, Bool, List, [], ◌∷◌}
use Rattle.std.specs.Prelude.{◌==◌, ◌&&◌, ◌||◌, not, nat_lt, if◌then◌else◌}
use Rattle.dwz_codes.specs.Rows.{has}
use Rattle.dwz_codes.specs.declared.class.Class.{Class}
use Rattle.dwz_codes.specs.declared.class.Class.TheVariants.{Address as OfAddress, Block as OfBlock, Constant as OfConstant}
use Rattle.dwz_codes.specs.declared.class.Class.TheVariants.{Flag as OfFlag, Text as OfText, TextInStr as OfTextInStr}
use Rattle.dwz_codes.specs.declared.class.Class.TheVariants.{TextInLineStr as OfTextInLineStr, TextBySlot as OfTextBySlot}
use Rattle.dwz_codes.specs.declared.class.Class.TheVariants.{UnitEntry as OfUnitEntry, InfoEntry as OfInfoEntry}
use Rattle.dwz_codes.specs.declared.class.Class.TheVariants.{Signature as OfSignature, Offset as OfOffset}
use Rattle.dwz_codes.specs.declared.class.Class.TheVariants.{Expression as OfExpression, ListIndex as OfListIndex, Index as OfIndex}
use Rattle.dwz_codes.specs.declared.class.Class.TheVariants.{CommonEntry as OfCommonEntry, CommonText as OfCommonText, Unread}

-- ---- the class of a form (7.5.6)

-- what the number or the bytes of a form stand for; `Class` says it of each
pub record ClassRow : Type 0 where
  pub form : ℕ
  pub class : Class

abbrev class_row : ℕ → Class → ClassRow
class_row form class = record { form = form; class = class }

unfoldable pub class_rows : List ClassRow
class_rows =
    class_row 0x01 OfAddress
    ∷ class_row 0x03 OfBlock
    ∷ class_row 0x04 OfBlock
    ∷ class_row 0x05 OfConstant
    ∷ class_row 0x06 OfConstant
    ∷ class_row 0x07 OfConstant
    ∷ class_row 0x08 OfText
    ∷ class_row 0x09 OfBlock
    ∷ class_row 0x0a OfBlock
    ∷ class_row 0x0b OfConstant
    ∷ class_row 0x0c OfFlag
    ∷ class_row 0x0d OfConstant
    ∷ class_row 0x0e OfTextInStr
    ∷ class_row 0x0f OfConstant
    ∷ class_row 0x10 OfInfoEntry
    ∷ class_row 0x11 OfUnitEntry
    ∷ class_row 0x12 OfUnitEntry
    ∷ class_row 0x13 OfUnitEntry
    ∷ class_row 0x14 OfUnitEntry
    ∷ class_row 0x15 OfUnitEntry
    ∷ class_row 0x17 OfOffset
    ∷ class_row 0x18 OfExpression
    ∷ class_row 0x19 OfFlag
    ∷ class_row 0x1a OfTextBySlot
    ∷ class_row 0x1b OfIndex
    ∷ class_row 0x1c OfCommonEntry
    ∷ class_row 0x1d OfCommonText
    ∷ class_row 0x1e OfBlock
    ∷ class_row 0x1f OfTextInLineStr
    ∷ class_row 0x20 OfSignature
    ∷ class_row 0x21 OfConstant
    ∷ class_row 0x22 OfListIndex
    ∷ class_row 0x23 OfIndex
    ∷ class_row 0x25 OfTextBySlot
    ∷ class_row 0x26 OfTextBySlot
    ∷ class_row 0x27 OfTextBySlot
    ∷ class_row 0x28 OfTextBySlot
    ∷ class_row 0x29 OfIndex
    ∷ class_row 0x2a OfIndex
    ∷ class_row 0x2b OfIndex
    ∷ class_row 0x2c OfIndex
    ∷ []

unfoldable pub class_in : List ClassRow → ℕ → Class
class_in [] form = Unread
class_in (r ∷ rows) form = if r.form == form then r.class else class_in rows form

abbrev pub class_of : ℕ → Class
class_of form = class_in class_rows form

-- ---- numbers (7.5.5, class constant)

-- how many bytes the forms have that don't say whether their number is signed: data1, data2, data4, data8
abbrev pub data_width : ℕ → ℕ
data_width form = if form == 0x0b then 1 else (if form == 0x05 then 2 else (if form == 0x06 then 4 else (if form == 0x07 then 8 else 0)))

-- the attributes whose numbers have no sign: byte_size, data_member_location, decl_column, decl_line, encoding, call_column,
-- call_line
abbrev pub unsigned_names : List ℕ
unsigned_names = 0x0b ∷ 0x38 ∷ 0x39 ∷ 0x3b ∷ 0x3e ∷ 0x57 ∷ 0x59 ∷ []

-- the top bit of a number of so many bytes is set
abbrev pub is_open : ℕ → ℕ → Bool
is_open width n = not (width == 0) && not (nat_lt n (128 * 256 ^ (width - 1)))

-- a number keeps its width where nothing says whether it is signed and that matters
abbrev pub kept_width : ℕ → ℕ → ℕ → ℕ
kept_width name form n = if is_open (data_width form) n && not (has name unsigned_names) then data_width form else 0

-- the attributes that number a file of the line table: decl_file, call_file
abbrev pub names_file : ℕ → Bool
names_file name = name == 0x3a || name == 0x58

-- the attributes whose offset is that of a location list (7.5.5, class loclist)
abbrev pub names_list : ℕ → Bool
names_list name = has name (0x02 ∷ 0x19 ∷ 0x2a ∷ 0x38 ∷ 0x40 ∷ 0x46 ∷ 0x48 ∷ 0x4a ∷ 0x4d ∷ [])
