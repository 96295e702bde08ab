-- Raw values: what the value of an attribute stores.
use Rattle.std.specs.Prelude.{◌≡◌, ℕ, ℤ, pos, ◌<◌, ◌⊎◌, Bool, List, [], ◌∷◌, ◌++◌, length, Result, Ok, Err, ◌==◌}
use Rattle.std.specs.Prelude.{if◌then◌else◌, codes}
use Rattle.dwz_model.specs.declared.fault.Fault.{Fault}
use Rattle.dwz_model.specs.declared.fault.Reason.TheVariants.{UnsupportedForm, Truncated, BadNumber}
use Rattle.dwz_model.specs.declared.place.Pair.{Pair}
use Rattle.dwz_bytes.specs.declared.error.ByteErr.{ByteErr}
use Rattle.dwz_bytes.specs.declared.error.ByteErr.TheVariants.{Short, Wide}
use Rattle.dwz_bytes.specs.Input.{Input}
use Rattle.dwz_bytes.specs.Laws.{HasTooManyBits, IsCutShort, IsOverlong}
use Rattle.dwz_bytes.specs.Reading.{◌>>=◌, fixed_at, sleb_at, take_at, uleb_at}
use Rattle.dwz_bytes.specs.Spelling.{SpellsFixed, SpellsSleb, SpellsUleb, fits_i64, fits_u64, groups_value, le_bytes, reach, signed_value}
use Rattle.dwz_bytes.specs.Spelling.{sleb, uleb}
use Rattle.dwz_codes.specs.declared.shape.Shape.{Shape}
use Rattle.dwz_codes.specs.declared.shape.Shape.TheVariants.{Nothing, Fixed1, Fixed2, Fixed3, Fixed4, Fixed8, Fixed16, Uleb, Sleb}
use Rattle.dwz_codes.specs.declared.shape.Shape.TheVariants.{ZeroEnded, Block1, Block2, Block4, BlockUleb, Address}
use Rattle.dwz_codes.specs.Forms.{form_rows}
use Rattle.dwz_codes.specs.Rows.{RowView, row}
pub use Rattle.dwz_codes.specs.Rows.{shape_in, shape_of}
use Rattle.dwz_def_reading.specs.Faults.{info_fault}
use Rattle.dwz_def_reading.specs.Texts.{NoZero, SpellsText, zero_ended_at}

-- a number, or bytes
pub data Raw : Type 0 where
  Number : ℤ → Raw
  Bytes : List ℕ → Raw

-- ---- the shape of a form (DWARF 5, 7.5.6)

-- the forms that are written: those that are read, and two that name what a supplementary file holds (7.3.6)
abbrev pub written_rows : List RowView
written_rows = row 0x1c Fixed4 (codes "ref_sup4") ∷ row 0x1d Fixed4 (codes "strp_sup") ∷ form_rows

-- The number of a value that occupies no bytes: the constant of its declaration, where the form is
-- `DW_FORM_implicit_const` (7.5.3), and else 0.
abbrev pub constant_of : Pair → ℤ
constant_of pair = if pair.form == 0x21 then pair.constant else pos 0

-- ---- how a value is spelled (7.5.5)

-- what the bytes spell, seen as a raw value
pub record SpellsAs {X : Type 0} (seen : X → Raw) (Spells : List ℕ → X → Type 0) (bytes : List ℕ) (raw : Raw) : Type 0 where
  pub content : X
  pub spelled : Spells bytes content
  pub value : raw ≡ seen content

-- so many bytes stand for themselves
pub record SpellsRun (count : ℕ) (bytes content : List ℕ) : Type 0 where
  pub len : length bytes ≡ count
  pub same : content ≡ bytes

-- a number, and that many bytes
pub record SpellsBlock (Spells : List ℕ → ℕ → Type 0) (bytes content : List ℕ) : Type 0 where
  pub front : List ℕ
  pub count : Spells front (length content)
  pub parts : bytes ≡ front ++ content

-- no bytes stand for a number that is known
pub record SpellsNothing (number : ℤ) (bytes : List ℕ) (raw : Raw) : Type 0 where
  pub empty : bytes ≡ []
  pub value : raw ≡ Number number

abbrev pub unsigned : ℕ → Raw
unsigned n = Number (pos n)

-- The bytes are laid out by the shape and spell the raw value. The number is that of a value without bytes.
abbrev pub SpellsShape : Shape → ℤ → List ℕ → Raw → Type 0
SpellsShape Nothing number = SpellsNothing number
SpellsShape Fixed1 number = SpellsAs unsigned (SpellsFixed 1)
SpellsShape Fixed2 number = SpellsAs unsigned (SpellsFixed 2)
SpellsShape Fixed3 number = SpellsAs unsigned (SpellsFixed 3)
SpellsShape Fixed4 number = SpellsAs unsigned (SpellsFixed 4)
SpellsShape Fixed8 number = SpellsAs unsigned (SpellsFixed 8)
SpellsShape Fixed16 number = SpellsAs Bytes (SpellsRun 16)
SpellsShape Uleb number = SpellsAs unsigned SpellsUleb
SpellsShape Sleb number = SpellsAs Number SpellsSleb
SpellsShape ZeroEnded number = SpellsAs Bytes SpellsText
SpellsShape Block1 number = SpellsAs Bytes (SpellsBlock (SpellsFixed 1))
SpellsShape Block2 number = SpellsAs Bytes (SpellsBlock (SpellsFixed 2))
SpellsShape Block4 number = SpellsAs Bytes (SpellsBlock (SpellsFixed 4))
SpellsShape BlockUleb number = SpellsAs Bytes (SpellsBlock SpellsUleb)
SpellsShape Address number = SpellsAs unsigned (SpellsFixed 8)
SpellsShape _ number = λ bytes raw. ⊥

-- the bytes spell a raw value of the pair's form
abbrev pub SpellsValue : List RowView → Pair → List ℕ → Raw → Type 0
SpellsValue rows pair = SpellsShape (shape_of rows pair.form) (constant_of pair)

-- ---- reading a value

-- what is read, seen as a raw value
abbrev pub read_as : {X : Type 0} → (X → Raw) → (Input → Result (X × Input) ByteErr) → Input → Result (Raw × Input) ByteErr
read_as seen read i = read i >>= λ x. Ok (seen x.0, x.1)

abbrev pub block_at : (Input → Result (ℕ × Input) ByteErr) → Input → Result (List ℕ × Input) ByteErr
block_at read i = read i >>= λ count. take_at count.0 count.1

-- a fault inside a value is placed at the value
abbrev pub fault_from : ℕ → ByteErr → Fault
fault_from at (Short _) = info_fault at Truncated
fault_from at (Wide _) = info_fault at BadNumber

abbrev pub valued : ℕ → Result (Raw × Input) ByteErr → Result (Raw × Input) Fault
valued at (Ok x) = Ok x
valued at (Err e) = Err (fault_from at e)

-- a value of a shape
unfoldable pub shaped_at : Shape → Pair → Input → Result (Raw × Input) Fault
shaped_at Nothing pair i = Ok (Number (constant_of pair), i)
shaped_at Fixed1 pair i = valued i.at (read_as unsigned (fixed_at 1) i)
shaped_at Fixed2 pair i = valued i.at (read_as unsigned (fixed_at 2) i)
shaped_at Fixed3 pair i = valued i.at (read_as unsigned (fixed_at 3) i)
shaped_at Fixed4 pair i = valued i.at (read_as unsigned (fixed_at 4) i)
shaped_at Fixed8 pair i = valued i.at (read_as unsigned (fixed_at 8) i)
shaped_at Fixed16 pair i = valued i.at (read_as Bytes (take_at 16) i)
shaped_at Uleb pair i = valued i.at (read_as unsigned uleb_at i)
shaped_at Sleb pair i = valued i.at (read_as Number sleb_at i)
shaped_at ZeroEnded pair i = valued i.at (read_as Bytes zero_ended_at i)
shaped_at Block1 pair i = valued i.at (read_as Bytes (block_at (fixed_at 1)) i)
shaped_at Block2 pair i = valued i.at (read_as Bytes (block_at (fixed_at 2)) i)
shaped_at Block4 pair i = valued i.at (read_as Bytes (block_at (fixed_at 4)) i)
shaped_at BlockUleb pair i = valued i.at (read_as Bytes (block_at uleb_at) i)
shaped_at Address pair i = valued i.at (read_as unsigned (fixed_at 8) i)
shaped_at _ pair i = Err (info_fault i.at (UnsupportedForm pair.form))

-- a value of the pair's form
abbrev pub value_at : List RowView → Pair → Input → Result (Raw × Input) Fault
value_at rows pair i = shaped_at (shape_of rows pair.form) pair i

-- ---- where no value is read

-- values of the shape aren't read
abbrev pub IsUnread : Shape → Type 0
IsUnread Nothing = ⊥
IsUnread Fixed1 = ⊥
IsUnread Fixed2 = ⊥
IsUnread Fixed3 = ⊥
IsUnread Fixed4 = ⊥
IsUnread Fixed8 = ⊥
IsUnread Fixed16 = ⊥
IsUnread Uleb = ⊥
IsUnread Sleb = ⊥
IsUnread ZeroEnded = ⊥
IsUnread Block1 = ⊥
IsUnread Block2 = ⊥
IsUnread Block4 = ⊥
IsUnread BlockUleb = ⊥
IsUnread Address = ⊥
IsUnread _ = Unit {0}

-- a length stands at the front, and fewer bytes follow
pub record EndsInBlock (Spells : List ℕ → ℕ → Type 0) (bytes : List ℕ) : Type 0 where
  pub front : List ℕ
  pub rest : List ℕ
  pub count : ℕ
  pub spelled : Spells front count
  pub too_few : length rest < count
  pub parts : bytes ≡ front ++ rest

abbrev pub IsBlockCut : (List ℕ → ℕ → Type 0) → (List ℕ → Type 0) → List ℕ → Type 0
IsBlockCut Spells IsLengthCut bytes = IsLengthCut bytes ⊎ EndsInBlock Spells bytes

abbrev pub AreFewer : ℕ → List ℕ → Type 0
AreFewer count bytes = length bytes < count

-- the bytes end before a value of the shape does
abbrev pub IsCutOff : Shape → List ℕ → Type 0
IsCutOff Fixed1 = AreFewer 1
IsCutOff Fixed2 = AreFewer 2
IsCutOff Fixed3 = AreFewer 3
IsCutOff Fixed4 = AreFewer 4
IsCutOff Fixed8 = AreFewer 8
IsCutOff Fixed16 = AreFewer 16
IsCutOff Uleb = IsCutShort
IsCutOff Sleb = IsCutShort
IsCutOff ZeroEnded = NoZero
IsCutOff Block1 = IsBlockCut (SpellsFixed 1) (AreFewer 1)
IsCutOff Block2 = IsBlockCut (SpellsFixed 2) (AreFewer 2)
IsCutOff Block4 = IsBlockCut (SpellsFixed 4) (AreFewer 4)
IsCutOff BlockUleb = IsBlockCut SpellsUleb IsCutShort
IsCutOff Address = AreFewer 8
IsCutOff _ = λ bytes. ⊥

-- a LEB128 number at the front has more than ten bytes, or more than 64 bits
abbrev pub IsTooBig : {X : Type 0} → (List ℕ → X) → (X → Bool) → List ℕ → Type 0
IsTooBig worth fits bytes = IsOverlong bytes ⊎ HasTooManyBits worth fits bytes

abbrev pub IsTooWide : Shape → List ℕ → Type 0
IsTooWide Uleb = IsTooBig groups_value fits_u64
IsTooWide Sleb = IsTooBig signed_value fits_i64
IsTooWide BlockUleb = IsTooBig groups_value fits_u64
IsTooWide _ = λ bytes. ⊥

-- a value of this shape isn't read, for one of three reasons, and its place is named
abbrev pub IsShapeFault : Shape → Pair → Input → Fault → Type 0
IsShapeFault shape pair i f =
    ((f ≡ info_fault i.at (UnsupportedForm pair.form)) × IsUnread shape)
    ⊎ (((f ≡ info_fault i.at Truncated) × IsCutOff shape i.rest)
    ⊎ ((f ≡ info_fault i.at BadNumber) × IsTooWide shape i.rest))

abbrev pub IsValueFault : List RowView → Pair → Input → Fault → Type 0
IsValueFault rows pair i f = IsShapeFault (shape_of rows pair.form) pair i f

-- ---- what is written of a value: LEB128 numbers in their shortest spelling

abbrev pub number_bytes : Shape → ℤ → List ℕ
number_bytes Fixed1 z = le_bytes 1 (reach z)
number_bytes Fixed2 z = le_bytes 2 (reach z)
number_bytes Fixed3 z = le_bytes 3 (reach z)
number_bytes Fixed4 z = le_bytes 4 (reach z)
number_bytes Fixed8 z = le_bytes 8 (reach z)
number_bytes Uleb z = uleb (reach z)
number_bytes Sleb z = sleb z
number_bytes Address z = le_bytes 8 (reach z)
number_bytes _ z = []

abbrev pub run_bytes : Shape → List ℕ → List ℕ
run_bytes Fixed16 content = content
run_bytes ZeroEnded content = content ++ 0 ∷ []
run_bytes Block1 content = le_bytes 1 (length content) ++ content
run_bytes Block2 content = le_bytes 2 (length content) ++ content
run_bytes Block4 content = le_bytes 4 (length content) ++ content
run_bytes BlockUleb content = uleb (length content) ++ content
run_bytes _ content = []

abbrev pub shape_bytes : Shape → Raw → List ℕ
shape_bytes shape (Number z) = number_bytes shape z
shape_bytes shape (Bytes content) = run_bytes shape content

-- the bytes that are written of a value of a form
unfoldable pub value_bytes : ℕ → Raw → List ℕ
value_bytes form raw = shape_bytes (shape_of written_rows form) raw

-- each is below 256
abbrev pub AreBytes : List ℕ → Type 0
AreBytes [] = Unit {0}
AreBytes (b ∷ bytes) = (b < 256) × AreBytes bytes

-- some bytes spell this raw value in this form
pub record HasSpelling (form : ℕ) (raw : Raw) : Type 0 where
  pub pair : Pair
  pub of_form : pair.form ≡ form
  pub bytes : List ℕ
  pub are_bytes : AreBytes bytes
  pub spelled : SpellsValue written_rows pair bytes raw
