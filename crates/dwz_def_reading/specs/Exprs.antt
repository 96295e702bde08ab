-- Expressions (DWARF 5, 2.5 and 7.7.1): how they are spelled, how they are read, and why one isn't.
use Rattle.std.specs.Prelude.{◌≡◌, ◌⊎◌, ℕ, zero, suc, ◌+◌, ◌-◌, Bool, true, false, List, [], ◌∷◌, ◌++◌, length, take, drop, Option, Some}
use Rattle.std.specs.Prelude.{None, Result, Ok, Err, ◌==◌, ◌||◌, if◌then◌else◌}
use Rattle.dwz_model.specs.declared.fault.Fault.{Fault}
use Rattle.dwz_model.specs.declared.fault.Reason.TheVariants.{BadExpr, BadOperand, UnsupportedOp}
use Rattle.dwz_model.specs.declared.place.Base.{Base}
use Rattle.dwz_model.specs.declared.place.Base.TheVariants.{Unit as FromUnit, Info as FromInfo}
use Rattle.dwz_bytes.specs.declared.error.ByteErr.{ByteErr}
use Rattle.dwz_bytes.specs.Input.{Input}
use Rattle.dwz_bytes.specs.Laws.{IsCutShort}
use Rattle.dwz_bytes.specs.Reading.{◌>>=◌, fixed_at, sleb_at, take_at, uleb_at}
use Rattle.dwz_bytes.specs.Spelling.{SpellsFixed, SpellsSleb, SpellsUleb, fits_i64, fits_u64, groups_value, signed_value}
use Rattle.dwz_codes.specs.declared.shape.Shape.{Shape}
use Rattle.dwz_codes.specs.declared.shape.Shape.TheVariants.{Nothing, Fixed1, Fixed2, Fixed4, Fixed8, Uleb, Sleb, UlebSleb, UlebUleb}
use Rattle.dwz_codes.specs.declared.shape.Shape.TheVariants.{BlockUleb, Address, AddressIndex, NestedExpr, UnitEntry4, InfoEntry4}
use Rattle.dwz_codes.specs.declared.shape.Shape.TheVariants.{InfoEntry4Sleb, UlebEntryConst, RegisterUlebEntry, SizeUlebEntry}
use Rattle.dwz_codes.specs.declared.shape.Shape.TheVariants.{UlebEntryOrGeneric, UlebUlebExpr, AddressAddressExpr, AddressUlebExpr}
use Rattle.dwz_codes.specs.Operators.{operator_rows}
use Rattle.dwz_def_reading.specs.declared.exprs.Operand.{Operand}
use Rattle.dwz_def_reading.specs.Documents.{Part, Same}
use Rattle.dwz_def_reading.specs.Documents as document
use Rattle.dwz_def_reading.specs.Sequences.{Behind, BehindItems, Both, FaultAt, Reader, Spelling, SpellsAll, WithBytes, all_at, both_at}
use Rattle.dwz_def_reading.specs.Values.{AreFewer, IsBlockCut, IsTooBig, SpellsBlock, SpellsRun, block_at, shape_of}

-- ---- what is behind a code

-- so many bytes; an unsigned or a signed LEB128 number; a byte or a ULEB128 number, and as many bytes as it says; an address, or a
-- ULEB128 number that names one; an entry, named by 4 bytes, by a ULEB128 number, or by one that is 0 for the generic type; a ULEB128
-- number, and an expression of as many bytes
pub data Field : Type 0 where
  Run : ℕ → Field
  Unsigned : Field
  Signed : Field
  Sized : Field
  Counted : Field
  Located : Field
  LocatedBy : Field
  Entry4 : Base → Field
  EntryUleb : Field
  EntryOrGeneric : Field
  Inside : Field

-- the fields of a layout; none where the code isn't read
abbrev pub fields_of : Shape → Option (List Field)
fields_of Nothing = Some []
fields_of Fixed1 = Some (Run 1 ∷ [])
fields_of Fixed2 = Some (Run 2 ∷ [])
fields_of Fixed4 = Some (Run 4 ∷ [])
fields_of Fixed8 = Some (Run 8 ∷ [])
fields_of Uleb = Some (Unsigned ∷ [])
fields_of Sleb = Some (Signed ∷ [])
fields_of UlebSleb = Some (Unsigned ∷ Signed ∷ [])
fields_of UlebUleb = Some (Unsigned ∷ Unsigned ∷ [])
fields_of BlockUleb = Some (Counted ∷ [])
fields_of Address = Some (Located ∷ [])
fields_of AddressIndex = Some (LocatedBy ∷ [])
fields_of NestedExpr = Some (Inside ∷ [])
fields_of UnitEntry4 = Some (Entry4 FromUnit ∷ [])
fields_of InfoEntry4 = Some (Entry4 FromInfo ∷ [])
fields_of InfoEntry4Sleb = Some (Entry4 FromInfo ∷ Signed ∷ [])
fields_of UlebEntryConst = Some (EntryUleb ∷ Sized ∷ [])
fields_of RegisterUlebEntry = Some (Unsigned ∷ EntryUleb ∷ [])
fields_of SizeUlebEntry = Some (Run 1 ∷ EntryUleb ∷ [])
fields_of UlebEntryOrGeneric = Some (EntryOrGeneric ∷ [])
fields_of UlebUlebExpr = Some (Unsigned ∷ Unsigned ∷ Inside ∷ [])
fields_of AddressAddressExpr = Some (Located ∷ Located ∷ Inside ∷ [])
fields_of AddressUlebExpr = Some (Located ∷ Unsigned ∷ Inside ∷ [])
fields_of _ = None

-- an expression: its place, its bytes, the operands that name entries, in order, and whether it has an address or names one; those of
-- the expressions in it are among them
pub record Expression : Type 0 where
  pub at : ℕ
  pub bytes : List ℕ
  pub operands : List Operand
  pub address : Bool

-- what a field holds, besides numbers and bytes that mean the same in each place: an operand that names an entry, an address, an
-- expression
pub data FieldItem : Type 0 where
  Names : Operand → FieldItem
  AnAddress : FieldItem
  Holds : Expression → FieldItem

unfoldable pub operands_in : List FieldItem → List Operand
operands_in [] = []
operands_in (Names o ∷ founds) = o ∷ operands_in founds
operands_in (AnAddress ∷ founds) = operands_in founds
operands_in (Holds e ∷ founds) = e.operands ++ operands_in founds

unfoldable pub any_address : List FieldItem → Bool
any_address [] = false
any_address (Names o ∷ founds) = any_address founds
any_address (AnAddress ∷ founds) = true
any_address (Holds e ∷ founds) = e.address || any_address founds

unfoldable pub expressions_in : List FieldItem → List Expression
expressions_in [] = []
expressions_in (Names o ∷ founds) = expressions_in founds
expressions_in (AnAddress ∷ founds) = expressions_in founds
expressions_in (Holds e ∷ founds) = e ∷ expressions_in founds

-- what several items hold, in order
unfoldable pub joined_items : List (List FieldItem) → List FieldItem
joined_items [] = []
joined_items (founds ∷ items) = founds ++ joined_items items

abbrev pub expression_of : ℕ → List ℕ → List (List FieldItem) → Expression
expression_of at bytes ops = record {
  at = at;
  bytes = bytes;
  operands = operands_in (joined_items ops);
  address = any_address
      (joined_items ops);
}

-- ---- what reading an expression needs

-- the section that it stands in, and which operands name an entry
pub record ExprContext : Type 0 where
  pub section : ℕ
  pub names : Operand → Bool

-- where nothing is asked of operands
abbrev pub any_operands : ℕ → ExprContext
any_operands section = record { section = section; names = λ o. true }

abbrev pub bad_expr : ExprContext → ℕ → Fault
bad_expr c at = record { section = c.section; at = at; reason = BadExpr }

abbrev pub unsupported : ExprContext → ℕ → ℕ → Fault
unsupported c at code = record { section = c.section; at = at; reason = UnsupportedOp code }

abbrev pub bad_operand : ExprContext → ℕ → Fault
bad_operand c at = record { section = c.section; at = at; reason = BadOperand }

-- ---- how a field is spelled

-- some bytes spell a value, in which a field holds that
pub record SpellsPiece {X : Type 0} (Spells : List ℕ → X → Type 0) (seen : ℕ → ℕ → X → List FieldItem) (founds : List FieldItem) (start : ℕ)
    (bytes : List ℕ) : Type 0 where
  pub value : X
  pub spelled : Spells bytes value
  pub found : founds ≡ seen start (length bytes) value

-- what a value at a place, of so many bytes, holds
abbrev pub nothing : {X : Type 0} → ℕ → ℕ → X → List FieldItem
nothing start width value = []

abbrev pub an_address : {X : Type 0} → ℕ → ℕ → X → List FieldItem
an_address start width value = AnAddress ∷ []

abbrev pub an_operand : Bool → Base → ℕ → ℕ → ℕ → List FieldItem
an_operand uleb base start width number = Names (record { at = start; width = width; uleb = uleb; base = base; number = number }) ∷ []

abbrev pub an_operand_or_generic : ℕ → ℕ → ℕ → List FieldItem
an_operand_or_generic start width number = if number == 0 then [] else an_operand true FromUnit start width number

-- a ULEB128 number, and an expression of as many bytes
pub record SpellsInside (IsExpr : Spelling Expression) (founds : List FieldItem) (start : ℕ) (bytes : List ℕ) : Type 0 where
  pub front : List ℕ
  pub content : List ℕ
  pub count : SpellsUleb front (length content)
  pub expression : Expression
  pub is : IsExpr expression (start + length front) content
  pub parts : bytes ≡ front ++ content
  pub found : founds ≡ Holds expression ∷ []

abbrev pub SpellsField : Spelling Expression → Field → Spelling (List FieldItem)
SpellsField IsExpr (Run n) = SpellsPiece (SpellsRun n) nothing
SpellsField IsExpr Unsigned = SpellsPiece SpellsUleb nothing
SpellsField IsExpr Signed = SpellsPiece SpellsSleb nothing
SpellsField IsExpr Sized = SpellsPiece (SpellsBlock (SpellsFixed 1)) nothing
SpellsField IsExpr Counted = SpellsPiece (SpellsBlock SpellsUleb) nothing
SpellsField IsExpr Located = SpellsPiece (SpellsFixed 8) an_address
SpellsField IsExpr LocatedBy = SpellsPiece SpellsUleb an_address
SpellsField IsExpr (Entry4 base) = SpellsPiece (SpellsFixed 4) (an_operand false base)
SpellsField IsExpr EntryUleb = SpellsPiece SpellsUleb (an_operand true FromUnit)
SpellsField IsExpr EntryOrGeneric = SpellsPiece SpellsUleb an_operand_or_generic
SpellsField IsExpr Inside = SpellsInside IsExpr

-- the fields in order, and what they hold
abbrev pub SpellsFields : Spelling Expression → List Field → Spelling (List FieldItem)
SpellsFields IsExpr [] founds start bytes = (founds ≡ []) × (bytes ≡ [])
SpellsFields IsExpr (field ∷ fields) founds start bytes =
    Both (SpellsField IsExpr field) (λ _. SpellsFields IsExpr fields) (λ x y. x ++ y) founds start bytes

-- ---- how an operator and an expression are spelled

-- each operand names an entry
abbrev pub AreNamed : (Operand → Bool) → List Operand → Type 0
AreNamed names [] = Unit {0}
AreNamed names (o ∷ operands) = (names o ≡ true) × AreNamed names operands

-- a code of the table, and its fields
pub record SpellsOp (c : ExprContext) (IsExpr : Spelling Expression) (founds : List FieldItem) (start : ℕ) (bytes : List ℕ) : Type 0 where
  pub code : ℕ
  pub rest : List ℕ
  pub parts : bytes ≡ code ∷ rest
  pub fields : List Field
  pub laid : fields_of (shape_of operator_rows code) ≡ Some fields
  pub spelled : SpellsFields IsExpr fields founds (start + 1) rest
  pub named : AreNamed c.names (operands_in founds)

-- operators in order
pub record ConsistsOf (Op : Spelling (List FieldItem)) (e : Expression) (start : ℕ) (bytes : List ℕ) : Type 0 where
  pub ops : List (List FieldItem)
  pub spelled : SpellsAll Op ops start bytes
  pub made : e ≡ expression_of start bytes ops

-- an expression, where at most so many may be one inside another
abbrev pub SpellsWithin : ExprContext → ℕ → Spelling Expression
SpellsWithin c zero e start bytes = ⊥
SpellsWithin c (suc k) e start bytes = ConsistsOf (SpellsOp c (SpellsWithin c k)) e start bytes

-- no more than 8 are inside another one
unfoldable pub most_inside : ℕ
most_inside = 8

abbrev pub SpellsExpr : ExprContext → Spelling Expression
SpellsExpr c = SpellsWithin c (suc most_inside)

-- ---- reading

abbrev pub or_fault : {X : Type 0} → Fault → Result X ByteErr → Result X Fault
or_fault f (Ok x) = Ok x
or_fault f (Err e) = Err f

-- reads an expression that has all the bytes, or answers the fault of that expression, or the given one where none may stand there
abbrev pub InsideReader : Type 0
InsideReader = Fault → Input → Result Expression Fault

abbrev pub seen_piece : {X : Type 0} → (ℕ → ℕ → X → List FieldItem) → ℕ → X × Input → Result (List FieldItem × Input) Fault
seen_piece seen at x = Ok (seen at (x.1.at - at) x.0, x.1)

abbrev pub piece_at : {X : Type 0} → Fault → (Input → Result (X × Input) ByteErr) → (ℕ → ℕ → X → List FieldItem) → Reader (List FieldItem)
piece_at bad read seen i = or_fault bad (read i) >>= seen_piece seen i.at

abbrev pub held : Input → Expression → Result (List FieldItem × Input) Fault
held j e = Ok (Holds e ∷ [], j)

abbrev pub inside_of : InsideReader → Fault → ℕ → List ℕ × Input → Result (List FieldItem × Input) Fault
inside_of inner bad at content = inner bad (record { at = at; rest = content.0 }) >>= held content.1

abbrev pub inside_at : InsideReader → Fault → ℕ × Input → Result (List FieldItem × Input) Fault
inside_at inner bad count = or_fault bad (take_at count.0 count.1) >>= inside_of inner bad count.1.at

abbrev pub field_at : InsideReader → Fault → Field → Reader (List FieldItem)
field_at inner bad (Run n) i = piece_at bad (take_at n) nothing i
field_at inner bad Unsigned i = piece_at bad uleb_at nothing i
field_at inner bad Signed i = piece_at bad sleb_at nothing i
field_at inner bad Sized i = piece_at bad (block_at (fixed_at 1)) nothing i
field_at inner bad Counted i = piece_at bad (block_at uleb_at) nothing i
field_at inner bad Located i = piece_at bad (fixed_at 8) an_address i
field_at inner bad LocatedBy i = piece_at bad uleb_at an_address i
field_at inner bad (Entry4 base) i = piece_at bad (fixed_at 4) (an_operand false base) i
field_at inner bad EntryUleb i = piece_at bad uleb_at (an_operand true FromUnit) i
field_at inner bad EntryOrGeneric i = piece_at bad uleb_at an_operand_or_generic i
field_at inner bad Inside i = or_fault bad (uleb_at i) >>= inside_at inner bad

unfoldable pub fields_at : InsideReader → Fault → List Field → Reader (List FieldItem)
fields_at inner bad [] i = Ok ([], i)
fields_at inner bad (field ∷ fields) i = both_at (field_at inner bad field) (λ _. fields_at inner bad fields) (λ x y. x ++ y) i

-- the first operand that names no entry
unfoldable pub first_unnamed : (Operand → Bool) → List Operand → Option Operand
first_unnamed names [] = None
first_unnamed names (o ∷ operands) = if names o then first_unnamed names operands else Some o

abbrev pub unless_unnamed : {X : Type 0} → ExprContext → X → Option Operand → Result X Fault
unless_unnamed c x None = Ok x
unless_unnamed c x (Some o) = Err (bad_operand c o.at)

-- operands are looked up once the operator is read
abbrev pub with_named_entries : ExprContext → List FieldItem × Input → Result (List FieldItem × Input) Fault
with_named_entries c x = unless_unnamed c x (first_unnamed c.names (operands_in x.0))

abbrev pub op_by : ExprContext → InsideReader → ℕ → ℕ → Option (List Field) → Reader (List FieldItem)
op_by c inner at code None i = Err (unsupported c at code)
op_by c inner at code (Some fields) i = fields_at inner (bad_expr c at) fields i >>= with_named_entries c

abbrev pub op_in : ExprContext → InsideReader → ℕ → List ℕ → Result (List FieldItem × Input) Fault
op_in c inner at [] = Err (bad_expr c at)
op_in c inner at (code ∷ rest) = op_by c inner at code (fields_of (shape_of operator_rows code)) (record { at = at + 1; rest = rest })

-- an operator with its operands
unfoldable pub op_at : ExprContext → InsideReader → Reader (List FieldItem)
op_at c inner i = op_in c inner i.at i.rest

abbrev pub expression_with : Input → List (List FieldItem) → Result Expression Fault
expression_with i ops = Ok (expression_of i.at i.rest ops)

unfoldable pub expr_within : ExprContext → ℕ → InsideReader
expr_within c zero bad i = Err bad
expr_within c (suc k) bad i = all_at (op_at c (expr_within c k)) i >>= expression_with i

-- an expression that has all the bytes
abbrev pub expr_at : ExprContext → Input → Result Expression Fault
expr_at c i = expr_within c (suc most_inside) (bad_expr c i.at) i

-- ---- why none is read

-- the bytes end before the field does, or a LEB128 number is too wide
abbrev pub IsCutOrWide : Field → List ℕ → Type 0
IsCutOrWide (Run n) bytes = AreFewer n bytes ⊎ ⊥
IsCutOrWide Unsigned bytes = IsCutShort bytes ⊎ IsTooBig groups_value fits_u64 bytes
IsCutOrWide Signed bytes = IsCutShort bytes ⊎ IsTooBig signed_value fits_i64 bytes
IsCutOrWide Sized bytes = IsBlockCut (SpellsFixed 1) (AreFewer 1) bytes ⊎ ⊥
IsCutOrWide Counted bytes = IsBlockCut SpellsUleb IsCutShort bytes ⊎ IsTooBig groups_value fits_u64 bytes
IsCutOrWide Located bytes = AreFewer 8 bytes ⊎ ⊥
IsCutOrWide LocatedBy bytes = IsCutShort bytes ⊎ IsTooBig groups_value fits_u64 bytes
IsCutOrWide (Entry4 base) bytes = AreFewer 4 bytes ⊎ ⊥
IsCutOrWide EntryUleb bytes = IsCutShort bytes ⊎ IsTooBig groups_value fits_u64 bytes
IsCutOrWide EntryOrGeneric bytes = IsCutShort bytes ⊎ IsTooBig groups_value fits_u64 bytes
IsCutOrWide Inside bytes = IsBlockCut SpellsUleb IsCutShort bytes ⊎ IsTooBig groups_value fits_u64 bytes

-- a ULEB128 number and as many bytes stand there, and these are no expression
pub record IsInsideFault (IsExprFault : FaultAt) (start : ℕ) (bytes : List ℕ) (f : Fault) : Type 0 where
  pub front : List ℕ
  pub content : List ℕ
  pub count : SpellsUleb front (length content)
  pub rest : List ℕ
  pub parts : bytes ≡ front ++ (content ++ rest)
  pub fault : IsExprFault (start + length front) content f

abbrev pub FaultInside : FaultAt → Field → FaultAt
FaultInside IsExprFault Inside start bytes f = IsInsideFault IsExprFault start bytes f
FaultInside IsExprFault _ start bytes f = ⊥

abbrev pub IsFieldFault : FaultAt → Fault → Field → FaultAt
IsFieldFault IsExprFault bad field start bytes f = ((f ≡ bad) × IsCutOrWide field bytes) ⊎ FaultInside IsExprFault field start bytes f

-- the first field that isn't spelled has that fault
abbrev pub IsFieldsFault : Spelling Expression → FaultAt → Fault → List Field → FaultAt
IsFieldsFault IsExpr IsExprFault bad [] start bytes f = ⊥
IsFieldsFault IsExpr IsExprFault bad (field ∷ fields) start bytes f =
    IsFieldFault IsExprFault bad field start bytes f ⊎ Behind (SpellsField IsExpr field) (λ _. IsFieldsFault IsExpr IsExprFault bad fields)
    start bytes f

-- that operand is the first that names no entry
abbrev pub IsFirstUnnamed : (Operand → Bool) → List Operand → Operand → Type 0
IsFirstUnnamed names [] o = ⊥
IsFirstUnnamed names (p ∷ operands) o = ((names p ≡ false) × (o ≡ p)) ⊎ ((names p ≡ true) × IsFirstUnnamed names operands o)

-- the fields are spelled, and an operand names no entry
pub record IsUnnamed (c : ExprContext) (IsExpr : Spelling Expression) (fields : List Field) (start : ℕ) (bytes : List ℕ) (f : Fault) : Type
    0 where
  pub founds : List FieldItem
  pub front : List ℕ
  pub spelled : SpellsFields IsExpr fields founds start front
  pub rest : List ℕ
  pub parts : bytes ≡ front ++ rest
  pub operand : Operand
  pub first : IsFirstUnnamed c.names (operands_in founds) operand
  pub placed : f ≡ bad_operand c operand.at

-- the operator with that code isn't read: it has no fields, or the first of them that isn't spelled has the fault, or else an operand
-- names no entry
abbrev pub IsLaidFault : ExprContext → Spelling Expression → (Fault → FaultAt) → ℕ → ℕ → Option (List Field) → FaultAt
IsLaidFault c IsExpr IsExprFault at code None start bytes f = f ≡ unsupported c at code
IsLaidFault c IsExpr IsExprFault at code (Some fields) start bytes f =
    IsFieldsFault IsExpr (IsExprFault (bad_expr c at)) (bad_expr c at) fields start bytes f ⊎ IsUnnamed c IsExpr fields start bytes f

abbrev pub IsOpFault : ExprContext → Spelling Expression → (Fault → FaultAt) → FaultAt
IsOpFault c IsExpr IsExprFault start [] f = f ≡ bad_expr c start
IsOpFault c IsExpr IsExprFault start (code ∷ rest) f = IsLaidFault c IsExpr IsExprFault start code (fields_of (shape_of operator_rows code))
    (start + 1) rest f

-- operators stand there, and the one behind them isn't read; where no expression may stand, the operator that has it is at fault
abbrev pub IsFaultWithin : ExprContext → ℕ → Fault → FaultAt
IsFaultWithin c zero bad start bytes f = f ≡ bad
IsFaultWithin c (suc k) bad start bytes f =
    BehindItems (SpellsOp c (SpellsWithin c k)) (WithBytes (IsOpFault c (SpellsWithin c k) (IsFaultWithin c k))) start bytes f

abbrev pub IsExprFault : ExprContext → FaultAt
IsExprFault c start bytes f = IsFaultWithin c (suc most_inside) (bad_expr c start) start bytes f

-- ---- what an expression means: its bytes, cut where entries are named

unfoldable pub parts_from : ℕ → List ℕ → List Operand → List Part
parts_from at bytes [] = Same bytes ∷ []
parts_from at bytes (o ∷ operands) =
    Same (take (o.at - at) bytes) ∷ document.Operand o.width o.uleb o.base ∷ parts_from (o.at + o.width) (drop (o.at + o.width - at) bytes)
    operands

abbrev pub parts_of : Expression → List Part
parts_of e = parts_from e.at e.bytes e.operands
