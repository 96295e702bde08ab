-- What reading an expression gathers, step by step. An inner definition: proofs show that it gives what `expr_at` does.
use Rattle.std.specs.Prelude.{◌≡◌, ℕ, zero, suc, ◌+◌, ◌-◌, Bool, true, false, List, [], ◌∷◌, ◌++◌, length, drop, Option, Some, None, Result}
use Rattle.std.specs.Prelude.{Ok, Err, ◌==◌, ◌||◌, if◌then◌else◌}
use Rattle.dwz_model.specs.declared.fault.Fault.{Fault}
use Rattle.dwz_model.specs.declared.fault.ReadErr.{ReadErr}
use Rattle.dwz_model.specs.declared.fault.ReadErr.TheVariants.{NoMemory, Refused}
use Rattle.dwz_model.specs.declared.place.Base.{Base}
use Rattle.dwz_model.specs.declared.place.Base.TheVariants.{Unit as FromUnit}
use Rattle.dwz_bytes.specs.Input.{Input}
use Rattle.dwz_bytes.specs.Reading.{◌>>=◌, fixed_at, sleb_at, take_at, uleb_at}
use Rattle.dwz_def_reading.specs.declared.exprs.Operand.{Operand}
use Rattle.dwz_def_reading.specs.Exprs.{Counted, Entry4, EntryOrGeneric, EntryUleb, ExprContext, Field, FieldItem, Inside, Located}
use Rattle.dwz_def_reading.specs.Exprs.{LocatedBy, Run}
use Rattle.dwz_def_reading.specs.Exprs.{Signed, Sized, Unsigned, any_address, any_operands, bad_expr, expr_within, joined_items, op_at}
use Rattle.dwz_def_reading.specs.Exprs.{operands_in}
use Rattle.dwz_def_reading.specs.Exprs.{or_fault, unsupported}
use Rattle.dwz_def_reading.specs.Sequences.{all_at}
use Rattle.dwz_expr.specs.FirstFault.{asked}

-- the same place, where the bytes begin at another one
abbrev pub shift : ℕ → Input → Input
shift start i = record { at = start + i.at; rest = i.rest }

-- the operands so far, and whether there was an address
pub record Gathered : Type 0 where
  pub operands : List Operand
  pub address : Bool

abbrev pub gathered : List Operand → Bool → Gathered
gathered operands address = record { operands = operands; address = address }

abbrev pub gather : Gathered → List FieldItem → Gathered
gather g founds = record { operands = g.operands ++ operands_in founds; address = g.address || any_address founds }

-- ---- fields

abbrev pub unchanged : {X : Type 0} → Gathered → X × Input → Result (Gathered × Input) Fault
unchanged g x = Ok (g, x.1)

abbrev pub located : {X : Type 0} → Gathered → X × Input → Result (Gathered × Input) Fault
located g x = Ok (record { operands = g.operands; address = true }, x.1)

abbrev pub operand_of : Bool → Base → ℕ → ℕ × Input → Operand
operand_of uleb base at x = record { at = at; width = x.1.at - at; uleb = uleb; base = base; number = x.0 }

abbrev pub as_operand : Bool → Base → ℕ → ℕ × Input → Result (Operand × Input) Fault
as_operand uleb base at x = Ok (operand_of uleb base at x, x.1)

abbrev pub with_operand : Gathered → Operand × Input → Result (Gathered × Input) Fault
with_operand g o = Ok (record { operands = g.operands ++ o.0 ∷ []; address = g.address }, o.1)

abbrev pub with_some : Gathered → ℕ → ℕ × Input → Result (Gathered × Input) Fault
with_some g at x = if x.0 == 0 then Ok (g, x.1) else with_operand g (operand_of true FromUnit at x, x.1)

-- an operand of four bytes, or a ULEB128 one
abbrev pub operand4_at : Fault → Base → Input → Result (Operand × Input) Fault
operand4_at bad base i = or_fault bad (fixed_at 4 i) >>= as_operand false base i.at

abbrev pub operand_uleb_at : Fault → Input → Result (Operand × Input) Fault
operand_uleb_at bad i = or_fault bad (uleb_at i) >>= as_operand true FromUnit i.at

abbrev pub run_of : Fault → ℕ × Input → Result (List ℕ × Input) Fault
run_of bad n = or_fault bad (take_at n.0 n.1)

-- a ULEB128 number or a byte, and as many bytes
abbrev pub counted_at : Fault → Input → Result (List ℕ × Input) Fault
counted_at bad i = or_fault bad (uleb_at i) >>= run_of bad

abbrev pub sized_at : Fault → Input → Result (List ℕ × Input) Fault
sized_at bad i = or_fault bad (fixed_at 1 i) >>= run_of bad

-- a field in which no expression stands, of which what it holds is gathered
abbrev pub field_into : Fault → Field → Gathered → Input → Result (Gathered × Input) Fault
field_into bad (Run n) g i = or_fault bad (take_at n i) >>= unchanged g
field_into bad Unsigned g i = or_fault bad (uleb_at i) >>= unchanged g
field_into bad Signed g i = or_fault bad (sleb_at i) >>= unchanged g
field_into bad Sized g i = sized_at bad i >>= unchanged g
field_into bad Counted g i = counted_at bad i >>= unchanged g
field_into bad Located g i = or_fault bad (fixed_at 8 i) >>= located g
field_into bad LocatedBy g i = or_fault bad (uleb_at i) >>= located g
field_into bad (Entry4 base) g i = operand4_at bad base i >>= with_operand g
field_into bad EntryUleb g i = operand_uleb_at bad i >>= with_operand g
field_into bad EntryOrGeneric g i = or_fault bad (uleb_at i) >>= with_some g i.at
field_into bad Inside g i = Err bad

unfoldable pub fields_into : Fault → List Field → Gathered → Input → Result (Gathered × Input) Fault
fields_into bad [] g i = Ok (g, i)
fields_into bad (field ∷ fields) g i = field_into bad field g i >>= λ x. fields_into bad fields x.0 x.1

-- ---- operators

-- an operator behind its code
abbrev pub op_into : ℕ → ℕ → ℕ → Option (List Field) → Gathered → Input → Result (Gathered × Input) Fault
op_into section at code None g i = Err (unsupported (any_operands section) at code)
op_into section at code (Some fields) g i = fields_into (bad_expr (any_operands section) at) fields g i

abbrev pub gather_ops : Gathered → List (List FieldItem) → Result Gathered Fault
gather_ops g ops = Ok (gather g (joined_items ops))

-- operators up to the end of the bytes
unfoldable pub ops_into : ExprContext → ℕ → Gathered → Input → Result Gathered Fault
ops_into c k g i = all_at (op_at c (expr_within c k)) i >>= gather_ops g

-- an expression inside another one, where so many may be inside it in turn, or none may stand there
abbrev pub inside_into : ExprContext → ℕ → Fault → Gathered → Input → Result Gathered Fault
inside_into c zero bad g i = Err bad
inside_into c (suc k) bad g i = ops_into c k g i

-- an expression behind its length
abbrev pub behind_content : Input → Gathered → Result (Gathered × Input) Fault
behind_content j g = Ok (g, j)

abbrev pub content_into : ExprContext → ℕ → Fault → Gathered → ℕ → List ℕ × Input → Result (Gathered × Input) Fault
content_into c k bad g at x = inside_into c k bad g (record { at = at; rest = x.0 }) >>= behind_content x.1

abbrev pub counted_into : ExprContext → ℕ → Fault → Gathered → ℕ × Input → Result (Gathered × Input) Fault
counted_into c k bad g n = run_of bad n >>= content_into c k bad g n.1.at

abbrev pub nested_into : ExprContext → ℕ → Fault → Gathered → Input → Result (Gathered × Input) Fault
nested_into c k bad g i = or_fault bad (uleb_at i) >>= counted_into c k bad g

-- ---- what a call gathers and answers

-- the operands that were put behind others
abbrev pub added : List Operand → List Operand → List Operand
added old new = drop (length old) new

-- the others are as they were
abbrev pub Grows : List Operand → List Operand → Type 0
Grows old new = new ≡ old ++ added old new

-- in each context, what was answered, unless one of these operands names no entry
abbrev pub InEach : {X : Type 0} → ℕ → (ExprContext → Result X Fault) → List Operand → Result X Fault → Type 0
InEach section read operands answer = (c : ExprContext) → c.section ≡ section → read c ≡ asked c operands answer

abbrev pub Stopped : {X : Type 0} → ℕ → (ExprContext → Result X Fault) → List Operand → ReadErr → Type 0
Stopped section read operands NoMemory = Unit {0}
Stopped section read operands (Refused f) = InEach section read operands (Err f)

abbrev pub Gathers : {X : Type 0} → ℕ → (ExprContext → Result X Fault) → List Operand → X → Result (Unit {0}) ReadErr → Type 0
Gathers section read operands x (Ok u) = InEach section read operands (Ok x)
Gathers section read operands x (Err e) = Stopped section read operands e
