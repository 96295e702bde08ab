-- Which fault of an expression is the first, where its operands are known and what names an entry isn't.
use Rattle.std.specs.Prelude.{◌≡◌, ℕ, Bool, List, Option, Some, None, Result, Ok, Err}
use Rattle.dwz_model.specs.declared.fault.Fault.{Fault}
use Rattle.dwz_model.specs.declared.fault.ReadErr.{ReadErr}
use Rattle.dwz_model.specs.declared.fault.ReadErr.TheVariants.{NoMemory, Refused}
use Rattle.dwz_bytes.specs.Input.{Input}
use Rattle.dwz_def_reading.specs.declared.exprs.Operand.{Operand}
use Rattle.dwz_def_reading.specs.Exprs.{ExprContext, any_operands, bad_operand, expr_at, first_unnamed}

abbrev pub unless_one : {X : Type 0} → ExprContext → Result X Fault → Option Operand → Result X Fault
unless_one c answer None = answer
unless_one c answer (Some o) = Err (bad_operand c o.at)

-- an answer, unless one of these operands names no entry: then the first of these is a bad operand
abbrev pub asked : {X : Type 0} → ExprContext → List Operand → Result X Fault → Result X Fault
asked c operands answer = unless_one c answer (first_unnamed c.names operands)

-- These operands are looked up, in this order, before it is answered what is where each of them names an entry. So whichever operands
-- do, the first of these that doesn't is the fault, and else it is that answer, a fault of layout or an expression.
abbrev pub AreAsked : ℕ → Input → List Operand → Type 0
AreAsked section i operands = (c : ExprContext) → c.section ≡ section → expr_at c i ≡ asked c operands (expr_at (any_operands section) i)

-- an expression with these operands, of which it is known whether it has an address, or the fault of layout; the operands are those that
-- are looked up before
abbrev pub ReadsInto : ℕ → Input → List Operand → Result Bool ReadErr → Type 0
ReadsInto section i operands (Ok address) =
    (expr_at (any_operands section) i ≡ Ok (record { at = i.at; bytes = i.rest; operands = operands; address = address }))
    × AreAsked section i operands
ReadsInto section i operands (Err NoMemory) = Unit {0}
ReadsInto section i operands (Err (Refused f)) = (expr_at (any_operands section) i ≡ Err f) × AreAsked section i operands

-- where each of them names an entry
abbrev pub AllNamed : Type 0
AllNamed = (section : ℕ) (i : Input) (operands : List Operand) → AreAsked section i operands
    → (c : ExprContext) → c.section ≡ section → first_unnamed c.names operands ≡ None → expr_at c i ≡ expr_at (any_operands section) i

-- where one doesn't, and those before it do
abbrev pub OneUnnamed : Type 0
OneUnnamed = (section : ℕ) (i : Input) (operands : List Operand) → AreAsked section i operands
    → (c : ExprContext) → c.section ≡ section → (o : Operand) → first_unnamed c.names operands ≡ Some o
    → expr_at c i ≡ Err (bad_operand c o.at)
