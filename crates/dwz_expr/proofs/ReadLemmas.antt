-- What is gathered of a whole expression.
use Rattle.std.proofs.Common.{◌≡◌, ℕ, false, List, [], Result, Ok, Err, refl, sym, ap, ◌∙◌}
use Rattle.dwz_model.specs.declared.fault.Fault.{Fault}
use Rattle.dwz_bytes.specs.Input.{Input}
use Rattle.dwz_bytes.specs.Reading.{◌>>=◌}
use Rattle.dwz_def_reading.specs.declared.exprs.Operand.{Operand}
use Rattle.dwz_def_reading.specs.Exprs.{ExprContext, Expression, FieldItem, any_operands, expr_at, expr_within, expression_with, most_inside, op_at}
use Rattle.dwz_def_reading.specs.Sequences.{all_at}
use Rattle.dwz_model.specs.declared.fault.ReadErr.{ReadErr}
use Rattle.dwz_model.specs.declared.fault.ReadErr.TheVariants.{NoMemory, Refused}
use Rattle.dwz_def_reading.specs.Faults.{Fails}
use Rattle.dwz_expr.specs.FirstFault.{AreAsked, ReadsInto, asked}
use Rattle.dwz_expr.specs.Gathering.{Gathered, InEach, gather_ops, gathered, ops_into}
use Rattle.dwz_expr.proofs.AskedLemmas.{asked_any, asked_bind}

-- an expression, from what was gathered
abbrev pub expression_from : Input → Gathered → Result Expression Fault
expression_from i g = Ok (record { at = i.at; bytes = i.rest; operands = g.operands; address = g.address })

read_is : (c : ExprContext) (i : Input) → expr_at c i ≡ (ops_into c 8 (gathered [] false) i >>= expression_from i)
unfolding expr_within most_inside ops_into
read_is c i = go (all_at (op_at c (expr_within c 8)) i) where
  go : (r : Result (List (List FieldItem)) Fault) → (r >>= expression_with i) ≡ ((r >>= gather_ops (gathered [] false)) >>= expression_from i)
  go (Ok ops) = refl
  go (Err f) = refl

-- in each context it is answered what is answered where nothing is asked, unless an operand names no entry
module _ (section : ℕ) (i : Input) (operands : List Operand) (answer : Result Gathered Fault) (each : InEach section (λ c. ops_into c 8 (gathered [] false) i) operands answer) where
  in_context : (c : ExprContext) → c.section ≡ section → expr_at c i ≡ asked c operands (answer >>= expression_from i)
  in_context c e = read_is c i ∙ ap (λ (r : Result Gathered Fault). r >>= expression_from i) (each c e) ∙ asked_bind c operands answer (expression_from i)

  pub where_any : expr_at (any_operands section) i ≡ (answer >>= expression_from i)
  where_any = in_context (any_operands section) refl ∙ asked_any section operands (answer >>= expression_from i)

  pub are_asked : AreAsked section i operands
  are_asked c e = in_context c e ∙ ap (asked c operands) (sym where_any)

pub reads_fails : (section : ℕ) (i : Input) (operands : List Operand) (e : ReadErr) → Fails e (expr_at (any_operands section) i) → AreAsked section i operands → ReadsInto section i operands (Err e)
reads_fails section i operands NoMemory is asks = tt
reads_fails section i operands (Refused f) is asks = (is, asks)
