-- A location list entry by entry.
use Rattle.std.specs.Prelude.{◌≡◌, ℕ, ◌+◌, ◌<◌, ◌≤◌, List, [], ◌++◌, length, Option, Some, None, Result, Ok, Err}
use Rattle.dwz_model.specs.declared.fault.Fault.{Fault}
use Rattle.dwz_model.specs.declared.fault.ReadErr.{ReadErr}
use Rattle.dwz_model.specs.declared.fault.ReadErr.TheVariants.{NoMemory, Refused}
use Rattle.dwz_bytes.specs.Reading.{◌>>=◌}
use Rattle.dwz_def_reading.specs.declared.exprs.Operand.{Operand}
use Rattle.dwz_def_reading.specs.Exprs.{ExprContext, Expression}
use Rattle.dwz_def_reading.specs.Lists.{In}
use Rattle.dwz_def_reading.specs.LocLists.{LocList, list_at}
use Rattle.dwz_def_reading.specs.Sequences.{read_from}
use Rattle.dwz_def_reading.specs.Shared.{operands_of}
use Rattle.dwz_expr.specs.FirstFault.{asked}

-- the list with these expressions before its own
abbrev pub with_before : List Expression → LocList → Result LocList Fault
with_before exprs l = Ok (record { exprs = exprs ++ l.exprs; end = l.end })

-- An entry stands at a place, and these operands of its expression are looked up: the list is that entry, and the list that begins
-- behind it. Each operand ends before that list begins, or there.
pub record IsEntry (section : List ℕ) (place : ℕ) (operands : List Operand) (next : ℕ) : Type 0 where
  pub exprs : List Expression
  pub has : operands_of exprs ≡ operands
  pub rises : place < next
  pub within : next ≤ length section
  pub inside : (o : Operand) → In o operands → o.at + o.width ≤ next
  pub leads : (c : ExprContext) → c.section ≡ 7 → read_from (list_at c) section place
      ≡ asked c operands (read_from (list_at c) section next >>= with_before exprs)

-- the list ends there
abbrev pub IsEnd : List ℕ → ℕ → Type 0
IsEnd section place = (place < length section) × ((c : ExprContext)
    → read_from (list_at c) section place ≡ Ok (record { exprs = []; end = place + 1 }))

-- an entry up to a place, or the end, or the fault of layout; the operands are those that are looked up before
abbrev pub ReadsEntry : List ℕ → ℕ → List Operand → Result (Option ℕ) ReadErr → Type 0
ReadsEntry section place operands (Ok (Some next)) = IsEntry section place operands next
ReadsEntry section place operands (Ok None) = (operands ≡ []) × IsEnd section place
ReadsEntry section place operands (Err NoMemory) = Unit {0}
ReadsEntry section place operands (Err (Refused f)) = (c : ExprContext) → c.section ≡ 7
    → read_from (list_at c) section place ≡ asked c operands (Err f)
