-- Which fault of a location list is the first, where the operands of its expressions are known and what names an entry isn't.
use Rattle.std.specs.Prelude.{◌≡◌, ℕ, List, Result, Ok, Err}
use Rattle.dwz_model.specs.declared.fault.ReadErr.{ReadErr}
use Rattle.dwz_model.specs.declared.fault.ReadErr.TheVariants.{NoMemory, Refused}
use Rattle.dwz_def_reading.specs.declared.exprs.Operand.{Operand}
use Rattle.dwz_def_reading.specs.Exprs.{ExprContext}
use Rattle.dwz_def_reading.specs.LocLists.{LocList, list_at}
use Rattle.dwz_def_reading.specs.Sequences.{read_from}
use Rattle.dwz_def_reading.specs.Shared.{operands_of}
use Rattle.dwz_expr.specs.FirstFault.{asked}
use Rattle.dwz_lists.specs.Gathering.{in_lists}

-- These operands are looked up, in this order, before it is answered what is where each of them names an entry: so the first of these
-- that doesn't is the fault, and else it is that answer, a list or a fault of layout.
abbrev pub AreAsked : List ℕ → ℕ → List Operand → Type 0
AreAsked section place operands = (c : ExprContext) → c.section ≡ 7
    → read_from (list_at c) section place ≡ asked c operands (read_from (list_at in_lists) section place)

-- a list, which ends there and whose expressions have these operands
pub record IsListOf (section : List ℕ) (place : ℕ) (operands : List Operand) (end : ℕ) : Type 0 where
  pub list : LocList
  pub read : read_from (list_at in_lists) section place ≡ Ok list
  pub ends : list.end ≡ end
  pub has : operands_of list.exprs ≡ operands

-- such a list, or the fault of layout; the operands are those that are looked up before
abbrev pub WalksInto : List ℕ → ℕ → List Operand → Result ℕ ReadErr → Type 0
WalksInto section place operands (Ok end) = IsListOf section place operands end × AreAsked section place operands
WalksInto section place operands (Err NoMemory) = Unit {0}
WalksInto section place operands (Err (Refused f)) = (read_from (list_at in_lists) section place ≡ Err f) × AreAsked section place operands
