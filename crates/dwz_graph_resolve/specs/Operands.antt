-- Operands of expressions, and the entries that they name.
use Rattle.std.specs.Prelude.{◌≡◌, ℕ, ◌<◌, Bool, true, false, List, [], ◌++◌, map, Option, Some, None, Result, Ok, Err}
use Rattle.dwz_model.specs.declared.fault.Fault.{Fault}
use Rattle.dwz_model.specs.declared.fault.ReadErr.{ReadErr}
use Rattle.dwz_model.specs.declared.fault.ReadErr.TheVariants.{NoMemory, Refused}
use Rattle.dwz_def_reading.specs.Units.{RawUnit, entries_in}
use Rattle.dwz_def_reading.specs.declared.exprs.Operand.{Operand}
use Rattle.dwz_def_reading.specs.Exprs.{bad_operand, expr_at, first_unnamed}
use Rattle.dwz_def_reading.specs.Meanings.{MeaningContext, entries_for, expr_context, has, target_of}
use Rattle.dwz_def_reading.specs.Meant.{expr_said}
use Rattle.dwz_def_reading.specs.Input.{Input}
use Rattle.dwz_def_reading.specs.Reading.{◌>>=◌}
use Rattle.dwz_graph_resolve.specs.Named.{Found, found_in, map_ok}
use Rattle.dwz_graph_resolve.specs.Resolved.{AreEntries, place_at}

abbrev pub is_named : MeaningContext ℕ → Operand → Bool
is_named s o = has (target_of s o) (entries_for s o.base)

-- the number of the entry that the operand names, or that it names none
abbrev pub LooksUp : List RawUnit → MeaningContext ℕ → Operand → Option ℕ → Type 0
LooksUp raw s o (Some i) = (i < entries_in raw) × (place_at raw i ≡ target_of s o) × (is_named s o ≡ true)
LooksUp raw s o None = is_named s o ≡ false

-- the first of the operands that names no entry
pub record IsUnnamed (s : MeaningContext ℕ) (section : ℕ) (operands : List Operand) (f : Fault) : Type 0 where
  pub operand : Operand
  pub first : first_unnamed (is_named s) operands ≡ Some operand
  pub placed : f ≡ bad_operand (expr_context s section) operand.at

-- each operand names an entry, whose numbers were added
pub record AreNumbers (raw : List RawUnit) (s : MeaningContext ℕ) (operands : List Operand) (old new : List ℕ) : Type 0 where
  pub more : List ℕ
  pub refs : new ≡ old ++ more
  pub within : AreEntries raw more
  pub places : map (place_at raw) more ≡ map (target_of s) operands
  pub named : first_unnamed (is_named s) operands ≡ None

abbrev pub NamesAll : {Y : Type 0} → List RawUnit → MeaningContext ℕ → ℕ → List Operand → List ℕ → List ℕ → Result Y ReadErr → Type 0
NamesAll raw s section operands old new (Ok y) = AreNumbers raw s operands old new
NamesAll raw s section operands old new (Err NoMemory) = Unit {0}
NamesAll raw s section operands old new (Err (Refused f)) = IsUnnamed s section operands f

-- memory ran out
abbrev pub lacks_memory : {X : Type 0} → Result X ReadErr → Bool
lacks_memory (Err NoMemory) = true
lacks_memory _ = false

-- what the expression of a unit names whose place and bytes these are
abbrev pub expr_named : MeaningContext ℕ → Input → Result Found Fault
expr_named s i = map_ok (found_in []) (expr_at (expr_context s 1) i >>= expr_said s)
