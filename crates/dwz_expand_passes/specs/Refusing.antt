-- Inner: The first fault of what is looked at in order.
use Rattle.std.specs.Prelude.{Result, Ok, Err}
use Rattle.dwz_model.specs.declared.fault.Fault.{Fault}
use Rattle.dwz_model.specs.declared.fault.ReadErr.{ReadErr}
use Rattle.dwz_model.specs.declared.fault.ReadErr.TheVariants.{NoMemory, Refused}

-- a call answers the fault that there is, or there is none
abbrev pub FirstIs : {Y : Type 0} → (Fault → Type 0) → Result Y ReadErr → Type 0
FirstIs Has (Ok y) = (f : Fault) → ¬ Has f
FirstIs Has (Err NoMemory) = Unit {0}
FirstIs Has (Err (Refused f)) = Has f
