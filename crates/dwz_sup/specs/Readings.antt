-- What reading `.debug_sup` answers.
use Rattle.std.specs.Prelude.{◌≡◌, Option, Some, None, Result, Ok, Err}
use Rattle.dwz_model.specs.declared.fault.Fault.{Fault}
use Rattle.dwz_model.specs.declared.fault.Reason.TheVariants.{BadSup}
use Rattle.dwz_model.specs.declared.fault.ReadErr.{ReadErr}
use Rattle.dwz_model.specs.declared.fault.ReadErr.TheVariants.{Refused, NoMemory}
use Rattle.dwz_def_reading.specs.declared.supplementary.Sup.{Sup}
use Rattle.dwz_sup.specs.declared.reading.SupRef.{SupRef}

-- what a section says, of which the bytes lie in the section
abbrev pub sup_seen : SupRef → Sup
sup_seen s = record { supplementary = s.supplementary; name = s.name.now; sum = s.sum.now }

-- the fault of a section that says nothing, in `.debug_sup` (9) at 0
abbrev pub bad_sup : Fault
bad_sup = record { section = 9; at = 0; reason = BadSup }

-- What was answered is what the section says. A refusal is where it says nothing. Want of memory is always an answer.
abbrev pub ReadsSup : Result Sup ReadErr → Option Sup → Type 0
ReadsSup (Ok s) said = said ≡ Some s
ReadsSup (Err (Refused f)) said = (said ≡ None) × (f ≡ bad_sup)
ReadsSup (Err NoMemory) said = Unit {0}
