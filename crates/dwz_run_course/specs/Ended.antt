-- Inner: the status and the text of each end.
use Rattle.std.specs.Prelude.{◌≡◌, ℕ, List}
use Rattle.dwz_run_course.specs.declared.saying.Ended.{Ended}
use Rattle.dwz_run_course.specs.declared.saying.Ended.TheVariants.{AllPut, Differed, PartlyPut, WasRefused, NotLawful, NotGot, NotPut, OutOfMemory}
use Rattle.dwz_run_course.specs.declared.status.Status.{Status}
use Rattle.dwz_run_course.specs.declared.status.Status.TheVariants.{Done, Refused, Usage, ReadFault, WriteFault, NoMemory, ConsoleFault, Partly, Differs}
use Rattle.dwz_report.specs.Texts.{memory_text, usage_text}

abbrev pub status_of : Ended → Status
status_of (AllPut text) = Done
status_of (Differed text) = Differs
status_of (PartlyPut text) = Partly
status_of (WasRefused text) = Refused
status_of NotLawful = Usage
status_of (NotGot text) = ReadFault
status_of (NotPut text) = WriteFault
status_of OutOfMemory = NoMemory

abbrev pub text_of : Ended → List ℕ
text_of (AllPut text) = text
text_of (Differed text) = text
text_of (PartlyPut text) = text
text_of (WasRefused text) = text
text_of NotLawful = usage_text
text_of (NotGot text) = text
text_of (NotPut text) = text
text_of OutOfMemory = memory_text

-- the status where the console failed
abbrev pub unsaid : Status → Status
unsaid Done = ConsoleFault
unsaid Differs = ConsoleFault
unsaid Partly = ConsoleFault
unsaid status = status

-- it ends with this status, and says this, unless memory ran out
abbrev pub IsSaid : Ended → Status → List ℕ → Type 0
IsSaid OutOfMemory status text = Unit {0}
IsSaid e status text = (status_of e ≡ status) × (text_of e ≡ text)
