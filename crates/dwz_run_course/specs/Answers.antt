-- Inner: what an answer of the work says.
use Rattle.std.specs.Prelude.{◌≤◌, Result, Ok, Err}
use Rattle.dwz_model.specs.declared.fault.GraphErr.{GraphErr}
use Rattle.dwz_model.specs.declared.fault.GraphErr.TheVariants.{NoMemory, Refused}
use Rattle.dwz_run_course.specs.declared.output.Output.{Output}
use Rattle.dwz_run_course.specs.declared.output.Said.{Said}
use Rattle.dwz_run_course.specs.declared.output.Said.TheVariants.{Parts, Slimmed}
use Rattle.dwz_run_course.specs.Demo.{HasLengths}
use Rattle.dwz_run_course.specs.Outcome.{Outcome, refuses, writes}

-- the lengths of a summary are numbers of 64 bits
abbrev pub CanBeSaid : Said → Type 0
CanBeSaid (Slimmed summary partials) = HasLengths summary
CanBeSaid (Parts parts) = Unit {0}

-- an output or a refusal is what the work gives, and a refusal is of a section; want of memory is always an answer
abbrev pub IsAnswer : (Outcome → Type 0) → Result Output GraphErr → Type 0
IsAnswer Is (Ok out) = Is (writes out) × CanBeSaid out.said
IsAnswer Is (Err (Refused r)) = Is (refuses r) × (r.section ≤ 9)
IsAnswer Is (Err NoMemory) = Unit {0}
