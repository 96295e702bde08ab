-- Inner: what refuses all of many files over a finished common file, and what may be said of each.
use Rattle.std.specs.Prelude.{◌≡◌, ◌≤◌, All, ℕ, List, Result, Ok, Err}
use Rattle.dwz_model.specs.declared.fault.GraphErr.{GraphErr}
use Rattle.dwz_model.specs.declared.fault.GraphErr.TheVariants.{NoMemory, Refused}
use Rattle.dwz_model.specs.declared.fault.Reason.TheVariants.{FileSize}
use Rattle.dwz_model.specs.declared.fault.Refusal.{Refusal}
use Rattle.dwz_def_reading.specs.ElfFaults.{file_fault}
use Rattle.dwz_def_reading.specs.Finished.{refusal_of}
use Rattle.dwz_batch.specs.declared.job.Outcome.{Outcome}
use Rattle.dwz_batch.specs.declared.job.Outcome.TheVariants.{Refused as RefusedJob}
use Rattle.dwz_def_run.specs.Batches.{FileGot, IsPast}

-- the one holds, or a refusal is of this kind, and of a section; want of memory is always an answer
abbrev pub HoldsOrRefused : Type 0 → (Refusal → Type 0) → Result (Unit {0}) GraphErr → Type 0
HoldsOrRefused Holds Is (Ok u) = Holds
HoldsOrRefused Holds Is (Err (Refused q)) = Is q × (q.section ≤ 9)
HoldsOrRefused Holds Is (Err NoMemory) = Unit {0}

-- with the file of that number there are more bytes than all may have
abbrev pub IsTooMany : List ℕ → List FileGot → Refusal → Type 0
IsTooMany common files q = (number : ℕ) × IsPast common files number × (q ≡ refusal_of number (file_fault FileSize 0))

-- a refusal of a job is of a section
abbrev pub IsOfSection : Outcome → Type 0
IsOfSection outcome = (q : Refusal) → outcome ≡ RefusedJob q → q.section ≤ 9

abbrev pub AreOfSections : List Outcome → Type 0
AreOfSections outcomes = All IsOfSection outcomes
