-- Inner: what is answered of the bytes of a file without its partial units.
use Rattle.std.specs.Prelude.{◌≡◌, ℕ, List, Result, Ok, Err}
use Rattle.dwz_model.specs.declared.fault.Fault.{Fault}
use Rattle.dwz_model.specs.declared.fault.GraphErr.{GraphErr}
use Rattle.dwz_model.specs.declared.fault.GraphErr.TheVariants.{NoMemory, Refused}
use Rattle.dwz_def_output.specs.Refusals.{InFile}
use Rattle.dwz_def_expand.specs.OneFile.{OneFile}
use Rattle.dwz_def_expand.specs.Output.{new_sections}
use Rattle.dwz_def_expand.specs.NewFile.{FileFault, expanded_bytes}

-- they are those of the new file, which has no fault as a whole; or it has one, and is refused with it
abbrev pub AnswersNew : {A : Type 0} → OneFile → (A → List ℕ) → Result A GraphErr → Type 0
AnswersNew f items (Ok out) = ((x : Fault) → ¬ FileFault f.file.bytes (new_sections f) x) × (items out ≡ expanded_bytes f)
AnswersNew f items (Err (Refused q)) = InFile (λ file. FileFault f.file.bytes (new_sections f)) 0 q
AnswersNew f items (Err NoMemory) = Unit {0}
