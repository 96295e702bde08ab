-- The new file, or what refuses it.
use Rattle.std.specs.Prelude.{◌≡◌, ℕ, List, Result, Ok, Err}
use Rattle.dwz_model.specs.declared.fault.Fault.{Fault}
use Rattle.dwz_model.specs.declared.fault.ReadErr.{ReadErr}
use Rattle.dwz_model.specs.declared.fault.ReadErr.TheVariants.{NoMemory, Refused}
use Rattle.dwz_model.specs.declared.sections.Sections.{Sections}
use Rattle.dwz_def_expand.specs.NewFile.{FileFault, file_with}

-- A file with these bytes has no fault, and is written so with its new sections; or it is refused with its fault. Want of memory is always an
-- answer.
abbrev pub AnswersFile : {A : Type 0} → (A → List ℕ) → List ℕ → Sections → Result A ReadErr → Type 0
AnswersFile items input s (Ok out) = ((x : Fault) → ¬ FileFault input s x) × (items out ≡ file_with input s)
AnswersFile items input s (Err (Refused x)) = FileFault input s x
AnswersFile items input s (Err NoMemory) = Unit {0}
