-- What is answered where files are refused or memory runs out.
use Rattle.std.specs.Prelude.{◌≡◌, ℕ, List, Result, Ok, Err}
use Rattle.dwz_model.specs.declared.fault.GraphErr.{GraphErr}
use Rattle.dwz_model.specs.declared.fault.GraphErr.TheVariants.{NoMemory, Refused}
use Rattle.dwz_model.specs.declared.fault.Refusal.{Refusal}
use Rattle.dwz_def_reading.specs.Places.{Place}
use Rattle.dwz_def_reading.specs.Documents.{Doc}
use Rattle.dwz_def_explain.specs.Places.{IsMovableAt, NoneMovableAt, not_movable}
use Rattle.dwz_text.specs.Lines.{Text}

-- that is said of the text or of the refusal; of want of memory nothing is said
abbrev pub Answers : (Result Text Refusal → Type 0) → Result Text GraphErr → Type 0
Answers Said (Ok text) = Said (Ok text)
Answers Said (Err (Refused r)) = Said (Err r)
Answers Said (Err NoMemory) = Unit {0}

-- Inner: the top that begins at the place and may move, or that place is refused
abbrev pub AnswersTop : List (Doc ℕ) → Place → Result ℕ GraphErr → Type 0
AnswersTop docs p (Ok n) = IsMovableAt docs p n
AnswersTop docs p (Err (Refused r)) = NoneMovableAt docs p × (r ≡ not_movable p)
AnswersTop docs p (Err NoMemory) = ⊥
