-- What the work comes to.
use Rattle.std.specs.Prelude.{List, ℕ, get_or, nat_lt, length, unwrap_or, [], if◌then◌else◌}
use Rattle.dwz_model.specs.declared.fault.Refusal.{Refusal}
use Rattle.dwz_words.specs.Asked.{common_read, names_numbered}
use Rattle.dwz_words.specs.declared.options.Options.{Options}
use Rattle.dwz_run_course.specs.declared.output.Output.{Output}

-- an output, or a refusal
pub data Outcome : Type 0 where
  writes : Output → Outcome
  refuses : Refusal → Outcome

-- what comes of options and the contents of their files
abbrev pub Giving : Type 1
Giving = Options → List (List ℕ) → Outcome → Type 0

-- the name of the common file: of one that is made, or of one that is read
abbrev pub common_name : Options → List ℕ
common_name o = unwrap_or o.common (unwrap_or (common_read o) [])

-- the name of the file of this number: of one that has a number, and else that of the common file
abbrev pub name_of_file : Options → ℕ → List ℕ
name_of_file o file = if nat_lt file (length (names_numbered o)) then get_or (names_numbered o) file [] else common_name o
