-- What comes of options that ask why two entries aren't shared.
use Rattle.std.specs.Prelude.{◌≡◌, ◌⊎◌, List, [], ◌∷◌, ℕ, false, Err}
use Rattle.dwz_def_reading.specs.Refusal.{Refusal}
use Rattle.dwz_def_reading.specs.Documents.{Doc}
use Rattle.dwz_def_reading.specs.Files.{First, ReadAll, no_files_before}
use Rattle.dwz_def_reading.specs.Places.{Place, at_file}
use Rattle.dwz_def_explain.specs.Places.{Explains, IsTextOf}
use Rattle.dwz_text.specs.Lines.{Text}
use Rattle.dwz_words.specs.Asked.{places_asked}
use Rattle.dwz_words.specs.declared.options.Options.{Options}
use Rattle.dwz_run_course.specs.declared.output.Output.{Output}
use Rattle.dwz_run_course.specs.declared.output.Said.TheVariants.{Parts}
use Rattle.dwz_run_course.specs.Outcome.{Outcome, refuses, writes}

-- ---- the two places

-- the offset of the file with that number
abbrev pub asked_place : ℕ × ℕ → Place
asked_place p = at_file p.0 p.1

abbrev pub first_asked : Options → Place
first_asked o = asked_place (places_asked o).0

abbrev pub second_asked : Options → Place
second_asked o = asked_place (places_asked o).1

-- ---- what comes of it

-- nothing is put, and the text is said whatever the words ask of quiet
abbrev pub answer_of : Text → Output
answer_of text = record { puts = []; said = Parts (record { text = text; is_summary = false } ∷ []); differs = false; partly = false }

-- the text is of the two places in these documents
abbrev pub IsTold : Options → List (Doc ℕ) → Text → Type 0
IsTold o docs text = IsTextOf docs (first_asked o) (second_asked o) text

-- at one of the two places no top begins that may move; the refusal is of the first such
abbrev pub IsUntold : Options → List (Doc ℕ) → Refusal → Type 0
IsUntold o docs q = Explains docs (first_asked o) (second_asked o) (Err q)

-- The contents read as documents, and what is said of the two places is said, or the first at which there is nothing to say is refused; or they
-- don't read, and the first fault of reading refuses them.
abbrev pub TellsWhy : Options → List (List ℕ) → Outcome → Type 0
TellsWhy o contents (writes out) =
    (docs : List (Doc ℕ)) × ReadAll no_files_before contents docs × ((text : Text) × IsTold o docs text × (out ≡ answer_of text))
TellsWhy o contents (refuses q) =
    First no_files_before 0 contents q
    ⊎ ((docs : List (Doc ℕ)) × ReadAll no_files_before contents docs × IsUntold o docs q)
