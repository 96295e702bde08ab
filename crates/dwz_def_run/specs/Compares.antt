-- What comes of options that ask whether two files mean the same.
use Rattle.std.specs.Prelude.{◌≡◌, ℕ, Bool, true, false, List, [], ◌∷◌, Option, Some, None, get_or}
use Rattle.dwz_def_reading.specs.Finished.{FinishedDocs, FirstFinished, ReadFinished}
use Rattle.dwz_def_check.specs.Answer.{IsSameOf}
use Rattle.dwz_def_check.specs.declared.same.Same.{Same}
use Rattle.dwz_def_check.specs.declared.same.Same.TheVariants.{Yes}
use Rattle.dwz_def_check.specs.Texts.{check_text}
use Rattle.dwz_words.specs.declared.options.Options.{Options}
use Rattle.dwz_run_course.specs.declared.output.Output.{Output}
use Rattle.dwz_run_course.specs.declared.output.Said.TheVariants.{Parts}
use Rattle.dwz_run_course.specs.Outcome.{Outcome, refuses, writes}

-- ---- the files

-- The contents of COMMON, if it is given, and of OLD and NEW, of contents that are in the order in which files are got. Behind one that is too long
-- nothing is got: those count as empty.
abbrev pub common_in : Option (List ℕ) → List (List ℕ) → Option (List ℕ)
common_in None contents = None
common_in (Some common) contents = Some (get_or contents 0 [])

abbrev pub two_in : Option (List ℕ) → List (List ℕ) → List (List ℕ)
two_in None contents = get_or contents 0 [] ∷ get_or contents 1 [] ∷ []
two_in (Some common) contents = get_or contents 1 [] ∷ get_or contents 2 [] ∷ []

-- ---- what comes of them

-- an answer by which files differ
abbrev pub tells_apart : Same → Bool
tells_apart Yes = false
tells_apart _ = true

-- nothing is put, and the line of the answer is said whatever the words ask of quiet
abbrev pub answer_on : Same → Output
answer_on same = record {
  puts = [];
  said = Parts (record { text = check_text same; is_summary = false } ∷ []);
  differs = tells_apart same;
  partly = false;
}

-- The two files read as files that may have been written, beside the finished common one, or without one, and what is said of them is said; or
-- they don't read, and the first fault of reading refuses them.
abbrev pub ComparesTwo : Option (List ℕ) → List (List ℕ) → Outcome → Type 0
ComparesTwo common files (writes out) =
    (said : FinishedDocs) × ReadFinished common files said × (same : Same) × IsSameOf said same × (out ≡ answer_on same)
ComparesTwo common files (refuses q) = FirstFinished common files q

abbrev pub Compares : Options → List (List ℕ) → Outcome → Type 0
Compares o contents = ComparesTwo (common_in o.sup contents) (two_in o.sup contents)
