-- What comes of options that ask for a file without its partial units.
use Rattle.std.specs.Prelude.{◌≡◌, ◌⊎◌, ℕ, List, [], ◌∷◌, length, Option, Some, None, false, get_or, unwrap_or}
use Rattle.std.specs.Option.{option_map}
use Rattle.dwz_def_reading.specs.Refusal.{Refusal}
use Rattle.dwz_def_reading.specs.Finished.{FirstFinished}
use Rattle.dwz_def_expand.specs.OneFile.{OneFile, ReadsOne}
use Rattle.dwz_def_expand.specs.NewFile.{NewRefusal, expanded_bytes}
use Rattle.dwz_report.specs.declared.summary.Summary.{Summary}
use Rattle.dwz_words.specs.declared.options.Options.{Options}
use Rattle.dwz_run_course.specs.declared.output.Output.{Output}
use Rattle.dwz_run_course.specs.declared.output.Said.TheVariants.{Slimmed}
use Rattle.dwz_run_course.specs.Outcome.{Outcome, refuses, writes}
use Rattle.dwz_def_run.specs.Compares.{common_in}

-- ---- the file

-- The content of FILE, of contents that are in the order in which files are got: it comes behind that of COMMON, if this is given. Behind one that is
-- too long nothing is got: it counts as empty.
abbrev pub one_in : Option (List ℕ) → List (List ℕ) → List ℕ
one_in None contents = get_or contents 0 []
one_in (Some common) contents = get_or contents 1 []

-- it reads as a file that may have been written, beside the finished common one, or without one; and so it is seen, with what it says
pub record IsOneRead (common : Option (List ℕ)) (bytes : List ℕ) (f : OneFile) : Type 0 where
  pub reads : ReadsOne f
  pub file : f.file.bytes ≡ bytes
  pub beside : option_map (λ c. c.bytes) f.common ≡ common

-- ---- what comes of it

-- the line of FILE, with its length and that of what is written
abbrev pub summary_with : Options → (old new : List ℕ) → Summary
summary_with o old new = record { common = None; files = (get_or o.files 0 [], length old, Some (length new)) ∷ [] }

-- this is put to OUT, which lawful words have; no partial unit is left
abbrev pub output_with : Options → (old new : List ℕ) → Output
output_with o old new = record {
  puts = record { name = unwrap_or o.out []; bytes = new } ∷ [];
  said = Slimmed (summary_with o old new) 0;
  differs = false;
  partly = false;
}

-- The file reads, and is written without its partial units, unless it is refused; or it doesn't read, or its common file doesn't, and the first fault of
-- reading refuses them.
abbrev pub ExpandsOne : Options → Option (List ℕ) → List ℕ → Outcome → Type 0
ExpandsOne o common bytes (writes out) =
    (f : OneFile) × IsOneRead common bytes f × ((q : Refusal) → ¬ NewRefusal f q) × (out ≡ output_with o bytes (expanded_bytes f))
ExpandsOne o common bytes (refuses q) =
    FirstFinished common (bytes ∷ []) q ⊎ ((f : OneFile) × IsOneRead common bytes f × NewRefusal f q)

abbrev pub Expands : Options → List (List ℕ) → Outcome → Type 0
Expands o contents = ExpandsOne o (common_in o.sup contents) (one_in o.sup contents)
