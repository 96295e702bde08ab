-- What is written of files over a finished common file is said to mean the same.
use Rattle.std.specs.Prelude.{◌≡◌, false, ℕ, List, Option, Some, None}
use Rattle.dwz_def_reading.specs.Lists.{Each, Nth}
use Rattle.dwz_def_reading.specs.Documents.{Doc}
use Rattle.dwz_def_reading.specs.Finished.{has_sup}
use Rattle.dwz_def_reading.specs.Texts.{NoZero}
use Rattle.dwz_def_reading.specs.Values.{AreBytes}
use Rattle.dwz_def_limits.specs.Within.{AreWithinLimits}
use Rattle.dwz_def_check.specs.declared.same.Same.TheVariants.{Yes}
use Rattle.dwz_def_over.specs.Over.{OverFiles, run_over}
use Rattle.dwz_def_over.specs.Written.{CanBeWrittenOver}
use Rattle.dwz_def_run.specs.Compares.{Compares, answer_on}
use Rattle.dwz_run_course.specs.Outcome.{writes}
use Rattle.dwz_words.specs.declared.options.Options.{Options}
use Rattle.dwz_law_run.specs.SameLaws.{before, compared}
pub use Rattle.dwz_law_over.specs.SupOverLaws.{bytes_over}

-- the contents of those of one file before and after, and of the common file, if its name is given
abbrev pub compared_over : List ℕ → OverFiles → ℕ → Option (List ℕ) → List (List ℕ)
compared_over name x file sup = compared sup x.common (before (run_over x) file) (bytes_over name x file)

-- the common file is named; or none of the two has `.debug_sup`
abbrev pub NamesStanding : List ℕ → OverFiles → ℕ → Option (List ℕ) → Type 0
NamesStanding name x file None = (has_sup (before (run_over x) file) ≡ false) × (has_sup (bytes_over name x file) ≡ false)
NamesStanding name x file (Some sup) = Unit {0}

-- Where files are written over a finished common file, and a file before and after is compared, the common file being named as it has to be, it is
-- said that the two mean the same, if limits leave room for what is read.
abbrev pub SameOverLaw : Type 0
SameOverLaw =
    (name : List ℕ) (check : Options) (x : OverFiles) → Each AreBytes x.contents → CanBeWrittenOver name x → NoZero name
    → (file : ℕ) (doc : Doc ℕ) → Nth 0 x.said.docs file doc → NamesStanding name x file check.sup
    → AreWithinLimits (compared_over name x file check.sup)
    → Compares check (compared_over name x file check.sup) (writes (answer_on Yes))
