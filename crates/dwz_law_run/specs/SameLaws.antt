-- What is written of files is said to mean the same.
use Rattle.std.specs.Prelude.{◌≡◌, false, Bool, ℕ, List, [], ◌∷◌, Option, Some, None}
use Rattle.dwz_def_reading.specs.Lists.{Each, Nth}
use Rattle.dwz_def_reading.specs.Documents.{Doc}
use Rattle.dwz_def_reading.specs.Finished.{has_sup}
use Rattle.dwz_def_reading.specs.Texts.{NoZero}
use Rattle.dwz_def_reading.specs.Values.{AreBytes}
use Rattle.dwz_def_readback.specs.Files.{Run}
use Rattle.dwz_def_output.specs.FilesAfter.{bytes_after, common_bytes}
use Rattle.dwz_def_limits.specs.Within.{AreWithinLimits}
use Rattle.dwz_def_check.specs.declared.same.Same.TheVariants.{Yes}
use Rattle.dwz_def_run.specs.Compares.{Compares, answer_on}
use Rattle.dwz_def_run.specs.Out.{IsWritten, common_of, run_for, sup_name}
use Rattle.dwz_run_course.specs.Outcome.{writes}
use Rattle.dwz_words.specs.declared.options.Options.{Options}

-- two files that are compared, and before them their common file, if its name is given: in the order in which they are got
abbrev pub compared : Option (List ℕ) → (common old new : List ℕ) → List (List ℕ)
compared None common old new = old ∷ new ∷ []
compared (Some name) common old new = common ∷ old ∷ new ∷ []

-- a file of a run before, and after
abbrev pub before : Run → ℕ → List ℕ
before r file = r.input.bytes file

abbrev pub after : Options → Run → ℕ → List ℕ
after o r file = bytes_after (sup_name o) r file

-- the contents of those of one file of a run
abbrev pub compared_of : Options → Run → ℕ → Option (List ℕ) → List (List ℕ)
compared_of o r file sup = compared sup (common_bytes r) (before r file) (after o r file)

-- the common file that is named is there; or none is named, and none of the two has `.debug_sup`
abbrev pub NamesCommon : Options → Run → ℕ → Option (List ℕ) → Type 0
NamesCommon o r file None = (has_sup (before r file) ≡ false) × (has_sup (after o r file) ≡ false)
NamesCommon o r file (Some name) = common_of o.common r ≡ Some (common_bytes r)

-- Where files are written, and a file before and after is compared, the common file being named as it has to be, it is said that the two
-- mean the same, if limits leave room for what is read.
abbrev pub SameLaw : Type 0
SameLaw =
    (o check : Options) (contents : List (List ℕ)) (docs : List (Doc ℕ)) (prunes : List Bool) → Each AreBytes contents
    → IsWritten o contents docs prunes → NoZero (sup_name o)
    → let r = run_for o contents docs prunes in
    (file : ℕ) (doc : Doc ℕ) → Nth 0 docs file doc → NamesCommon o r file check.sup → AreWithinLimits (compared_of o r file check.sup)
    → Compares check (compared_of o r file check.sup) (writes (answer_on Yes))
