-- Laws on what a run puts.
use Rattle.std.specs.Prelude.{◌≡◌, ◌↔◌, ℕ, ◌≤◌, Bool, List, [], ◌∷◌, length, Some, false}
use Rattle.dwz_def_reading.specs.Documents.{Doc}
use Rattle.dwz_def_reading.specs.Finished.{FinishedDocs, ReadFinished}
use Rattle.dwz_def_reading.specs.Lists.{Each}
use Rattle.dwz_def_reading.specs.Places.{Place}
use Rattle.dwz_def_reading.specs.Values.{AreBytes}
use Rattle.dwz_def_cross.specs.CrossSame.{CrossSame}
use Rattle.dwz_def_check.specs.Answer.{beside_common}
use Rattle.dwz_outside.specs.Store.{Store}
use Rattle.dwz_words.specs.Conditions.{FitTogether}
use Rattle.dwz_words.specs.declared.options.Options.{Options}
use Rattle.dwz_run_course.specs.Demo.{HasLengths}
use Rattle.dwz_run_course.specs.Gets.{gets}
use Rattle.dwz_run_course.specs.declared.output.Output.{Output}
use Rattle.dwz_run_course.specs.Outcome.{Outcome, writes}
use Rattle.dwz_run_course.specs.Puts.{Prefixes}
use Rattle.dwz_def_run.specs.Compares.{Compares, common_in, two_in}
use Rattle.dwz_def_run.specs.Out.{IsWritten, Out, all_puts, run_for, summary_of}
use Rattle.dwz_def_run.specs.Stops.{AreOldOrMade}

-- at most one thing comes of options and contents
abbrev pub OneOutcomeLaw : Type 0
OneOutcomeLaw = (o : Options) (contents : List (List ℕ)) (a b : Outcome) → Out o contents a → Out o contents b → a ≡ b

-- and something does: it is given, unless two files are compared
abbrev pub SomeOutcomeLaw : Type 0
SomeOutcomeLaw = (o : Options) (contents : List (List ℕ)) → o.check ≡ false → (outcome : Outcome) × Out o contents outcome

-- and there too it can't be that nothing does
abbrev pub NeverNothingLaw : Type 0
NeverNothingLaw = (o : Options) (contents : List (List ℕ)) → ((outcome : Outcome) → Out o contents outcome → ⊥) → ⊥

-- Where two files are compared, it is said that they differ just where they don't mean the same, imports expanded.
abbrev pub DiffersLaw : Type 0
DiffersLaw =
    (o : Options) (contents : List (List ℕ)) (out : Output) → Compares o contents (writes out)
    → (said : FinishedDocs) (old new : Doc Place) → ReadFinished (common_in o.sup contents) (two_in o.sup contents) said → said.docs ≡ old ∷ new ∷ []
    → (out.differs ≡ false) ↔ CrossSame (beside_common said old) (beside_common said new)

-- Where the files are written, the lengths of all of them together are numbers of 64 bits.
abbrev pub LengthsLaw : Type 0
LengthsLaw =
    (o : Options) (contents : List (List ℕ)) (docs : List (Doc ℕ)) (prunes : List Bool) → Each AreBytes contents
    → IsWritten o contents docs prunes
    → length o.files ≤ 256 → HasLengths (summary_of o (run_for o contents docs prunes))

-- Where FILEs that are slimmed were got and read, and after the first puts of the output however many, each FILE is as it was, or as it is made.
abbrev pub StopLaw : Type 0
StopLaw =
    (o : Options) → FitTogether o → o.explain ≡ false → (store : Store) (contents : List (List ℕ)) (docs : List (Doc ℕ)) (prunes : List Bool)
    → gets store 0 o.files ≡ Some contents → IsWritten o contents docs prunes
    → let r = run_for o contents docs prunes in Prefixes (all_puts o r) store (AreOldOrMade o r)
