-- Laws on what comes of files that are written over a finished common file.
use Rattle.std.specs.Prelude.{◌≡◌, ℕ, ◌≤◌, List, ◌∷◌, Some, length, take}
use Rattle.dwz_def_reading.specs.Finished.{BesideDocs, ReadBeside}
use Rattle.dwz_def_reading.specs.Lists.{Each}
use Rattle.dwz_def_reading.specs.Values.{AreBytes}
use Rattle.dwz_outside.specs.Store.{Store, done}
use Rattle.dwz_words.specs.declared.options.Options.{Options}
use Rattle.dwz_run_course.specs.Demo.{HasLengths}
use Rattle.dwz_run_course.specs.Gets.{gets}
use Rattle.dwz_run_course.specs.Outcome.{Outcome}
use Rattle.dwz_run_course.specs.Puts.{AreOthers, Prefixes}
use Rattle.dwz_def_taken.specs.declared.fixed.Fixed.{Fixed}
use Rattle.dwz_def_taken.specs.Takes.{IsFixedOf}
use Rattle.dwz_def_over.specs.Over.{AreOverFiles, OverFiles}
use Rattle.dwz_def_over.specs.Written.{CanBeWrittenOver}
use Rattle.dwz_def_run.specs.Out.{sup_name}
use Rattle.dwz_def_run.specs.Comes.{Comes}
use Rattle.dwz_def_run.specs.Reuses.{HasContents, Reuses, common_got, files_got, puts_over, summary_over}
use Rattle.dwz_def_run.specs.ReusesStops.{AreOldOrMadeOver, FitOver, HoldOver}

-- at most one thing comes of options and contents
abbrev pub OneReuseLaw : Type 0
OneReuseLaw = (o : Options) (contents : List (List ℕ)) (a b : Outcome) → Reuses o contents a → Reuses o contents b → a ≡ b

-- and something does, where it is said what is taken of files that read
abbrev pub SomeReuseLaw : Type 0
SomeReuseLaw =
    (o : Options) (contents : List (List ℕ))
    → ((said : BesideDocs) → ReadBeside (common_got contents) (files_got o contents) said → (fixed : Fixed) × IsFixedOf said fixed)
    → (outcome : Outcome) × Reuses o contents outcome

-- and then too it can't be that nothing does
abbrev pub NeverNoReuseLaw : Type 0
NeverNoReuseLaw = (o : Options) (contents : List (List ℕ)) → ((outcome : Outcome) → Reuses o contents outcome → ⊥) → ⊥

-- at most one thing comes of options and contents, whether or not there is a finished common file
abbrev pub OneComesLaw : Type 0
OneComesLaw = (o : Options) (contents : List (List ℕ)) (a b : Outcome) → Comes o contents a → Comes o contents b → a ≡ b

-- and it can't be that nothing does
abbrev pub NeverNothingComesLaw : Type 0
NeverNothingComesLaw = (o : Options) (contents : List (List ℕ)) → ((outcome : Outcome) → Comes o contents outcome → ⊥) → ⊥

-- no put is of the common file, so that this keeps its bytes
abbrev pub NotPutLaw : Type 0
NotPutLaw = (o : Options) (x : OverFiles) → FitOver o → (common : List ℕ) → o.common ≡ Some common
    → AreOthers common (puts_over o x) × ((store : Store) (k : ℕ) → done (take k (puts_over o x)) store common ≡ store common)

-- Where the common file and FILEs were got and read, and after the first puts, however many, each FILE is as it was, or as it is made.
abbrev pub StopOverLaw : Type 0
StopOverLaw =
    (o : Options) (x : OverFiles) → FitOver o → AreOverFiles x → (store : Store) (common : List ℕ)
    → gets store 0 (common ∷ o.files) ≡ Some (x.common ∷ x.contents)
    → Prefixes (puts_over o x) store (AreOldOrMadeOver o x)

-- What reads was got, all of it.
abbrev pub GotOverLaw : Type 0
GotOverLaw =
    (o : Options) (contents : List (List ℕ)) (x : OverFiles) → HasContents (common_got contents) (files_got o contents) x → AreOverFiles x
    → (store : Store) (common : List ℕ) → gets store 0 (common ∷ o.files) ≡ Some contents
    → contents ≡ x.common ∷ x.contents

-- Where they were got and read, and after all puts, each FILE, or the one output, holds what the file has after.
abbrev pub HeldOverLaw : Type 0
HeldOverLaw =
    (o : Options) (x : OverFiles) → FitOver o → AreOverFiles x → (store : Store) (common : List ℕ)
    → gets store 0 (common ∷ o.files) ≡ Some (x.common ∷ x.contents)
    → HoldOver o x (done (puts_over o x) store)

-- where the files are written, the lengths of all of them together are numbers of 64 bits
abbrev pub LengthsOverLaw : Type 0
LengthsOverLaw =
    (o : Options) (x : OverFiles) → Each AreBytes x.contents → CanBeWrittenOver (sup_name o) x → length o.files ≤ 256
    → HasLengths (summary_over o x)
