-- What follows for a second call that compares files before and after a first one that wrote them over a finished common file.
use Rattle.std.specs.Prelude.{◌≡◌, ◌⊎◌, ℕ, false, List, [], ◌∷◌, Option, Some, None}
use Rattle.dwz_def_reading.specs.Finished.{has_sup}
use Rattle.dwz_def_reading.specs.Lists.{In}
use Rattle.dwz_def_tops.specs.Lists.{Nth}
use Rattle.dwz_def_limits.specs.Within.{AreWithinLimits}
use Rattle.dwz_def_run.specs.Batches.{FileGot}
use Rattle.dwz_def_run.specs.Reuses.{files_got}
use Rattle.dwz_def_run.specs.ReusesStops.{goes_over}
use Rattle.dwz_def_run.specs.Yields.{Yields}
use Rattle.dwz_gen.specs.Demo.{demo_files}
use Rattle.dwz_outside.specs.Store.{Store}
use Rattle.dwz_outside.specs.Told.{ConsoleSeen, FilesSeen}
use Rattle.dwz_run_course.specs.declared.output.Output.{Output}
use Rattle.dwz_run_course.specs.declared.status.Status.{Status}
use Rattle.dwz_run_course.specs.declared.status.Status.TheVariants.{Done, NoMemory, Partly}
use Rattle.dwz_run_course.specs.Ends.{Complete}
use Rattle.dwz_run_course.specs.Outcome.{writes}
use Rattle.dwz_run.specs.Batched.{AsksToBatch, ComesAlone, files_of}
use Rattle.dwz_run.specs.Laws.{AsksToCompare, NoneFailed, RunEnds}
use Rattle.dwz_run.specs.Reusing.{AsksToReuse}

-- It gets the two files, and before them, if a common file is named, what is held now at the name of that of the first call; if none is named, none
-- of the two has `.debug_sup`.
abbrev pub GotOver : Option (List ℕ) → (common : List ℕ) → Store → (was is : List ℕ) → List (List ℕ) → Type 0
GotOver None name now was is contents = (has_sup was ≡ false) × (has_sup is ≡ false) × (contents ≡ was ∷ is ∷ [])
GotOver (Some sup) name now was is contents = (common : List ℕ) × (now name ≡ Some common) × (contents ≡ common ∷ was ∷ is ∷ [])

-- ---- after `--reuse`

-- The second call compares a FILE as the first one read it with what is held after that at its name, or at that of the one output.
pub record ComparesOver {words : List (List ℕ)} {store : Store} (first : AsksToReuse words store) (now : Store) {again : List (List ℕ)}
    {held : Store} (second : AsksToCompare again held) : Type 0 where
  pub file : ℕ
  pub name : List ℕ
  pub is_file : Nth 0 first.options.files file name
  pub was : List ℕ
  pub read : Nth 0 (files_got first.options first.contents) file was
  pub is : List ℕ
  pub holds : now (goes_over first.options.out name) ≡ Some is
  pub got : GotOver second.options.sup first.common now was is second.contents

-- Where a call whose words ask for FILEs over a finished common file answers Done, a second call that compares one of these before and after, beside
-- the common file where one of the two has `.debug_sup`, answers Done as well: they mean the same. So it is if nothing outside fails, and what it
-- gets is within the limits; memory may always run out.
abbrev pub AgainOverLaw : Type 0
AgainOverLaw =
    (words : List (List ℕ)) (old new : FilesSeen) (shown shown_new : ConsoleSeen) → RunEnds words old new shown shown_new Done
    → (store now : Store) → old.held ≡ Some store → new.held ≡ Some now → (first : AsksToReuse words store)
    → (again : List (List ℕ)) (before after : FilesSeen) (printed printed_new : ConsoleSeen) (status : Status)
    → Complete demo_files Yields again before after printed printed_new status → NoneFailed before after printed printed_new
    → (held : Store) → before.held ≡ Some held → (second : AsksToCompare again held) → ComparesOver first now second
    → AreWithinLimits second.contents
    → (status ≡ Done) ⊎ (status ≡ NoMemory)

-- ---- after `--batch`

-- The second call compares one of the FILEs that aren't refused, as the first one read it, with what is held after that at its name.
pub record ComparesAlone {words : List (List ℕ)} {store : Store} (first : AsksToBatch words store) (now : Store) {again : List (List ℕ)}
    {held : Store} (second : AsksToCompare again held) : Type 0 where
  pub file : FileGot
  pub is_file : In file (files_of first)
  pub out : Output
  pub comes : ComesAlone first file (writes out)
  pub is : List ℕ
  pub holds : now file.name ≡ Some is
  pub got : GotOver second.options.sup first.common now file.content is second.contents

-- Where a call whose words ask for many FILEs over a finished common file answers Done, or Partly, so it is of each FILE that isn't refused.
abbrev pub AgainAloneLaw : Type 0
AgainAloneLaw =
    (words : List (List ℕ)) (old new : FilesSeen) (shown shown_new : ConsoleSeen) (ended : Status) → (ended ≡ Done) ⊎ (ended ≡ Partly)
    → RunEnds words old new shown shown_new ended
    → (store now : Store) → old.held ≡ Some store → new.held ≡ Some now → (first : AsksToBatch words store)
    → (again : List (List ℕ)) (before after : FilesSeen) (printed printed_new : ConsoleSeen) (status : Status)
    → Complete demo_files Yields again before after printed printed_new status → NoneFailed before after printed printed_new
    → (held : Store) → before.held ≡ Some held → (second : AsksToCompare again held) → ComparesAlone first now second
    → AreWithinLimits second.contents
    → (status ≡ Done) ⊎ (status ≡ NoMemory)
