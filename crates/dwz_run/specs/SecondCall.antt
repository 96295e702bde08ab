-- What follows for a second call that compares files before a first one and after it.
use Rattle.std.specs.Prelude.{◌≡◌, ◌⊎◌, ◌||◌, ℕ, true, false, List, [], ◌∷◌, Option, Some, None}
use Rattle.dwz_def_reading.specs.Finished.{has_sup}
use Rattle.dwz_def_tops.specs.Lists.{Nth}
use Rattle.dwz_def_limits.specs.Within.{AreWithinLimits}
use Rattle.dwz_def_run.specs.Yields.{Yields}
use Rattle.dwz_gen.specs.Demo.{demo_files}
use Rattle.dwz_outside.specs.Store.{Store}
use Rattle.dwz_outside.specs.Told.{ConsoleSeen, FilesSeen}
use Rattle.dwz_run_course.specs.declared.status.Status.{Status}
use Rattle.dwz_run_course.specs.declared.status.Status.TheVariants.{Done, NoMemory}
use Rattle.dwz_run_course.specs.Ends.{Complete}
use Rattle.dwz_words.specs.declared.options.Options.{Options}
use Rattle.dwz_run.specs.Laws.{AsksForFiles, AsksToCompare, NoneFailed, RunEnds, goes_to}

-- It gets the two files, and before them, if one of the two has `.debug_sup`, what is held now at the name of the common file of the first
-- call; and else just the two.
abbrev pub GotBeside : Option (List ℕ) → Options → Store → (was is : List ℕ) → List (List ℕ) → Type 0
GotBeside None o now was is contents = (has_sup was ≡ false) × (has_sup is ≡ false) × (contents ≡ was ∷ is ∷ [])
GotBeside (Some sup) o now was is contents =
    (name : List ℕ) × (common : List ℕ) × (o.common ≡ Some name) × (now name ≡ Some common) × ((has_sup was || has_sup is) ≡ true)
    × (contents ≡ common ∷ was ∷ is ∷ [])

-- The second call compares a FILE as the first one read it with what is held after that at its name, or at that of the one output.
pub record ComparesAgain {words : List (List ℕ)} {store : Store} (first : AsksForFiles words store) (now : Store) {again : List (List ℕ)}
    {held : Store} (second : AsksToCompare again held) : Type 0 where
  pub file : ℕ
  pub name : List ℕ
  pub is_file : Nth 0 first.options.files file name
  pub was : List ℕ
  pub read : Nth 0 first.contents file was
  pub is : List ℕ
  pub holds : now (goes_to first.options.out name) ≡ Some is
  pub got : GotBeside second.options.sup first.options now was is second.contents

-- Where a call whose words ask for FILEs to be slimmed answers Done, a second call that compares one of these before and after, beside the
-- common file where one of the two has `.debug_sup`, answers Done as well: they mean the same. So it is if nothing outside fails, and what
-- it gets is within the limits; memory may always run out.
abbrev pub AgainLaw : Type 0
AgainLaw =
    (words : List (List ℕ)) (old new : FilesSeen) (shown shown_new : ConsoleSeen) → RunEnds words old new shown shown_new Done
    → (store now : Store) → old.held ≡ Some store → new.held ≡ Some now → (first : AsksForFiles words store)
    → (again : List (List ℕ)) (before after : FilesSeen) (printed printed_new : ConsoleSeen) (status : Status)
    → Complete demo_files Yields again before after printed printed_new status → NoneFailed before after printed printed_new
    → (held : Store) → before.held ≡ Some held → (second : AsksToCompare again held) → ComparesAgain first now second
    → AreWithinLimits second.contents
    → (status ≡ Done) ⊎ (status ≡ NoMemory)
