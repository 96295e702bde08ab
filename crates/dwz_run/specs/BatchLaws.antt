-- What follows of how a run ends whose words ask for many files over a finished common file, each as if it were alone with it.
use Rattle.std.specs.Prelude.{◌≡◌, ◌⊎◌, ◌↔◌, ◌≤◌, ℕ, true, List, [], ◌∷◌, Some, None}
use Rattle.dwz_model.specs.declared.fault.Refusal.{Refusal}
use Rattle.dwz_def_reading.specs.Files.{longest_files}
use Rattle.dwz_def_reading.specs.Lists.{In}
use Rattle.dwz_outside.specs.Store.{Store}
use Rattle.dwz_outside.specs.Told.{ConsoleSeen, FilesSeen}
use Rattle.dwz_run_course.specs.declared.status.Status.{Status}
use Rattle.dwz_run_course.specs.declared.status.Status.TheVariants.{Done, NoMemory, Partly}
use Rattle.dwz_run_course.specs.Ends.{Complete, SaysAll}
use Rattle.dwz_run_course.specs.Outcome.{Outcome, refuses}
use Rattle.dwz_gen.specs.Demo.{demo_files}
use Rattle.dwz_def_run.specs.Reuses.{common_got}
use Rattle.dwz_def_run.specs.Batches.{FileGot, IsCommonRead, bytes_together}
use Rattle.dwz_def_run.specs.Yields.{Yields, batching}
use Rattle.dwz_run.specs.Batched.{AsksToBatch, ComesAlone, DidBatch, files_of}
use Rattle.dwz_run.specs.Laws.{NoneFailed, RunEnds}
use Rattle.dwz_run.specs.Reusing.{AsksToReuse}

-- where it answers Partly some of the FILEs, each as if it were alone, are refused, and the others are put
abbrev pub PartlyLaw : Type 0
PartlyLaw =
    (words : List (List ℕ)) (old new : FilesSeen) (shown shown_new : ConsoleSeen) → RunEnds words old new shown shown_new Partly
    → (store : Store) → old.held ≡ Some store
    → (text : List ℕ) × DidBatch words store old new text true × SaysAll shown shown_new text

-- Where the common file of many files reads, and there aren't too many bytes together, it is Partly exactly if some FILE is refused alone, and else
-- Done.
abbrev pub BatchLaw : Type 0
BatchLaw =
    (words : List (List ℕ)) (old new : FilesSeen) (shown shown_new : ConsoleSeen) (status : Status)
    → Complete demo_files Yields words old new shown shown_new status → NoneFailed old new shown shown_new
    → (store : Store) → old.held ≡ Some store → (a : AsksToBatch words store) → IsCommonRead (batching a.options) (common_got a.contents)
    → bytes_together (common_got a.contents) (files_of a) ≤ longest_files
    → (((file : FileGot) → In file (files_of a) → (q : Refusal) → ¬ ComesAlone a file (refuses q)) → (status ≡ Done) ⊎ (status ≡ NoMemory))
    × ((file : FileGot) → In file (files_of a) → (q : Refusal) → ComesAlone a file (refuses q) → (status ≡ Partly) ⊎ (status ≡ NoMemory))

-- ---- each as if it were alone

-- another call asks with `--reuse` for that one FILE in place, over the same common file, with the same name of it
pub record NamesAlone {words : List (List ℕ)} {store : Store} (a : AsksToBatch words store) (file : FileGot) {other : List (List ℕ)}
    (b : AsksToReuse other store) : Type 0 where
  pub one : b.options.files ≡ file.name ∷ []
  pub in_place : b.options.out ≡ None
  pub same_common : b.common ≡ a.common
  pub same_name : b.options.name ≡ a.options.name

-- Of that call comes what comes of the FILE among many: the same puts, or the same refusal. So it is where the same is held, the common file reads,
-- and there aren't too many bytes together; and whatever the other FILEs are, and for every number of workers of either.
abbrev pub ReuseAloneLaw : Type 0
ReuseAloneLaw =
    (words : List (List ℕ)) (store : Store) (a : AsksToBatch words store) → IsCommonRead (batching a.options) (common_got a.contents)
    → bytes_together (common_got a.contents) (files_of a) ≤ longest_files
    → (file : FileGot) → In file (files_of a) → (other : List (List ℕ)) (b : AsksToReuse other store) → NamesAlone a file b
    → (outcome : Outcome) → ComesAlone a file outcome ↔ Yields b.options b.contents outcome
