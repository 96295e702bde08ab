-- What follows of how a run ends whose words ask for a demonstration.
use Rattle.std.specs.Prelude.{◌≡◌, ℕ, List, Some}
use Rattle.dwz_model.specs.declared.fault.Refusal.{Refusal}
use Rattle.dwz_outside.specs.Store.{Store}
use Rattle.dwz_outside.specs.Told.{ConsoleSeen, FilesSeen}
use Rattle.dwz_report.specs.Texts.{refusal_text}
use Rattle.dwz_run_course.specs.declared.status.Status.{Status}
use Rattle.dwz_run_course.specs.declared.status.Status.TheVariants.{Done, Refused, NoMemory, ConsoleFault}
use Rattle.dwz_run_course.specs.Demo.{demo_options}
use Rattle.dwz_run_course.specs.Ends.{Says, SaysAll, SaysNothing}
use Rattle.dwz_run_course.specs.Outcome.{name_of_file}
use Rattle.dwz_gen.specs.Demo.{demo_files}
use Rattle.dwz_run.specs.Laws.{AsksForDemo, IsDemoText, IsFirstRefusal, RunEnds}

-- What each status says of it: its text is of the two files with a common one, or of the first refusal of these.
abbrev pub DemoEnds : {words : List (List ℕ)} → AsksForDemo words → ConsoleSeen → ConsoleSeen → Status → Type 0
DemoEnds a shown shown_new Done = (text : List ℕ) × IsDemoText a text × SaysAll shown shown_new text
DemoEnds a shown shown_new ConsoleFault = (text : List ℕ) × IsDemoText a text × SaysNothing shown shown_new text
DemoEnds a shown shown_new Refused =
    (r : Refusal) × IsFirstRefusal (demo_options a.options) (demo_files a.units) r
    × Says shown shown_new Refused (refusal_text (name_of_file (demo_options a.options) r.file) r)
DemoEnds a shown shown_new NoMemory = Unit {0}
DemoEnds a shown shown_new _ = ⊥

-- Where words ask for a demonstration the run ends so, and nothing is held otherwise than before.
abbrev pub DemoLaw : Type 0
DemoLaw =
    (words : List (List ℕ)) (old new : FilesSeen) (shown shown_new : ConsoleSeen) (status : Status)
    → RunEnds words old new shown shown_new status → (a : AsksForDemo words)
    → DemoEnds a shown shown_new status × ((store : Store) → old.held ≡ Some store → new.held ≡ Some store)
