-- How a run ends by what its work gives is how it ends by what comes of options and contents.
use Rattle.std.proofs.Common.{◌≡◌, ℕ, List, Result, Ok, Err}
use Rattle.dwz_model.specs.declared.fault.GraphErr.{GraphErr}
use Rattle.dwz_model.specs.declared.fault.GraphErr.TheVariants.{NoMemory as Failed, Refused as Refusing}
use Rattle.dwz_def_run.specs.Yields.{Yields}
use Rattle.dwz_def_run.proofs.OneYields.{one_yields}
use Rattle.dwz_gen.specs.Demo.{demo_files}
use Rattle.dwz_outside.specs.Told.{ConsoleSeen, FilesSeen}
use Rattle.dwz_run_course.specs.declared.output.Output.{Output}
use Rattle.dwz_run_course.specs.declared.status.Status.{Status}
use Rattle.dwz_run_course.specs.declared.status.Status.TheVariants.{ConsoleFault, Differs, Done, NoMemory, Partly, ReadFault, Refused, Usage, WriteFault}
use Rattle.dwz_run_course.specs.Answers.{IsAnswer}
use Rattle.dwz_run_course.specs.Ends.{AsksFor, Came, Complete, Ends, EndsFor, Refuses}
use Rattle.dwz_run_course.specs.Outcome.{Outcome}
use Rattle.dwz_words.specs.declared.options.Options.{Options}
use Rattle.dwz_run.specs.Given.{Gives}

pub answer_given : (o : Options) (contents : List (List ℕ)) (result : Result Output GraphErr) → IsAnswer (Yields o contents) result → IsAnswer (Gives o contents) result
answer_given o contents (Ok out) is = ((is.0, one_yields), is.1)
answer_given o contents (Err (Refusing r)) is = ((is.0, one_yields), is.1)
answer_given o contents (Err Failed) is = is

module _ (words : List (List ℕ)) (old new : FilesSeen) where
  came : (outcome : Outcome) → Came demo_files Gives words old outcome → Came demo_files Yields words old outcome
  came outcome c = record { options = c.options; lawful = c.lawful; contents = c.contents; are = c.are; bytes = c.bytes; given = c.given.0 }

  asks : (outcome : Outcome) → AsksFor demo_files Yields words old outcome → AsksFor demo_files Gives words old outcome
  asks outcome a = record { options = a.options; lawful = a.lawful; contents = a.contents; held = a.held; given = (a.given, one_yields) }

  for_status : (status : Status) (text : List ℕ) → EndsFor demo_files Gives words old new status text → EndsFor demo_files Yields words old new status text
  unfolding came
  for_status Done text e = (e.0, came _ e.1, e.2, e.3, e.4, e.5)
  for_status Differs text e = (e.0, came _ e.1, e.2, e.3, e.4)
  for_status Partly text e = (e.0, came _ e.1, e.2, e.3, e.4, e.5)
  for_status Refused text e = (e.0, came _ e.1, e.2, e.3)
  for_status Usage text e = e
  for_status ReadFault text e = e
  for_status WriteFault text e = (e.0, came _ e.1, e.2, e.3, e.4)
  for_status NoMemory text e = e
  for_status ConsoleFault text e = (e.0, came _ e.1, e.2, e.3)

  module _ (shown shown_new : ConsoleSeen) (status : Status) where
    pub ends_given : Ends demo_files Gives words old new shown shown_new status → Ends demo_files Yields words old new shown shown_new status
    ends_given e = record { text = e.text; files = for_status status e.text e.files; console = e.console }

    pub complete_given : Complete demo_files Gives words old new shown shown_new status → Complete demo_files Yields words old new shown shown_new status
    complete_given c = λ out a reads writes texts. c out (asks _ a) reads writes texts

    pub refuses_given : Refuses demo_files Gives words old new status → Refuses demo_files Yields words old new status
    refuses_given c = λ r a reads. c r (asks _ a) reads
