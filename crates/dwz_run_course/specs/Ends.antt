-- How a run ends, and what it leaves.
use Rattle.std.specs.Prelude.{◌≡◌, ◌⊎◌, ℕ, Bool, true, false, List, [], ◌∷◌, ◌++◌, ◌^◌, Option, Some, None, IfSome, IsSome, Contains, ◌&&◌, if◌then◌else◌}
use Rattle.dwz_outside.specs.declared.puts.Put.{Put}
use Rattle.dwz_outside.specs.Counts.{Rose}
use Rattle.dwz_outside.specs.Store.{Store}
use Rattle.dwz_outside.specs.Told.{ConsoleSeen, FailedRead, FilesSeen, LeavesPuts}
use Rattle.dwz_words.specs.declared.options.Options.{Options}
use Rattle.dwz_words.specs.Asked.{names_got}
use Rattle.dwz_words.specs.Lawful.{Lawful}
use Rattle.dwz_model.specs.declared.fault.Refusal.{Refusal}
use Rattle.dwz_report.specs.declared.summary.Summary.{Summary}
use Rattle.dwz_report.specs.Texts.{demo_text, memory_text, read_text, refusal_text, summary_text, usage_text, write_text}
use Rattle.dwz_run_course.specs.declared.output.Output.{Output}
use Rattle.dwz_run_course.specs.declared.output.Said.{Said}
use Rattle.dwz_run_course.specs.declared.output.Said.TheVariants.{Parts, Slimmed}
use Rattle.dwz_run_course.specs.declared.output.TextPart.{TextPart}
use Rattle.dwz_run_course.specs.declared.status.Status.{Status}
use Rattle.dwz_run_course.specs.declared.status.Status.TheVariants.{Done, Refused, Usage, ReadFault, WriteFault, NoMemory, ConsoleFault, Partly, Differs}
use Rattle.dwz_run_course.specs.Demo.{asked, new_length, old_length}
use Rattle.dwz_run_course.specs.Gets.{AreOfBytes, gets_by, longest_behind}
use Rattle.dwz_run_course.specs.Outcome.{Giving, Outcome, name_of_file, refuses, writes}
use Rattle.dwz_run_course.specs.Puts.{PutsDone, PutsStopped}

-- ---- what is worked on, and what comes of it

-- The contents of these names as they were got, or those that are made for a demonstration. A file behind the first may be so long by itself
-- without an end of the gets.
abbrev pub AreContents : (ℕ → List (List ℕ)) → Option ℕ → ℕ → FilesSeen → List (List ℕ) → List (List ℕ) → Type 0
AreContents makes None behind old names contents = IfSome old.held (λ store. gets_by (2 ^ 28) behind store 0 names ≡ Some contents)
AreContents makes (Some n) behind old names contents = contents ≡ makes n

-- the words are lawful, the contents that they ask for are there, each of bytes, and this is what the work gives for them
pub record Came (makes : ℕ → List (List ℕ)) (gives : Giving) (words : List (List ℕ)) (old : FilesSeen) (outcome : Outcome) : Type 0 where
  pub options : Options
  pub lawful : Lawful words options
  pub contents : List (List ℕ)
  pub are : AreContents makes options.demo (longest_behind options) old (names_got options) contents
  pub bytes : AreOfBytes contents
  pub given : gives (asked options) contents outcome

-- ---- before the text is written

-- what is put: nothing for a demonstration
abbrev pub puts_unless_demo : Option ℕ → Output → List Put
puts_unless_demo None out = out.puts
puts_unless_demo (Some n) out = []

-- what is said of files that were slimmed: a line for each, or one line of a demonstration
abbrev pub slimmed_text : Option ℕ → Summary → ℕ → List ℕ
slimmed_text None summary partials = summary_text summary
slimmed_text (Some n) summary partials = demo_text n (old_length summary) (new_length summary) partials

-- the parts of an answer, one behind the other, without those that are summaries where the words ask for quiet
abbrev pub parts_text : Bool → List TextPart → List ℕ
parts_text quiet [] = []
parts_text quiet (part ∷ parts) = (if quiet && part.is_summary then [] else part.text) ++ parts_text quiet parts

-- what is said of what was done; where the words ask for quiet, nothing that sums it up
abbrev pub said_text : Options → Said → List ℕ
said_text o (Slimmed summary partials) = if o.quiet then [] else slimmed_text o.demo summary partials
said_text o (Parts parts) = parts_text o.quiet parts

-- the text of a run that did all
abbrev pub done_text : Options → Output → List ℕ
done_text o out = said_text o out.said

-- the status of a run that did all: whether two files that were compared differ, and whether some files are refused, each by itself
abbrev pub finished : (differs partly : Bool) → Status
finished true partly = Differs
finished false true = Partly
finished false false = Done

-- what each status says of the words, of the files before and after, and of the text; that of a run whose text isn't written, of the text that
-- isn't
abbrev pub EndsFor : (ℕ → List (List ℕ)) → Giving → List (List ℕ) → FilesSeen → FilesSeen → Status → List ℕ → Type 0
EndsFor makes gives words old new Done text =
    (out : Output) × (came : Came makes gives words old (writes out)) × PutsDone old new (puts_unless_demo came.options.demo out)
    × (text ≡ done_text came.options out) × (out.differs ≡ false) × (out.partly ≡ false)
EndsFor makes gives words old new Differs text =
    (out : Output) × (came : Came makes gives words old (writes out)) × PutsDone old new (puts_unless_demo came.options.demo out)
    × (text ≡ done_text came.options out) × (out.differs ≡ true)
EndsFor makes gives words old new Partly text =
    (out : Output) × (came : Came makes gives words old (writes out)) × PutsDone old new (puts_unless_demo came.options.demo out)
    × (text ≡ done_text came.options out) × (out.differs ≡ false) × (out.partly ≡ true)
EndsFor makes gives words old new Refused text =
    (r : Refusal) × (came : Came makes gives words old (refuses r)) × LeavesPuts old new
    × (text ≡ refusal_text (name_of_file (asked came.options) r.file) r)
EndsFor makes gives words old new Usage text = ((o : Options) → ¬ (Lawful words o)) × (new ≡ old) × (text ≡ usage_text)
EndsFor makes gives words old new ReadFault text =
    (name : List ℕ) × (o : Options) × Lawful words o × Contains (names_got o) name × FailedRead old new name × LeavesPuts old new
    × (text ≡ read_text name)
EndsFor makes gives words old new WriteFault text =
    (out : Output) × (came : Came makes gives words old (writes out)) × (name : List ℕ)
    × PutsStopped old new (puts_unless_demo came.options.demo out) name × (text ≡ write_text name)
EndsFor makes gives words old new NoMemory text = LeavesPuts old new × (text ≡ memory_text)
EndsFor makes gives words old new ConsoleFault text =
    (out : Output) × (came : Came makes gives words old (writes out)) × PutsDone old new (puts_unless_demo came.options.demo out)
    × (text ≡ done_text came.options out)

-- ---- the text

-- the text is written once
abbrev pub Wrote : ConsoleSeen → ConsoleSeen → List ℕ → Type 0
Wrote old new text = IfSome old.text (λ before. new.text ≡ Some (before ++ text))

-- nothing was written, since the console failed
pub record Unwritten (old new : ConsoleSeen) : Type 0 where
  pub rose : Rose old.faults new.faults
  pub text : new.text ≡ old.text

-- a text is written, unless it is empty
abbrev pub SaysAll : ConsoleSeen → ConsoleSeen → List ℕ → Type 0
SaysAll old new [] = new ≡ old
SaysAll old new (byte ∷ text) = Wrote old new (byte ∷ text)

-- there is a text, and it isn't written
abbrev pub SaysNothing : ConsoleSeen → ConsoleSeen → List ℕ → Type 0
SaysNothing old new [] = ⊥
SaysNothing old new (byte ∷ text) = Unwritten old new

-- What each status says of the console before and after. Only a run that did all ends otherwise where the console fails.
abbrev pub Says : ConsoleSeen → ConsoleSeen → Status → List ℕ → Type 0
Says old new Done text = SaysAll old new text
Says old new Differs text = SaysAll old new text
Says old new Partly text = SaysAll old new text
Says old new ConsoleFault text = SaysNothing old new text
Says old new _ text = SaysAll old new text ⊎ SaysNothing old new text

-- how a run ends
pub record Ends (makes : ℕ → List (List ℕ)) (gives : Giving) (words : List (List ℕ)) (old new : FilesSeen)
    (shown shown_new : ConsoleSeen) (status : Status) : Type 0 where
  pub text : List ℕ
  pub files : EndsFor makes gives words old new status text
  pub console : Says shown shown_new status text

-- a demonstration neither gets nor puts
abbrev pub LeavesFiles : List (List ℕ) → FilesSeen → FilesSeen → Type 0
LeavesFiles words old new = (o : Options) → Lawful words o → IsSome o.demo → new ≡ old

-- Which get failed last is as it was, unless the run ends because one did; where memory runs out nothing is said of it.
abbrev pub KeepsLastRead : Status → FilesSeen → FilesSeen → Type 0
KeepsLastRead ReadFault old new = Unit {0}
KeepsLastRead NoMemory old new = Unit {0}
KeepsLastRead _ old new = new.last_read ≡ old.last_read

-- ---- the other way round

-- all of these names are held, and have these contents; those that are made count as held
abbrev pub AreHeld : (ℕ → List (List ℕ)) → Option ℕ → ℕ → FilesSeen → List (List ℕ) → List (List ℕ) → Type 0
AreHeld makes None behind old names contents =
    (store : Store) × (old.held ≡ Some store) × (gets_by (2 ^ 28) behind store 0 names ≡ Some contents)
AreHeld makes (Some n) behind old names contents = contents ≡ makes n

-- the words are lawful, all that they ask for is held, and this is what the work gives for it
pub record AsksFor (makes : ℕ → List (List ℕ)) (gives : Giving) (words : List (List ℕ)) (old : FilesSeen) (outcome : Outcome) : Type 0 where
  pub options : Options
  pub lawful : Lawful words options
  pub contents : List (List ℕ)
  pub held : AreHeld makes options.demo (longest_behind options) old (names_got options) contents
  pub given : gives (asked options) contents outcome

-- what is asked for is done, unless memory ran out or something failed
abbrev pub Complete : (ℕ → List (List ℕ)) → Giving → List (List ℕ) → FilesSeen → FilesSeen → ConsoleSeen → ConsoleSeen → Status → Type 0
Complete makes gives words old new shown shown_new status =
    (out : Output) → AsksFor makes gives words old (writes out)
    → ¬ (Rose old.read_faults new.read_faults) → ¬ (Rose old.write_faults new.write_faults) → ¬ (Rose shown.faults shown_new.faults)
    → (status ≡ finished out.differs out.partly) ⊎ (status ≡ NoMemory)

-- and it is refused where the work refuses it, unless memory ran out or a get failed
abbrev pub Refuses : (ℕ → List (List ℕ)) → Giving → List (List ℕ) → FilesSeen → FilesSeen → Status → Type 0
Refuses makes gives words old new status =
    (r : Refusal) → AsksFor makes gives words old (refuses r) → ¬ (Rose old.read_faults new.read_faults)
    → (status ≡ Refused) ⊎ (status ≡ NoMemory)
