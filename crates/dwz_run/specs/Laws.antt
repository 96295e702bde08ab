-- What follows of how a run ends. What a run asks for, gets, puts and says is that of its words and of what was held.
use Rattle.std.specs.Prelude.{◌≡◌, ◌⊎◌, ℕ, Bool, true, false, List, [], ◌∷◌, Option, Some, None, is_some, take, slice_get, length, if◌then◌else◌}
use Rattle.dwz_model.specs.declared.fault.Refusal.{Refusal}
use Rattle.dwz_def_reading.specs.Documents.{Doc}
use Rattle.dwz_def_reading.specs.Files.{First, ReadAll, no_files_before}
use Rattle.dwz_def_reading.specs.Finished.{FinishedDocs, FirstFinished, ReadFinished}
use Rattle.dwz_def_reading.specs.Places.{Place}
use Rattle.dwz_def_tops.specs.Lists.{Nth}
use Rattle.dwz_def_readback.specs.AllFiles.{ReadBack, SaysStill, given_if}
use Rattle.dwz_def_readback.specs.Back.{SaysPlaced}
use Rattle.dwz_def_readback.specs.Files.{Run, fitted}
use Rattle.dwz_def_cross.specs.CrossSame.{CrossSame}
use Rattle.dwz_def_check.specs.Answer.{IsSameOf, beside_common}
use Rattle.dwz_def_check.specs.declared.same.Same.{Same}
use Rattle.dwz_def_check.specs.declared.same.Same.TheVariants.{Yes}
use Rattle.dwz_def_check.specs.Texts.{check_text}
use Rattle.dwz_def_expand.specs.OneFile.{OneFile}
use Rattle.dwz_def_expand.specs.NewFile.{NewRefusal}
use Rattle.dwz_outside.specs.declared.puts.Put.{Put}
use Rattle.dwz_outside.specs.Counts.{Rose}
use Rattle.dwz_outside.specs.Store.{Store, done}
use Rattle.dwz_outside.specs.Told.{FailedWrite, LeavesPuts, ConsoleSeen, StoredWith, FilesSeen}
use Rattle.dwz_report.specs.Texts.{demo_text, refusal_text, summary_text, write_text}
use Rattle.dwz_words.specs.declared.options.Options.{Options}
use Rattle.dwz_words.specs.Asked.{names_got}
use Rattle.dwz_words.specs.Lawful.{Lawful}
use Rattle.dwz_run_course.specs.declared.status.Status.{Status}
use Rattle.dwz_run_course.specs.declared.status.Status.TheVariants.{Done, Refused, Usage, ReadFault, WriteFault, NoMemory, ConsoleFault, Partly, Differs}
use Rattle.dwz_run_course.specs.Demo.{demo_options, new_length, old_length}
use Rattle.dwz_run_course.specs.Ends.{Complete, Ends, Refuses, Says, SaysAll, SaysNothing}
use Rattle.dwz_run_course.specs.Gets.{gets}
use Rattle.dwz_run_course.specs.Outcome.{Outcome, name_of_file}
use Rattle.dwz_gen.specs.Demo.{demo_files}
use Rattle.dwz_def_output.specs.FilesAfter.{bytes_after, common_bytes, file_after, has_common}
use Rattle.dwz_def_output.specs.Laws.{AreTied}
use Rattle.dwz_def_output.specs.Written.{stored_of}
use Rattle.dwz_def_run.specs.Out.{IsRefused, IsWritten, all_puts, common_of, rule_of, run_for, summary_of, sup_name, top_scope_of}
use Rattle.dwz_def_run.specs.Compares.{common_in, tells_apart, two_in}
use Rattle.dwz_def_run.specs.Expands.{IsOneRead, one_in}
use Rattle.dwz_def_run.specs.Stops.{IsMade}
use Rattle.dwz_def_run.specs.Tells.{IsTold, IsUntold}
use Rattle.dwz_def_run.specs.Yields.{Yields}
use Rattle.dwz_run.specs.Batched.{AsksToBatch, DidBatch, IsFirstBatch, StoppedBatch}
use Rattle.dwz_run.specs.Expanding.{AsksToExpand, DidExpand, StoppedOne}
use Rattle.dwz_run.specs.Reusing.{AsksToReuse, DidReuse, IsFirstOver, StoppedOver}

-- how a run ends, by its words, by what is told of the files and of the console before and after, and by its status
abbrev pub RunEnds : List (List ℕ) → FilesSeen → FilesSeen → ConsoleSeen → ConsoleSeen → Status → Type 0
RunEnds words old new shown shown_new status = Ends demo_files Yields words old new shown shown_new status

-- ---- what is asked for

-- the words are lawful and name FILEs to be slimmed, whose contents are held
pub record AsksForFiles (words : List (List ℕ)) (store : Store) : Type 0 where
  pub options : Options
  pub lawful : Lawful words options
  pub no_demo : options.demo ≡ None
  pub slims : options.explain ≡ false
  pub no_check : options.check ≡ false
  pub no_expand : options.expand ≡ false
  pub no_reuse : options.reuse ≡ None
  pub no_batch : options.batch ≡ None
  pub contents : List (List ℕ)
  pub got : gets store 0 options.files ≡ Some contents

-- the words are lawful and ask for a demonstration, with so many units in each of its two files
pub record AsksForDemo (words : List (List ℕ)) : Type 0 where
  pub options : Options
  pub lawful : Lawful words options
  pub units : ℕ
  pub is_demo : options.demo ≡ Some units

-- the words are lawful and ask why two entries aren't shared; the contents of their files are held
pub record AsksForAnswer (words : List (List ℕ)) (store : Store) : Type 0 where
  pub options : Options
  pub lawful : Lawful words options
  pub tells : options.explain ≡ true
  pub contents : List (List ℕ)
  pub got : gets store 0 (names_got options) ≡ Some contents

-- the words are lawful and ask whether two files mean the same; the contents of these are held, and that of their common file, where it is given
pub record AsksToCompare (words : List (List ℕ)) (store : Store) : Type 0 where
  pub options : Options
  pub lawful : Lawful words options
  pub compares : options.check ≡ true
  pub contents : List (List ℕ)
  pub got : gets store 0 (names_got options) ≡ Some contents

-- one of these
pub data Asks (words : List (List ℕ)) (store : Store) : Type 0 where
  for_files : AsksForFiles words store → Asks words store
  for_demo : AsksForDemo words → Asks words store
  for_answer : AsksForAnswer words store → Asks words store
  to_compare : AsksToCompare words store → Asks words store
  to_expand : AsksToExpand words store → Asks words store
  to_reuse : AsksToReuse words store → Asks words store
  to_batch : AsksToBatch words store → Asks words store

-- the options of the work: for a demonstration, those by which its two files are given a common one
abbrev pub work_options : {words : List (List ℕ)} {store : Store} → Asks words store → Options
work_options (for_files a) = a.options
work_options (for_demo a) = demo_options a.options
work_options (for_answer a) = a.options
work_options (to_compare a) = a.options
work_options (to_expand a) = a.options
work_options (to_reuse a) = a.options
work_options (to_batch a) = a.options

-- the contents of the files that are worked on
abbrev pub work_contents : {words : List (List ℕ)} {store : Store} → Asks words store → List (List ℕ)
work_contents (for_files a) = a.contents
work_contents (for_demo a) = demo_files a.units
work_contents (for_answer a) = a.contents
work_contents (to_compare a) = a.contents
work_contents (to_expand a) = a.contents
work_contents (to_reuse a) = a.contents
work_contents (to_batch a) = a.contents

-- ---- what comes of it

-- The contents read as documents, and nothing refuses what comes of them. And that reads back, the files with the common one, if there is
-- one: it says the same as what was read, along images, with imports expanded (DWARF 5, 3.2.5), and entries share an image exactly where
-- they move and nothing tells them apart. Each file that imports from the common one has its name and its checksum (DWARF 5, 7.3.6).
pub record HasOutput (o : Options) (contents : List (List ℕ)) : Type 0 where
  pub docs : List (Doc ℕ)
  pub prunes : List Bool
  pub written : IsWritten o contents docs prunes
  pub back : ReadBack (top_scope_of o) docs (rule_of o docs) (stored_of contents prunes)
      (file_after (sup_name o) (run_for o contents docs prunes)) (common_of o.common (run_for o contents docs prunes))
  pub tied : AreTied (sup_name o) (run_for o contents docs prunes)

-- the run of these files
abbrev pub run_in : {o : Options} {contents : List (List ℕ)} → HasOutput o contents → Run
run_in {o} {contents} out = run_for o contents out.docs out.prunes

-- what is put, in order: first the common file, if there is one
abbrev pub puts_in : {o : Options} {contents : List (List ℕ)} → HasOutput o contents → List Put
puts_in {o} out = all_puts o (run_in out)

-- ---- all is done

-- where the bytes of a file go: to its name, or to that of the one output
abbrev pub goes_to : Option (List ℕ) → List ℕ → List ℕ
goes_to None name = name
goes_to (Some out) name = out

-- Each FILE, or else the one output, holds the bytes that the file has after: those that are made of it, or its own where nothing moves.
-- And the name of the common file, if there is one, holds that.
pub record HoldAfter (o : Options) (r : Run) (now : Store) : Type 0 where
  pub files : (file : ℕ) (name : List ℕ) → Nth 0 o.files file name → now (goes_to o.out name) ≡ Some (bytes_after (sup_name o) r file)
  pub common : (name : List ℕ) → o.common ≡ Some name → has_common r ≡ true → now name ≡ Some (common_bytes r)

-- the line of the common file and of each file, unless there is to be none
abbrev pub said : Options → Run → List ℕ
said o r = if o.quiet then [] else summary_text (summary_of o r)

-- All is put, in order, each once, and nothing else; so the FILEs hold what they have after, and the common file is there. And this is the text of it.
pub record DidAll (words : List (List ℕ)) (store : Store) (old new : FilesSeen) (text : List ℕ) : Type 0 where
  pub asks : AsksForFiles words store
  pub out : HasOutput asks.options asks.contents
  pub held : new.held ≡ Some (done (puts_in out) store)
  pub stored : StoredWith old new (puts_in out)
  pub after : HoldAfter asks.options (run_in out) (done (puts_in out) store)
  pub text_is : text ≡ said asks.options (run_in out)

-- the one line of a demonstration: its units, the bytes of all files before and after, with the common file, and the partial units
abbrev pub demo_said : Options → ℕ → Run → List ℕ
demo_said o units r =
    let s = summary_of (demo_options o) r in
    if o.quiet then [] else demo_text units (old_length s) (new_length s) (length r.move.parts)

-- this is the text of a demonstration: of what comes of its two files with a common one
pub record IsDemoText {words : List (List ℕ)} (a : AsksForDemo words) (text : List ℕ) : Type 0 where
  pub out : HasOutput (demo_options a.options) (demo_files a.units)
  pub text_is : text ≡ demo_said a.options a.units (run_in out)

-- so it is, and nothing is put: nothing is held otherwise than before
pub record DidDemo (words : List (List ℕ)) (store : Store) (old new : FilesSeen) (text : List ℕ) : Type 0 where
  pub asks : AsksForDemo words
  pub is_text : IsDemoText asks text
  pub held : new.held ≡ Some store
  pub stored : StoredWith old new []

-- The files were held and read as documents, and the text says why the two entries aren't shared. Nothing is put: nothing is held otherwise than
-- before.
pub record DidTell (words : List (List ℕ)) (store : Store) (old new : FilesSeen) (text : List ℕ) : Type 0 where
  pub asks : AsksForAnswer words store
  pub docs : List (Doc ℕ)
  pub reads : ReadAll no_files_before asks.contents docs
  pub is_text : IsTold asks.options docs text
  pub held : new.held ≡ Some store
  pub stored : StoredWith old new []

-- The two files were held, with their common file where it is given, and read, as files that may have been written; that is what is to be said of
-- them, and the text is its line. Nothing is put: nothing is held otherwise than before.
pub record DidCompare (words : List (List ℕ)) (store : Store) (old new : FilesSeen) (text : List ℕ) (same : Same) : Type 0 where
  pub asks : AsksToCompare words store
  pub said : FinishedDocs
  pub reads : ReadFinished (common_in asks.options.sup asks.contents) (two_in asks.options.sup asks.contents) said
  pub is_same : IsSameOf said same
  pub text_is : text ≡ check_text same
  pub held : new.held ≡ Some store
  pub stored : StoredWith old new []

abbrev pub Did : List (List ℕ) → Store → FilesSeen → FilesSeen → List ℕ → Type 0
Did words store old new text =
    DidAll words store old new text
    ⊎ (DidDemo words store old new text ⊎ (DidTell words store old new text
    ⊎ (DidExpand words store old new text ⊎ (DidReuse words store old new text
    ⊎ (DidBatch words store old new text false ⊎ DidCompare words store old new text Yes)))))

-- two files were compared, and what is said of them is by what they differ
abbrev pub FoundApart : List (List ℕ) → Store → FilesSeen → FilesSeen → List ℕ → Type 0
FoundApart words store old new text = (same : Same) × (tells_apart same ≡ true) × DidCompare words store old new text same

-- Where a run answers Done its FILEs were held and read; all is put, and reads back; and its text is written, once. Or it is a demonstration, or it
-- says why two entries aren't shared, or one FILE is put without its partial units, or FILEs over a finished common one, together or each as if it
-- were alone with it, or two files mean the same.
abbrev pub DoneLaw : Type 0
DoneLaw =
    (words : List (List ℕ)) (old new : FilesSeen) (shown shown_new : ConsoleSeen) → RunEnds words old new shown shown_new Done
    → (store : Store) → old.held ≡ Some store
    → (text : List ℕ) × Did words store old new text × SaysAll shown shown_new text

-- where it answers Differs it says by what two files differ
abbrev pub ApartLaw : Type 0
ApartLaw =
    (words : List (List ℕ)) (old new : FilesSeen) (shown shown_new : ConsoleSeen) → RunEnds words old new shown shown_new Differs
    → (store : Store) → old.held ≡ Some store
    → (text : List ℕ) × FoundApart words store old new text × SaysAll shown shown_new text

-- Where it answers ConsoleFault all is put as well, or compared. There is a text, and since the console failed nothing of it is written.
abbrev pub SilentLaw : Type 0
SilentLaw =
    (words : List (List ℕ)) (old new : FilesSeen) (shown shown_new : ConsoleSeen) → RunEnds words old new shown shown_new ConsoleFault
    → (store : Store) → old.held ≡ Some store
    → (text : List ℕ) × (Did words store old new text ⊎ (FoundApart words store old new text ⊎ DidBatch words store old new text true))
    × SaysNothing shown shown_new text

-- what comes of options and contents is the same for every number of workers
abbrev pub WorkersLaw : Type 0
WorkersLaw =
    (o : Options) (n : ℕ) (contents : List (List ℕ)) (outcome : Outcome) → Yields o contents outcome
    → Yields (record o { workers = n }) contents outcome

-- ---- why something else is answered

-- a status before which nothing is put
abbrev pub PutsNothing : Status → Type 0
PutsNothing Usage = Unit {0}
PutsNothing Refused = Unit {0}
PutsNothing ReadFault = Unit {0}
PutsNothing NoMemory = Unit {0}
PutsNothing _ = ⊥

abbrev pub NothingLaw : Type 0
NothingLaw =
    (words : List (List ℕ)) (old new : FilesSeen) (shown shown_new : ConsoleSeen) (status : Status)
    → RunEnds words old new shown shown_new status
    → PutsNothing status → LeavesPuts old new

-- the contents read as documents, and that is the first fault of what comes of them; or the first of two places at which no top begins that may move
abbrev pub IsRefusedBy : Bool → Options → List (List ℕ) → Refusal → Type 0
IsRefusedBy false o contents r = (docs : List (Doc ℕ)) × (prunes : List Bool) × IsRefused o contents docs prunes r
IsRefusedBy true o contents r = (docs : List (Doc ℕ)) × ReadAll no_files_before contents docs × IsUntold o docs r

-- the first fault of reading these contents, or of what comes of them; of two files that are compared the first of reading them, with their common
-- file; of one that is written without its partial units that, or the first of what is written
abbrev pub IsFirstOf : (explain check expand : Bool) → Options → List (List ℕ) → Refusal → Type 0
IsFirstOf true check expand o contents r = First no_files_before 0 contents r ⊎ IsRefusedBy true o contents r
IsFirstOf false true expand o contents r = FirstFinished (common_in o.sup contents) (two_in o.sup contents) r
IsFirstOf false false true o contents r =
    FirstFinished (common_in o.sup contents) (one_in o.sup contents ∷ []) r
    ⊎ ((f : OneFile) × IsOneRead (common_in o.sup contents) (one_in o.sup contents) f × NewRefusal f r)
IsFirstOf false false false o contents r = First no_files_before 0 contents r ⊎ IsRefusedBy false o contents r

-- or of files over a finished common file the first of reading them behind that, or of what is written
abbrev pub IsFirstIn : Option (List ℕ) → Options → List (List ℕ) → Refusal → Type 0
IsFirstIn None o = IsFirstOf o.explain o.check o.expand o
IsFirstIn (Some common) o = IsFirstOver o

-- or of many files over one, each as if it were alone, the first that refuses all
abbrev pub IsFirstAmong : Option (List ℕ) → Options → List (List ℕ) → Refusal → Type 0
IsFirstAmong None o = IsFirstIn o.reuse o
IsFirstAmong (Some common) o = IsFirstBatch o

abbrev pub IsFirstRefusal : Options → List (List ℕ) → Refusal → Type 0
IsFirstRefusal o = IsFirstAmong o.batch o

-- what is asked for is refused with its first fault, which is named, with its file
pub record WasRefused (words : List (List ℕ)) (store : Store) (text : List ℕ) : Type 0 where
  pub asks : Asks words store
  pub refusal : Refusal
  pub is_first : IsFirstRefusal (work_options asks) (work_contents asks) refusal
  pub text_is : text ≡ refusal_text (name_of_file (work_options asks) refusal.file) refusal

-- Where a run answers Refused there is such a fault, and the text names it.
abbrev pub RefusedLaw : Type 0
RefusedLaw =
    (words : List (List ℕ)) (old new : FilesSeen) (shown shown_new : ConsoleSeen) → RunEnds words old new shown shown_new Refused
    → (store : Store) → old.held ≡ Some store
    → (text : List ℕ) × WasRefused words store text × Says shown shown_new Refused text

-- where the words aren't lawful it answers Usage, unless memory ran out; and only there
abbrev pub UsageLaw : Type 0
UsageLaw =
    (words : List (List ℕ)) (old new : FilesSeen) (shown shown_new : ConsoleSeen) (status : Status)
    → RunEnds words old new shown shown_new status
    → (((o : Options) → ¬ (Lawful words o)) → (status ≡ Usage) ⊎ (status ≡ NoMemory))
    × (status ≡ Usage → (o : Options) → ¬ (Lawful words o))

-- ---- which status is answered where nothing outside fails

-- no get, no put and no writing of a text failed
pub record NoneFailed (old new : FilesSeen) (shown shown_new : ConsoleSeen) : Type 0 where
  pub reads : ¬ (Rose old.read_faults new.read_faults)
  pub writes : ¬ (Rose old.write_faults new.write_faults)
  pub texts : ¬ (Rose shown.faults shown_new.faults)

abbrev pub AnswerLaw : Type 0
AnswerLaw =
    (words : List (List ℕ)) (old new : FilesSeen) (shown shown_new : ConsoleSeen) (status : Status)
    → RunEnds words old new shown shown_new status
    → NoneFailed old new shown shown_new → (o : Options) → Lawful words o
    → (status ≡ Done) ⊎ (status ≡ Refused) ⊎ (status ≡ NoMemory) ⊎ ((status ≡ Differs) × (o.check ≡ true))
    ⊎ ((status ≡ Partly) × (is_some o.batch ≡ true))

-- Done, where there is no first refusal; of two files that are compared Done or Differs, and of many files, each by itself, Done or Partly
abbrev pub CompleteLaw : Type 0
CompleteLaw =
    (words : List (List ℕ)) (old new : FilesSeen) (shown shown_new : ConsoleSeen) (status : Status)
    → Complete demo_files Yields words old new shown shown_new status → NoneFailed old new shown shown_new
    → (store : Store) → old.held ≡ Some store → (a : Asks words store)
    → ((r : Refusal) → ¬ IsFirstRefusal (work_options a) (work_contents a) r)
    → (status ≡ Done) ⊎ (status ≡ NoMemory) ⊎ ((status ≡ Differs) × ((work_options a).check ≡ true))
    ⊎ ((status ≡ Partly) × (is_some (work_options a).batch ≡ true))

-- Where two files that are compared read, it is Done exactly if they mean the same, imports expanded, and else Differs.
abbrev pub CompareLaw : Type 0
CompareLaw =
    (words : List (List ℕ)) (old new : FilesSeen) (shown shown_new : ConsoleSeen) (status : Status)
    → Complete demo_files Yields words old new shown shown_new status → NoneFailed old new shown shown_new
    → (store : Store) → old.held ≡ Some store → (a : AsksToCompare words store) (said : FinishedDocs) (first second : Doc Place)
    → ReadFinished (common_in a.options.sup a.contents) (two_in a.options.sup a.contents) said → said.docs ≡ first ∷ second ∷ []
    → (CrossSame (beside_common said first) (beside_common said second) → (status ≡ Done) ⊎ (status ≡ NoMemory))
    × (¬ CrossSame (beside_common said first) (beside_common said second) → (status ≡ Differs) ⊎ (status ≡ NoMemory))

-- Refused, where there is a first refusal
abbrev pub RefusesLaw : Type 0
RefusesLaw =
    (words : List (List ℕ)) (old new : FilesSeen) (status : Status) → Refuses demo_files Yields words old new status
    → ¬ (Rose old.read_faults new.read_faults)
    → (store : Store) → old.held ≡ Some store → (a : Asks words store) (r : Refusal) → IsFirstRefusal (work_options a) (work_contents a) r
    → (status ≡ Refused) ⊎ (status ≡ NoMemory)

-- ---- a put failed

-- A FILE reads as before: it holds what was read, which says the same also where a common file is put beside it; or what is made of it,
-- and then the common file stands, if there is one, with which that says the units that it has after.
abbrev pub ReadsOn : {o : Options} {contents : List (List ℕ)} → HasOutput o contents → Store → ℕ → List ℕ → Type 0
ReadsOn {o} out now file name =
    let r = run_in out in
    let common = given_if r out.back.place (common_of o.common r) out.back.back.common in
    ((now name ≡ Some (r.input.bytes file)) × ((doc : Doc ℕ) → Nth 0 out.docs file doc → SaysStill common file (r.input.bytes file) doc))
    ⊎ (IsMade o r now file name × SaysPlaced r out.back.place common file (file_after (sup_name o) r file) (fitted r file))

-- each FILE does
abbrev pub ReadOn : {o : Options} {contents : List (List ℕ)} → HasOutput o contents → Store → Type 0
ReadOn {o} out now = (file : ℕ) (name : List ℕ) → Nth 0 o.files file name → ReadsOn out now file name

-- The first puts are done, each once, and the next one failed, and was the last that did. Each FILE is as it was, or as it is made, and reads as
-- before.
pub record StoppedAt (words : List (List ℕ)) (store : Store) (old new : FilesSeen) (text : List ℕ) : Type 0 where
  pub asks : AsksForFiles words store
  pub out : HasOutput asks.options asks.contents
  pub count : ℕ
  pub failed : Put
  pub next : slice_get (puts_in out) count ≡ Some failed
  pub fault : FailedWrite old new failed.name
  pub held : new.held ≡ Some (done (take count (puts_in out)) store)
  pub stored : StoredWith old new (take count (puts_in out))
  pub after : ReadOn out (done (take count (puts_in out)) store)
  pub text_is : text ≡ write_text failed.name

abbrev pub StoppedLaw : Type 0
StoppedLaw =
    (words : List (List ℕ)) (old new : FilesSeen) (shown shown_new : ConsoleSeen) → RunEnds words old new shown shown_new WriteFault
    → (store : Store) → old.held ≡ Some store
    → (text : List ℕ)
    × (StoppedAt words store old new text
    ⊎ (StoppedOne words store old new text ⊎ (StoppedOver words store old new text ⊎ StoppedBatch words store old new text)))
    × Says shown shown_new WriteFault text

-- however many puts are done
abbrev pub PrefixesLaw : Type 0
PrefixesLaw =
    (words : List (List ℕ)) (store : Store) (a : AsksForFiles words store) (out : HasOutput a.options a.contents) (count : ℕ)
    → ReadOn out (done (take count (puts_in out)) store)
