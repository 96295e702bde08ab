-- How a run ends whose words ask for a demonstration: they ask for nothing else, so what came is of its two files, and nothing was put.
use Rattle.std.proofs.Common.{◌≡◌, ℕ, true, false, List, [], length, Option, Some, sym, ap, subst, ◌∙◌, arith}
use Rattle.std.specs.Prelude.{Contains}
use Rattle.dwz_model.specs.declared.fault.Refusal.{Refusal}
use Rattle.dwz_outside.specs.Store.{Store}
use Rattle.dwz_outside.specs.Told.{ConsoleSeen, FilesSeen, LeavesPuts}
use Rattle.dwz_report.specs.Texts.{refusal_text}
use Rattle.dwz_words.specs.declared.options.Options.{Options}
use Rattle.dwz_words.specs.Asked.{names_got}
use Rattle.dwz_words.specs.Lawful.{Lawful}
use Rattle.dwz_words.proofs.Fits.{no_batch_with_demo, no_reuse_with_demo, with_demo}
use Rattle.dwz_run_course.specs.declared.output.Output.{Output}
use Rattle.dwz_run_course.specs.declared.status.Status.{Status}
use Rattle.dwz_run_course.specs.declared.status.Status.TheVariants.{Done, Refused, Usage, ReadFault, WriteFault, NoMemory, ConsoleFault, Partly, Differs}
use Rattle.dwz_run_course.specs.Demo.{asked, asked_by, demo_options}
use Rattle.dwz_run_course.specs.Ends.{AreContents, Came, Says, done_text, puts_unless_demo}
use Rattle.dwz_run_course.specs.Gets.{longest_behind}
use Rattle.dwz_run_course.specs.Outcome.{Outcome, name_of_file, refuses, writes}
use Rattle.dwz_run_course.specs.Puts.{PutsDone}
use Rattle.dwz_gen.specs.Demo.{demo_files}
use Rattle.dwz_def_run.specs.Out.{Slims}
use Rattle.dwz_def_run.proofs.Gotten.{got_files}
use Rattle.dwz_def_run.specs.Yields.{Yields}
use Rattle.dwz_run.specs.DemoLaws.{DemoEnds}
use Rattle.dwz_run.specs.Laws.{AsksForDemo, IsDemoText, RunEnds}
use Rattle.dwz_run.proofs.AllDone.{with_puts}
use Rattle.dwz_run.proofs.Causes.{demo_refused}
use Rattle.dwz_run.proofs.Outputs.{demo_said_of}
use Rattle.dwz_run.proofs.Stopped.{none_fails}

-- words ask for one thing
one_asked : (words : List (List ℕ)) (a b : Options) → Lawful words a → Lawful words b → a ≡ b
one_asked words a b x y = x.values ∙ sym y.values

-- a demonstration has no FILEs
none_named : (files : List (List ℕ)) (name : List ℕ) → length files ≡ 0 → Contains files name → ⊥
none_named files name none there = let less = there.1 in omega (arith, none, less)

module _ (words : List (List ℕ)) (old new : FilesSeen) (shown shown_new : ConsoleSeen) (a : AsksForDemo words) where
  abbrev o : Options
  o = a.options

  no_files : length o.files ≡ 0
  no_files = (with_demo o a.lawful.fit a.units a.is_demo).0

  -- so none are got
  none_got : (name : List ℕ) → Contains (names_got o) name → ⊥
  none_got name there =
      let fit = with_demo o a.lawful.fit a.units a.is_demo in
      let names = got_files o a.lawful.fit fit.2 fit.3 fit.4 (no_reuse_with_demo o a.lawful.fit a.units a.is_demo)
      (no_batch_with_demo o a.lawful.fit a.units a.is_demo) in
      none_named o.files name no_files (subst (λ (ns : List (List ℕ)). Contains ns name) names there)

  -- what came is of the demonstration
  same_options : (other : Options) → Lawful words other → other ≡ o
  same_options other lawful = one_asked words other o lawful a.lawful

  is_demo : (other : Options) → Lawful words other → other.demo ≡ Some a.units
  is_demo other lawful = ap (λ (x : Options). x.demo) (same_options other lawful) ∙ a.is_demo

  are_made : (outcome : Outcome) (came : Came demo_files Yields words old outcome) → came.contents ≡ demo_files a.units
  are_made outcome came =
      subst (λ (d : Option ℕ). AreContents demo_files d (longest_behind came.options) old (names_got came.options) came.contents) (is_demo came.options came.lawful) came.are

  of_made : (outcome : Outcome) (came : Came demo_files Yields words old outcome) → Slims (demo_options o) came.contents outcome
  of_made outcome came =
      subst (λ (x : Options). Slims (demo_options x) came.contents outcome) (same_options came.options came.lawful)
      (subst (λ (d : Option ℕ). Yields (asked_by d came.options) came.contents outcome) (is_demo came.options came.lawful) came.given)

  made : (out : Output) (came : Came demo_files Yields words old (writes out)) (text : List ℕ) → text ≡ done_text came.options out → IsDemoText a text
  made out came text is =
      let same = is ∙ ap (λ (x : Options). done_text x out) (same_options came.options came.lawful) in
      subst (IsDemoText a) (sym same) (demo_said_of words a came.contents out (are_made (writes out) came) came.bytes (of_made (writes out) came))

  -- of such an output nothing is put
  no_puts : (out : Output) (other : Options) → Lawful words other → puts_unless_demo other.demo out ≡ []
  no_puts out other lawful = ap (λ (d : Option ℕ). puts_unless_demo d out) (is_demo other lawful)

  refused_text : (r : Refusal) (came : Came demo_files Yields words old (refuses r)) (text : List ℕ)
      → text ≡ refusal_text (name_of_file (asked came.options) r.file) r → text ≡ refusal_text (name_of_file (demo_options o) r.file) r
  refused_text r came text is =
      is ∙ (ap (λ (d : Option ℕ). refusal_text (name_of_file (asked_by d came.options) r.file) r) (is_demo came.options came.lawful)
      ∙ ap (λ (x : Options). refusal_text (name_of_file (demo_options x) r.file) r) (same_options came.options came.lawful))

  ends : (status : Status) → RunEnds words old new shown shown_new status → DemoEnds a shown shown_new status
  ends Done e = (e.text, made e.files.0 e.files.1 e.text e.files.3, e.console)
  ends ConsoleFault e = (e.text, made e.files.0 e.files.1 e.text e.files.3, e.console)
  ends Differs e = absurd (let z : true ≡ false = sym e.files.4 ∙ ap (λ (x : Output). x.differs) (of_made (writes e.files.0) e.files.1).3 in cc)
  ends Partly e = absurd (let z : true ≡ false = sym e.files.5 ∙ ap (λ (x : Output). x.partly) (of_made (writes e.files.0) e.files.1).3 in cc)
  ends Refused e =
      let r = e.files.0 in
      let came = e.files.1 in (
        r,
        demo_refused r o a.units came.contents (are_made (refuses r) came) (of_made (refuses r) came),
        subst (Says shown shown_new Refused) (refused_text r came e.text e.files.3) e.console,
      )
  ends Usage e = e.files.0 o a.lawful
  ends ReadFault e = none_got e.files.0 (subst (λ (x : Options). Contains (names_got x) e.files.0) (same_options e.files.1 e.files.2) e.files.3)
  ends WriteFault e =
      let s = e.files.3 in
      none_fails s.before s.failed s.after (sym (no_puts e.files.0 e.files.1.options e.files.1.lawful) ∙ s.puts_are)
  ends NoMemory e = tt

  -- ---- what is held

  module _ (store : Store) (told : old.held ≡ Some store) where
    left : LeavesPuts old new → new.held ≡ Some store
    left leaves = leaves.held ∙ told

    nothing_put : (out : Output) (other : Options) → Lawful words other → PutsDone old new (puts_unless_demo other.demo out) → new.held ≡ Some store
    nothing_put out other lawful puts = with_puts old new store (puts_unless_demo other.demo out) [] told (no_puts out other lawful) puts.held

    held_still : (status : Status) → RunEnds words old new shown shown_new status → DemoEnds a shown shown_new status → new.held ≡ Some store
    held_still Done e is = nothing_put e.files.0 e.files.1.options e.files.1.lawful e.files.2
    held_still ConsoleFault e is = nothing_put e.files.0 e.files.1.options e.files.1.lawful e.files.2
    held_still Differs e is = absurd is
    held_still Partly e is = absurd is
    held_still Refused e is = left e.files.2
    held_still Usage e is = absurd is
    held_still ReadFault e is = absurd is
    held_still WriteFault e is = absurd is
    held_still NoMemory e is = left e.files.0

  pub demonstrated : (status : Status) → RunEnds words old new shown shown_new status
      → DemoEnds a shown shown_new status × ((store : Store) → old.held ≡ Some store → new.held ≡ Some store)
  demonstrated status e = (ends status e, λ store told. held_still store told status e (ends status e))
