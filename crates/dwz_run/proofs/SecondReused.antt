-- A second call says that files before a first one and after it, which wrote them over a finished common file, mean the same.
use Rattle.std.proofs.Common.{◌≡◌, ◌⊎◌, ℕ, List, [], ◌∷◌, Option, Some, None, get_or, sym, ap, subst, ◌∙◌, arith}
use Rattle.dwz_model.specs.Lists.{Each}
use Rattle.dwz_def_reading.specs.Documents.{Doc}
use Rattle.dwz_def_reading.specs.Finished.{has_sup}
use Rattle.dwz_def_reading.specs.Values.{AreBytes}
use Rattle.dwz_def_tops.specs.Lists.{Nth}
use Rattle.dwz_def_limits.specs.Within.{AreWithinLimits}
use Rattle.dwz_def_check.specs.declared.same.Same.TheVariants.{Yes}
use Rattle.dwz_def_over.specs.Over.{OverFiles, limits_over, run_over}
use Rattle.dwz_def_over.specs.Written.{CanBeWrittenOver}
use Rattle.dwz_def_run.specs.Compares.{Compares, answer_on}
use Rattle.dwz_def_run.specs.Comes.{ComesBy, reusing}
use Rattle.dwz_def_run.specs.Reuses.{HasContents, Reuses, common_got, files_got, puts_over}
use Rattle.dwz_def_run.specs.ReusesStops.{HoldOver}
use Rattle.dwz_def_run.specs.Yields.{Yields, YieldsBy}
use Rattle.dwz_gen.specs.Demo.{demo_files}
use Rattle.dwz_law_run.specs.SameLaws.{before}
use Rattle.dwz_law_run.specs.SameOverLaws.{NamesStanding, bytes_over, compared_over}
use Rattle.dwz_law_run.proofs.SameOverLemmas.{same_over}
use Rattle.dwz_outside.specs.Store.{Store, done}
use Rattle.dwz_outside.specs.Told.{ConsoleSeen, FilesSeen}
use Rattle.dwz_run_course.specs.declared.output.Output.{Output}
use Rattle.dwz_run_course.specs.declared.status.Status.{Status}
use Rattle.dwz_run_course.specs.declared.status.Status.TheVariants.{Done, NoMemory}
use Rattle.dwz_run_course.specs.Demo.{asked, asked_by}
use Rattle.dwz_run_course.specs.Ends.{AreContents, Complete, puts_unless_demo}
use Rattle.dwz_run_course.specs.Gets.{AreOfBytes, longest_behind}
use Rattle.dwz_run_course.specs.Outcome.{writes}
use Rattle.dwz_words.specs.declared.options.Options.{Options}
use Rattle.dwz_words.specs.Asked.{names_got}
use Rattle.dwz_words.proofs.Fits.{no_batch_with_reuse, with_reuse}
use Rattle.dwz_run.specs.Laws.{AsksToCompare, NoneFailed, RunEnds}
use Rattle.dwz_run.specs.Reusing.{AsksToReuse, name_over}
use Rattle.dwz_run.specs.SecondOver.{AgainOverLaw, ComparesOver, GotOver}
use Rattle.dwz_run.proofs.AllDone.{with_puts}
use Rattle.dwz_run.proofs.Outputs.{got_of, got_plain}
use Rattle.dwz_run.proofs.ReusedAfter.{after_over, are_bytes, kept_over, named_over}
use Rattle.dwz_run.proofs.SecondSame.{doc_of, says_same}

module _ (words : List (List ℕ)) (old new : FilesSeen) (shown shown_new : ConsoleSeen) (ended : RunEnds words old new shown shown_new Done) (store now : Store) (told : old.held ≡ Some store)
    (kept : new.held ≡ Some now) (a : AsksToReuse words store) where
  abbrev o : Options
  o = a.options

  abbrev out : Output
  out = ended.files.0

  -- ---- what came of the first call

  no_demo : o.demo ≡ None
  no_demo = (with_reuse o a.lawful.fit a.common a.reuses).2

  no_batch : o.batch ≡ None
  no_batch = no_batch_with_reuse o a.lawful.fit a.common a.reuses

  same_options : ended.files.1.options ≡ o
  same_options = ended.files.1.lawful.values ∙ sym a.lawful.values

  same_contents : ended.files.1.contents ≡ a.contents
  same_contents =
      let came = ended.files.1 in
      let are = subst (λ (p : Options). AreContents demo_files p.demo (longest_behind p) old (names_got p) came.contents) same_options came.are in
      let held = subst (λ (d : Option ℕ). AreContents demo_files d (longest_behind o) old (names_got o) came.contents) no_demo are in
      let got = got_plain o store (names_got o) came.contents no_batch (got_of words old store told (longest_behind o) (names_got o) came.contents held) in
      let both : Some came.contents ≡ Some a.contents = sym got ∙ a.got in cc

  given : Reuses (reusing o) a.contents (writes out)
  given =
      let came = ended.files.1 in
      let one = subst (λ (p : Options). Yields (asked p) came.contents (writes out)) same_options came.given in
      let two = subst (λ (cs : List (List ℕ)). Yields (asked o) cs (writes out)) same_contents one in
      let three = subst (λ (d : Option ℕ). Yields (asked_by d o) a.contents (writes out)) no_demo two in
      let one_by_one = subst (λ (w : Option (List ℕ)). YieldsBy w o a.contents (writes out)) no_batch three in
      subst (λ (w : Option (List ℕ)). ComesBy w o a.contents (writes out)) a.reuses one_by_one

  abbrev x : OverFiles
  x = given.0

  has : HasContents (common_got a.contents) (files_got o a.contents) x
  has = given.1

  can : CanBeWrittenOver (name_over o) x
  can = given.2

  bytes : Each AreBytes x.contents
  bytes = are_bytes o a.lawful.fit a.common a.reuses a.contents x has can (subst AreOfBytes same_contents ended.files.1.bytes)

  now_is : now ≡ done (puts_over (reusing o) x) store
  now_is =
      let came = ended.files.1 in
      let puts = ap (λ (p : Options). puts_unless_demo p.demo out) same_options ∙ ap (λ (d : Option ℕ). puts_unless_demo d out) no_demo ∙ ap (λ (w : Output). w.puts) given.3 in
      let held = with_puts old new store (puts_unless_demo came.options.demo out) (puts_over (reusing o) x) told puts ended.files.2.held in
      let both : Some now ≡ Some (done (puts_over (reusing o) x) store) = sym kept ∙ held in cc

  after : HoldOver (reusing o) x now
  after = subst (HoldOver (reusing o) x) (sym now_is) (after_over o a.lawful.fit a.common a.reuses a.contents x has can store a.got)

  common_now : now a.common ≡ Some x.common
  common_now = subst (λ (s : Store). s a.common ≡ Some x.common) (sym now_is) (kept_over o a.lawful.fit a.common a.reuses a.contents x has can store a.got)

  -- ---- what the second one gets

  module _ (again : List (List ℕ)) (held : Store) (c : AsksToCompare again held) (y : ComparesOver a now c) (within : AreWithinLimits c.contents) where
    abbrev file : ℕ
    file = y.file

    doc : (d : Doc ℕ) × Nth 0 x.said.docs file d × (get_or x.contents file [] ≡ y.was)
    doc =
        doc_of (limits_over x) x.contents x.said.docs can.read.files 0 file file y.was
        (subst (λ (cs : List (List ℕ)). Nth 0 cs file y.was) (sym has.1) y.read) (omega arith)

    is_after : y.is ≡ bytes_over (name_over o) x file
    is_after = (let both : Some y.is ≡ Some (bytes_over (name_over o) x file) = sym y.holds ∙ after file y.name y.is_file in cc)

    abbrev Fits : Option (List ℕ) → Type 0
    Fits sup = NamesStanding (name_over o) x file sup × (c.contents ≡ compared_over (name_over o) x file sup)

    two_are : y.was ∷ y.is ∷ [] ≡ before (run_over x) file ∷ bytes_over (name_over o) x file ∷ []
    two_are = ap (λ (w : List ℕ). w ∷ y.is ∷ []) (sym doc.2) ∙ ap (λ (w : List ℕ). before (run_over x) file ∷ w ∷ []) is_after

    fits_by : (sup : Option (List ℕ)) → GotOver sup a.common now y.was y.is c.contents → Fits sup
    fits_by None got = ((ap has_sup doc.2 ∙ got.0, ap has_sup (sym is_after) ∙ got.1), got.2 ∙ two_are)
    fits_by (Some sup) got =
        let common : got.0 ≡ x.common = (let both : Some got.0 ≡ Some x.common = sym got.1 ∙ common_now in cc) in
        (tt, got.2 ∙ ap (λ (w : List ℕ). w ∷ y.was ∷ y.is ∷ []) common ∙ ap (λ (ws : List (List ℕ)). x.common ∷ ws) two_are)

    said : Compares c.options c.contents (writes (answer_on Yes))
    said =
        let f = fits_by c.options.sup y.got in
        subst (λ (cs : List (List ℕ)). Compares c.options cs (writes (answer_on Yes))) (sym f.1)
        (same_over (name_over o) c.options x bytes can (named_over o a.lawful.fit a.common a.reuses) file doc.0 doc.1 f.0 (subst AreWithinLimits f.1 within))

    pub ends_over : (before behind : FilesSeen) (printed printed_new : ConsoleSeen) (status : Status) → Complete demo_files Yields again before behind printed printed_new status
        → NoneFailed before behind printed printed_new → before.held ≡ Some held → (status ≡ Done) ⊎ (status ≡ NoMemory)
    ends_over = says_same again held c said

pub compares_over : AgainOverLaw
compares_over words old new shown shown_new ended store now told kept a again before after printed printed_new status complete none held there c y within =
    ends_over words old new shown shown_new ended store now told kept a again held c y within before after printed printed_new status complete none there
