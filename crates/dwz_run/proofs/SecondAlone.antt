-- A second call says that one of many files, before a first call and after it, which wrote it over a finished common file as if it were alone,
-- means the same.
use Rattle.std.proofs.Common.{◌≡◌, ◌⊎◌, ℕ, ◌^◌, List, [], ◌∷◌, ◌≤◌, Ok, length, Option, Some, None, get_or, refl, sym, ap, subst, ◌∙◌, inl, inr, arith}
use Rattle.dwz_model.specs.Lists.{Each, Nth}
use Rattle.dwz_def_reading.specs.Documents.{Doc}
use Rattle.dwz_def_reading.specs.Finished.{has_sup}
use Rattle.dwz_def_reading.specs.Values.{AreBytes}
use Rattle.dwz_def_images.specs.Homes.{numbers_from}
use Rattle.dwz_def_limits.specs.Within.{AreWithinLimits}
use Rattle.dwz_def_check.specs.declared.same.Same.TheVariants.{Yes}
use Rattle.dwz_def_over.specs.Over.{OverFiles, limits_over, run_over, stands}
use Rattle.dwz_def_over.specs.Written.{CanBeWrittenOver}
use Rattle.dwz_def_run.specs.Batches.{Batch, Batches, options_alone}
use Rattle.dwz_def_run.specs.Compares.{Compares, answer_on}
use Rattle.dwz_def_run.specs.Out.{sup_name}
use Rattle.dwz_def_run.specs.Reuses.{common_got, puts_over}
use Rattle.dwz_def_run.specs.Yields.{Batched, Yields, YieldsBy, batching}
use Rattle.dwz_def_run.proofs.HeldOver.{held_over}
use Rattle.dwz_gen.specs.Demo.{demo_files}
use Rattle.dwz_law_run.specs.SameLaws.{before}
use Rattle.dwz_law_run.specs.SameOverLaws.{NamesStanding, bytes_over, compared_over}
use Rattle.dwz_law_run.proofs.SameOverLemmas.{same_over}
use Rattle.dwz_outside.specs.Store.{Store, done}
use Rattle.dwz_outside.specs.Told.{ConsoleSeen, FilesSeen}
use Rattle.dwz_run_course.specs.declared.output.Output.{Output}
use Rattle.dwz_run_course.specs.declared.status.Status.{Status}
use Rattle.dwz_run_course.specs.declared.status.Status.TheVariants.{Done, NoMemory, Partly}
use Rattle.dwz_run_course.specs.Demo.{asked, asked_by}
use Rattle.dwz_run_course.specs.Ends.{AreContents, Came, Complete, puts_unless_demo}
use Rattle.dwz_run_course.specs.Gets.{AreOfBytes, longest_behind}
use Rattle.dwz_run_course.specs.Outcome.{writes}
use Rattle.dwz_run_course.specs.Puts.{PutsDone}
use Rattle.dwz_words.specs.declared.options.Options.{Options}
use Rattle.dwz_words.specs.Asked.{names_got}
use Rattle.dwz_words.proofs.Fits.{with_batch}
use Rattle.dwz_run.specs.Batched.{AsksToBatch}
use Rattle.dwz_run.specs.Laws.{AsksToCompare, NoneFailed, RunEnds}
use Rattle.dwz_run.specs.SecondOver.{AgainAloneLaw, ComparesAlone, GotOver}
use Rattle.dwz_run.proofs.AllDone.{with_puts}
use Rattle.dwz_run.proofs.BatchedAfter.{file_is_bytes, hold_alone, kept_after, named_batch}
use Rattle.dwz_run.proofs.GotAmong.{file_held}
use Rattle.dwz_run.proofs.Outputs.{got_for_batch, got_of}
use Rattle.dwz_run.proofs.SecondSame.{doc_of, says_same, small_of}

module _ (words : List (List ℕ)) (old new : FilesSeen) (out : Output) (came : Came demo_files Yields words old (writes out))
    (puts : PutsDone old new (puts_unless_demo came.options.demo out)) (store now : Store) (told : old.held ≡ Some store) (kept : new.held ≡ Some now) (a : AsksToBatch words store) where
  abbrev o : Options
  o = a.options

  -- ---- what came of the first call

  no_demo : o.demo ≡ None
  no_demo = (with_batch o a.lawful.fit a.common a.batches).3

  same_options : came.options ≡ o
  same_options = came.lawful.values ∙ sym a.lawful.values

  same_contents : came.contents ≡ a.contents
  same_contents =
      let are = subst (λ (p : Options). AreContents demo_files p.demo (longest_behind p) old (names_got p) came.contents) same_options came.are in
      let held = subst (λ (d : Option ℕ). AreContents demo_files d (longest_behind o) old (names_got o) came.contents) no_demo are in
      let got = got_for_batch o store (names_got o) came.contents a.common a.batches (got_of words old store told (longest_behind o) (names_got o) came.contents held) in
      let both : Some came.contents ≡ Some a.contents = sym got ∙ a.got in cc

  of_bytes : AreOfBytes a.contents
  of_bytes = subst AreOfBytes same_contents came.bytes

  given : Batched (batching o) a.contents (writes out)
  given =
      let one = subst (λ (p : Options). Yields (asked p) came.contents (writes out)) same_options came.given in
      let two = subst (λ (cs : List (List ℕ)). Yields (asked o) cs (writes out)) same_contents one in
      let three = subst (λ (d : Option ℕ). Yields (asked_by d o) a.contents (writes out)) no_demo two in
      subst (λ (w : Option (List ℕ)). YieldsBy w o a.contents (writes out)) a.batches three

  abbrev all : Batch
  all = given.0

  comes : Batches (batching o) a.contents (Ok all)
  comes = given.1

  now_is : now ≡ done all.puts store
  now_is =
      let same = ap (λ (p : Options). puts_unless_demo p.demo out) same_options ∙ ap (λ (d : Option ℕ). puts_unless_demo d out) no_demo ∙ ap (λ (w : Output). w.puts) given.2 in
      let held = with_puts old new store (puts_unless_demo came.options.demo out) all.puts told same puts.held in
      let both : Some now ≡ Some (done all.puts store) = sym kept ∙ held in cc

  common_now : now a.common ≡ Some (common_got a.contents)
  common_now = subst (λ (s : Store). s a.common ≡ Some (common_got a.contents)) (sym now_is) (kept_after a all comes)

  -- ---- what the second one gets

  module _ (again : List (List ℕ)) (held : Store) (c : AsksToCompare again held) (y : ComparesAlone a now c) (within : AreWithinLimits c.contents) where
    abbrev one : Options
    one = options_alone (batching o) y.file.name

    abbrev name : List ℕ
    name = sup_name (batching o)

    abbrev x : OverFiles
    x = y.comes.0

    common_is : x.common ≡ common_got a.contents
    common_is = y.comes.1.0

    contents_are : x.contents ≡ y.file.content ∷ []
    unfolding numbers_from
    contents_are = y.comes.1.1

    can : CanBeWrittenOver name x
    can = y.comes.2

    bytes : Each AreBytes x.contents
    bytes = subst (Each AreBytes) (sym contents_are) (file_is_bytes a of_bytes y.file y.is_file, tt)

    doc : (d : Doc ℕ) × Nth 0 x.said.docs 0 d × (get_or x.contents 0 [] ≡ y.file.content)
    doc =
        doc_of (limits_over x) x.contents x.said.docs can.read.files 0 0 0 y.file.content
        (subst (λ (cs : List (List ℕ)). Nth 0 cs 0 y.file.content) (sym contents_are) (inl (refl, refl))) (omega arith)

    was_held : (file : ℕ) (at : List ℕ) → Nth 0 (y.file.name ∷ []) file at → store at ≡ Some (get_or x.contents file [])
    was_held file at (inr later) = absurd later
    was_held file at (inl is) =
        let few = small_of (limits_over x) x.contents x.said.docs can.read.files 0 in
        let there = file_held a comes.0 comes.1 y.file y.is_file (subst (λ (w : List ℕ). length w ≤ 2 ^ 28) doc.2 few) in
        let same : store y.file.name ≡ Some (get_or x.contents 0 []) = there ∙ ap (λ (w : List ℕ). Some w) (sym doc.2) in
        subst (λ (f : ℕ). store at ≡ Some (get_or x.contents f [])) is.0 (subst (λ (n : List ℕ). store n ≡ Some (get_or x.contents 0 [])) is.1 same)

    left_alone : done (puts_over one x) store y.file.name ≡ Some (bytes_over name x 0)
    left_alone = held_over (stands x) one (run_over x) refl (λ out e. refl) store was_held 0 y.file.name (inl (refl, refl))

    is_after : y.is ≡ bytes_over name x 0
    is_after =
        let holds = subst (λ (s : Store). s y.file.name ≡ done y.out.puts store y.file.name) (sym now_is) (hold_alone a all comes y.file y.is_file (writes y.out) y.comes) in
        let made = holds ∙ ap (λ (w : Output). done w.puts store y.file.name) y.comes.3 ∙ left_alone in
        let both : Some y.is ≡ Some (bytes_over name x 0) = sym y.holds ∙ made in cc

    abbrev Fits : Option (List ℕ) → Type 0
    Fits sup = NamesStanding name x 0 sup × (c.contents ≡ compared_over name x 0 sup)

    two_are : y.file.content ∷ y.is ∷ [] ≡ before (run_over x) 0 ∷ bytes_over name x 0 ∷ []
    two_are = ap (λ (w : List ℕ). w ∷ y.is ∷ []) (sym doc.2) ∙ ap (λ (w : List ℕ). before (run_over x) 0 ∷ w ∷ []) is_after

    fits_by : (sup : Option (List ℕ)) → GotOver sup a.common now y.file.content y.is c.contents → Fits sup
    fits_by None got = ((ap has_sup doc.2 ∙ got.0, ap has_sup (sym is_after) ∙ got.1), got.2 ∙ two_are)
    fits_by (Some sup) got =
        let common : got.0 ≡ x.common = (let both : Some got.0 ≡ Some x.common = sym got.1 ∙ common_now ∙ ap (λ (w : List ℕ). Some w) (sym common_is) in cc) in
        (tt, got.2 ∙ ap (λ (w : List ℕ). w ∷ y.file.content ∷ y.is ∷ []) common ∙ ap (λ (ws : List (List ℕ)). x.common ∷ ws) two_are)

    said : Compares c.options c.contents (writes (answer_on Yes))
    said =
        let f = fits_by c.options.sup y.got in
        subst (λ (cs : List (List ℕ)). Compares c.options cs (writes (answer_on Yes))) (sym f.1)
        (same_over name c.options x bytes can (named_batch o a.lawful.fit a.common a.batches) 0 doc.0 doc.1 f.0 (subst AreWithinLimits f.1 within))

    pub ends_alone : (before behind : FilesSeen) (printed printed_new : ConsoleSeen) (status : Status) → Complete demo_files Yields again before behind printed printed_new status
        → NoneFailed before behind printed printed_new → before.held ≡ Some held → (status ≡ Done) ⊎ (status ≡ NoMemory)
    ends_alone = says_same again held c said

pub compares_alone : AgainAloneLaw
compares_alone words old new shown shown_new ended which run store now told kept a again before after printed printed_new status complete none held there c y within =
    elim which [ inl e ↦ after_done (subst (RunEnds words old new shown shown_new) e run) | inr e ↦ after_partly (subst (RunEnds words old new shown shown_new) e run) ] where
      after_done : RunEnds words old new shown shown_new Done → (status ≡ Done) ⊎ (status ≡ NoMemory)
      after_done d = ends_alone words old new d.files.0 d.files.1 d.files.2 store now told kept a again held c y within before after printed printed_new status complete none there

      after_partly : RunEnds words old new shown shown_new Partly → (status ≡ Done) ⊎ (status ≡ NoMemory)
      after_partly d = ends_alone words old new d.files.0 d.files.1 d.files.2 store now told kept a again held c y within before after printed printed_new status complete none there
