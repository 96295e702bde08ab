-- Which status is answered where nothing outside fails: each fault is excluded, and of what is asked for just one thing comes.
use Rattle.std.proofs.Common.{◌≡◌, ◌⊎◌, ◌^◌, ℕ, Bool, true, false, List, [], ◌∷◌, Option, Some, None, refl, sym, ap, subst, ◌∙◌, inl, inr}
use Rattle.std.specs.Prelude.{is_some}
use Rattle.dwz_model.specs.declared.fault.Refusal.{Refusal}
use Rattle.dwz_def_reading.specs.Documents.{Doc}
use Rattle.dwz_def_reading.specs.Finished.{FinishedDocs, ReadFinished}
use Rattle.dwz_def_reading.specs.Places.{Place}
use Rattle.dwz_def_cross.specs.CrossSame.{CrossSame, UnitsAlike}
use Rattle.dwz_def_cross.specs.Tops.{whole_units}
use Rattle.dwz_def_check.specs.Answer.{IsSameAnswer, OfTwo, beside_common}
use Rattle.dwz_def_check.specs.declared.same.Same.{Same}
use Rattle.dwz_def_check.specs.declared.same.Same.TheVariants.{Unit as OneUnit, Units, Yes}
use Rattle.dwz_outside.specs.Counts.{Rose}
use Rattle.dwz_outside.specs.Store.{Store}
use Rattle.dwz_outside.specs.Told.{ConsoleSeen, FilesSeen}
use Rattle.dwz_words.specs.declared.options.Options.{Options}
use Rattle.dwz_words.specs.Asked.{names_got}
use Rattle.dwz_words.specs.Lawful.{Lawful}
use Rattle.dwz_words.proofs.Fits.{no_batch_with_check, no_batch_with_expand, no_batch_with_explain, no_batch_with_reuse, no_reuse_with_check}
use Rattle.dwz_words.proofs.Fits.{with_batch, with_check, with_expand, with_explain, with_reuse}
use Rattle.dwz_run_course.specs.declared.status.Status.{Status}
use Rattle.dwz_run_course.specs.declared.status.Status.TheVariants.{Done, Refused, Usage, ReadFault, WriteFault, NoMemory, ConsoleFault, Partly, Differs}
use Rattle.dwz_run_course.specs.declared.output.Output.{Output}
use Rattle.dwz_run_course.specs.Demo.{asked_by, demo_options}
use Rattle.dwz_run_course.specs.Ends.{AreHeld, AsksFor, Complete, Refuses, finished}
use Rattle.dwz_run_course.specs.Gets.{gets, gets_by, longest_behind}
use Rattle.dwz_run_course.specs.Outcome.{Outcome, refuses, writes}
use Rattle.dwz_run_course.proofs.Completeness.{unwritten}
use Rattle.dwz_gen.specs.Demo.{demo_files}
use Rattle.dwz_def_run.specs.Compares.{Compares, answer_on, common_in, tells_apart, two_in}
use Rattle.dwz_def_run.specs.Out.{OutBy}
use Rattle.dwz_def_run.proofs.Compared.{never_silent}
use Rattle.dwz_def_run.proofs.Gotten.{got_files}
use Rattle.dwz_def_run.specs.Comes.{ComesBy}
use Rattle.dwz_def_run.specs.Yields.{Yields, YieldsBy}
use Rattle.dwz_def_run.proofs.NeverNothing.{never_nothing_yields}
use Rattle.dwz_run.specs.Laws.{Asks, AsksToCompare, IsFirstRefusal, NoneFailed, RunEnds, for_answer, for_demo, for_files, to_batch, to_compare, to_expand, to_reuse, work_contents, work_options}
use Rattle.dwz_run.proofs.Causes.{among_comes, first_among}
use Rattle.dwz_run.proofs.Outputs.{batch_got, plain_got}

-- an output by which files differ is one of files that are compared
compares_by : (b c d : Bool) (o : Options) (contents : List (List ℕ)) (out : Output) → out.differs ≡ true → OutBy b c d o contents (writes out) → c ≡ true
compares_by b true d o contents out differ given = refl
compares_by true false d o contents out differ given = absurd (let z : true ≡ false = sym differ ∙ ap (λ (x : Output). x.differs) given.2.2 in cc)
compares_by false false true o contents out differ given = absurd (let z : true ≡ false = sym differ ∙ ap (λ (x : Output). x.differs) given.3 in cc)
compares_by false false false o contents out differ given = absurd (let z : true ≡ false = sym differ ∙ ap (λ (x : Output). x.differs) given.3 in cc)

compares_in : (reuse : Option (List ℕ)) (o : Options) (contents : List (List ℕ)) (out : Output) → out.differs ≡ true → ComesBy reuse o contents (writes out) → o.check ≡ true
compares_in None o contents out differ given = compares_by o.explain o.check o.expand o contents out differ given
compares_in (Some common) o contents out differ given = absurd (let z : true ≡ false = sym differ ∙ ap (λ (x : Output). x.differs) given.3 in cc)

compares_among : (batch : Option (List ℕ)) (o : Options) (contents : List (List ℕ)) (out : Output) → out.differs ≡ true → YieldsBy batch o contents (writes out) → o.check ≡ true
compares_among None o contents out differ given = compares_in o.reuse o contents out differ given
compares_among (Some common) o contents out differ given = absurd (let z : true ≡ false = sym differ ∙ ap (λ (x : Output). x.differs) given.2 in cc)

work_compares : (o : Options) (contents : List (List ℕ)) (out : Output) → out.differs ≡ true → (demo : Option ℕ) → Yields (asked_by demo o) contents (writes out) → o.check ≡ true
work_compares o contents out differ None given = compares_among o.batch o contents out differ given
work_compares o contents out differ (Some n) given = absurd (let z : false ≡ true = compares_by false false false (demo_options o) contents out differ given in cc)

-- an output by which some files are refused, each by itself, is one of many files, each as if it were alone
whole_by : (b c d : Bool) (o : Options) (contents : List (List ℕ)) (out : Output) → OutBy b c d o contents (writes out) → out.partly ≡ false
whole_by true c d o contents out given = ap (λ (x : Output). x.partly) given.2.2
whole_by false true d o contents out given = ap (λ (x : Output). x.partly) given.4
whole_by false false true o contents out given = ap (λ (x : Output). x.partly) given.3
whole_by false false false o contents out given = ap (λ (x : Output). x.partly) given.3

whole_in : (reuse : Option (List ℕ)) (o : Options) (contents : List (List ℕ)) (out : Output) → ComesBy reuse o contents (writes out) → out.partly ≡ false
whole_in None o contents out given = whole_by o.explain o.check o.expand o contents out given
whole_in (Some common) o contents out given = ap (λ (x : Output). x.partly) given.3

partly_in : (batch : Option (List ℕ)) (o : Options) (contents : List (List ℕ)) (out : Output) → out.partly ≡ true → YieldsBy batch o contents (writes out) → is_some batch ≡ true
partly_in None o contents out some given = absurd (let z : true ≡ false = sym some ∙ whole_in o.reuse o contents out given in cc)
partly_in (Some common) o contents out some given = refl

work_partly : (o : Options) (contents : List (List ℕ)) (out : Output) → out.partly ≡ true → (demo : Option ℕ) → Yields (asked_by demo o) contents (writes out)
    → is_some o.batch ≡ true
work_partly o contents out some None given = partly_in o.batch o contents out some given
work_partly o contents out some (Some n) given = absurd (let z : true ≡ false = sym some ∙ whole_by false false false (demo_options o) contents out given in cc)

pub answered : (words : List (List ℕ)) (old new : FilesSeen) (shown shown_new : ConsoleSeen) (status : Status)
    → RunEnds words old new shown shown_new status
    → NoneFailed old new shown shown_new → (o : Options) → Lawful words o
    → (status ≡ Done) ⊎ (status ≡ Refused) ⊎ (status ≡ NoMemory) ⊎ ((status ≡ Differs) × (o.check ≡ true))
    ⊎ ((status ≡ Partly) × (is_some o.batch ≡ true))
answered words old new shown shown_new Done e none o lawful = inl refl
answered words old new shown shown_new Refused e none o lawful = inr (inl refl)
answered words old new shown shown_new Usage e none o lawful = absurd (e.files.0 o lawful)
answered words old new shown shown_new ReadFault e none o lawful = absurd (none.reads e.files.4.rose)
answered words old new shown shown_new WriteFault e none o lawful = absurd (none.writes e.files.3.fault.rose)
answered words old new shown shown_new NoMemory e none o lawful = inr (inr (inl refl))
answered words old new shown shown_new Differs e none o lawful =
    let came = e.files.1 in
    let same : came.options ≡ o = came.lawful.values ∙ sym lawful.values in
    inr (inr (inr (inl (refl, ap (λ (x : Options). x.check) (sym same) ∙ work_compares came.options came.contents e.files.0 e.files.4 came.options.demo came.given))))
answered words old new shown shown_new Partly e none o lawful =
    let came = e.files.1 in
    let same : came.options ≡ o = came.lawful.values ∙ sym lawful.values in
    inr (inr (inr (inr (
      refl,
      ap (λ (x : Options). is_some x.batch) (sym same) ∙ work_partly came.options came.contents e.files.0 e.files.5 came.options.demo came.given,
    ))))
answered words old new shown shown_new ConsoleFault e none o lawful = absurd (none.texts (unwritten shown shown_new e.text e.console))

module _ (words : List (List ℕ)) (old : FilesSeen) (store : Store) (told : old.held ≡ Some store) where
  -- what is held is got by its names where there is no demonstration
  got_by : (o : Options) (contents : List (List ℕ)) → o.demo ≡ None → gets_by (2 ^ 28) (longest_behind o) store 0 (names_got o) ≡ Some contents
      → AreHeld demo_files o.demo (longest_behind o) old (names_got o) contents
  got_by o contents no_demo got = subst (λ (d : Option ℕ). AreHeld demo_files d (longest_behind o) old (names_got o) contents) (sym no_demo) (store, told, got)

  held_by : (o : Options) (contents : List (List ℕ)) → o.demo ≡ None → o.batch ≡ None → gets store 0 (names_got o) ≡ Some contents
      → AreHeld demo_files o.demo (longest_behind o) old (names_got o) contents
  held_by o contents no_demo no_batch got = got_by o contents no_demo (plain_got o store (names_got o) contents no_batch got)

  -- what comes of what is asked for is asked for
  pub asked_for : (a : Asks words store) (outcome : Outcome) → Yields (work_options a) (work_contents a) outcome
      → AsksFor demo_files Yields words old outcome
  asked_for (for_files a) outcome given = record {
    options = a.options;
    lawful = a.lawful;
    contents = a.contents;
    held = held_by a.options a.contents a.no_demo a.no_batch
        (subst (λ (names : List (List ℕ)). gets store 0 names ≡ Some a.contents) (sym (got_files a.options a.lawful.fit a.slims a.no_check a.no_expand a.no_reuse a.no_batch)) a.got);
    given = subst (λ (d : Option ℕ). Yields (asked_by d a.options) a.contents outcome) (sym a.no_demo) given;
  }
  asked_for (for_demo a) outcome given = record {
    options = a.options;
    lawful = a.lawful;
    contents = demo_files a.units;
    held = subst (λ (d : Option ℕ). AreHeld demo_files d (longest_behind a.options) old (names_got a.options) (demo_files a.units)) (sym a.is_demo) refl;
    given = subst (λ (d : Option ℕ). Yields (asked_by d a.options) (demo_files a.units) outcome) (sym a.is_demo) given;
  }
  asked_for (for_answer a) outcome given =
      let no_demo = (with_explain a.options a.lawful.fit a.tells).1 in
      record {
        options = a.options;
        lawful = a.lawful;
        contents = a.contents;
        held = held_by a.options a.contents no_demo (no_batch_with_explain a.options a.lawful.fit a.tells) a.got;
        given = subst (λ (d : Option ℕ). Yields (asked_by d a.options) a.contents outcome) (sym no_demo) given;
      }
  asked_for (to_compare a) outcome given =
      let no_demo = (with_check a.options a.lawful.fit a.compares).1 in
      record {
        options = a.options;
        lawful = a.lawful;
        contents = a.contents;
        held = held_by a.options a.contents no_demo (no_batch_with_check a.options a.lawful.fit a.compares) a.got;
        given = subst (λ (d : Option ℕ). Yields (asked_by d a.options) a.contents outcome) (sym no_demo) given;
      }
  asked_for (to_expand a) outcome given =
      let no_demo = (with_expand a.options a.lawful.fit a.expands).3 in
      record {
        options = a.options;
        lawful = a.lawful;
        contents = a.contents;
        held = held_by a.options a.contents no_demo (no_batch_with_expand a.options a.lawful.fit a.expands) a.got;
        given = subst (λ (d : Option ℕ). Yields (asked_by d a.options) a.contents outcome) (sym no_demo) given;
      }
  asked_for (to_reuse a) outcome given =
      let no_demo = (with_reuse a.options a.lawful.fit a.common a.reuses).2 in
      record {
        options = a.options;
        lawful = a.lawful;
        contents = a.contents;
        held = held_by a.options a.contents no_demo (no_batch_with_reuse a.options a.lawful.fit a.common a.reuses) a.got;
        given = subst (λ (d : Option ℕ). Yields (asked_by d a.options) a.contents outcome) (sym no_demo) given;
      }
  asked_for (to_batch a) outcome given =
      let no_demo = (with_batch a.options a.lawful.fit a.common a.batches).3 in
      record {
        options = a.options;
        lawful = a.lawful;
        contents = a.contents;
        held = got_by a.options a.contents no_demo (batch_got a.options store (names_got a.options) a.contents a.common a.batches a.got);
        given = subst (λ (d : Option ℕ). Yields (asked_by d a.options) a.contents outcome) (sym no_demo) given;
      }

  -- the end of what is done, by whether files are compared, and whether there are many, each as if it were alone
  abbrev IsEnd : (check batch : Bool) → Status → Type 0
  IsEnd check batch status = (status ≡ Done) ⊎ (status ≡ NoMemory) ⊎ ((status ≡ Differs) × (check ≡ true)) ⊎ ((status ≡ Partly) × (batch ≡ true))

  -- that is known of a status where it can't be otherwise
  end_known : (check batch : Bool) (status : Status) → ((IsEnd check batch status → ⊥) → ⊥) → IsEnd check batch status
  end_known check batch Done not_not = inl refl
  end_known check batch NoMemory not_not = inr (inl refl)
  end_known true batch Differs not_not = inr (inr (inl (refl, refl)))
  end_known check true Partly not_not = inr (inr (inr (refl, refl)))
  end_known check batch status not_not =
      absurd (not_not (λ e.
      elim e [
        | inl x ↦ cc
        | inr y ↦ elim y [ inl x ↦ cc | inr z ↦ elim z [ inl x ↦ (let a = x.0 in let b = x.1 in cc) | inr x ↦ (let a = x.0 in let b = x.1 in cc) ] ]
      ]))

  pub completes : (new : FilesSeen) (shown shown_new : ConsoleSeen) (status : Status)
      → Complete demo_files Yields words old new shown shown_new status
      → NoneFailed old new shown shown_new → (a : Asks words store)
      → ((r : Refusal) → ¬ IsFirstRefusal (work_options a) (work_contents a) r)
      → IsEnd (work_options a).check (is_some (work_options a).batch) status
  completes new shown shown_new status complete none a free =
      end_known o.check (is_some o.batch) status (λ not_so. never_nothing_yields o contents (λ outcome given. not_so (one outcome given))) where
        o : Options
        o = work_options a

        contents : List (List ℕ)
        contents = work_contents a

        ended : (out : Output) → Yields o contents (writes out) → (differs partly : Bool) → out.differs ≡ differs → out.partly ≡ partly
            → (status ≡ finished differs partly) ⊎ (status ≡ NoMemory) → IsEnd o.check (is_some o.batch) status
        ended out given false false same whole (inl done) = inl done
        ended out given false true same some (inl partly) = inr (inr (inr (partly, partly_in o.batch o contents out some given)))
        ended out given true c differ any (inl apart) = inr (inr (inl (apart, compares_among o.batch o contents out differ given)))
        ended out given b c same any (inr memory) = inr (inl memory)

        one : (outcome : Outcome) → Yields o contents outcome → IsEnd o.check (is_some o.batch) status
        one (writes out) given =
            ended out given out.differs out.partly refl refl (complete out (asked_for a (writes out) given) none.reads none.writes none.texts)
        one (refuses q) given = absurd (free q (first_among o.batch o contents q given))

  -- where two files that are compared read, it is told whether they mean the same
  module _ (new : FilesSeen) (shown shown_new : ConsoleSeen) (status : Status) (complete : Complete demo_files Yields words old new shown shown_new status)
      (none : NoneFailed old new shown shown_new) (a : AsksToCompare words store) (said : FinishedDocs) (first second : Doc Place)
      (read : ReadFinished (common_in a.options.sup a.contents) (two_in a.options.sup a.contents) said) (docs : said.docs ≡ first ∷ second ∷ []) where
    answer_of : (same : Same) → IsSameAnswer (beside_common said first) (beside_common said second) same → Yields a.options a.contents (writes (answer_on same))
    answer_of same is =
        let given : Compares a.options a.contents (writes (answer_on same)) = (
          said,
          read,
          same,
          subst (λ (ds : List (Doc Place)). OfTwo (λ x y. IsSameAnswer (beside_common said x) (beside_common said y) same) ds) (sym docs) is,
          refl,
        ) in
        subst (λ (w : Option (List ℕ)). YieldsBy w a.options a.contents (writes (answer_on same))) (sym (no_batch_with_check a.options a.lawful.fit a.compares))
        (subst (λ (w : Option (List ℕ)). ComesBy w a.options a.contents (writes (answer_on same))) (sym (no_reuse_with_check a.options a.lawful.fit a.compares))
        (subst (λ (b : Bool). OutBy b a.options.check a.options.expand a.options a.contents (writes (answer_on same))) (sym (with_check a.options a.lawful.fit a.compares).2)
        (subst (λ (c : Bool). OutBy false c a.options.expand a.options a.contents (writes (answer_on same))) (sym a.compares) given)))

    ends_with : (same : Same) → IsSameAnswer (beside_common said first) (beside_common said second) same → (status ≡ finished (tells_apart same) false) ⊎ (status ≡ NoMemory)
    ends_with same is = complete (answer_on same) (asked_for (to_compare a) (writes (answer_on same)) (answer_of same is)) none.reads none.writes none.texts

    abbrev IsApart : Status → Type 0
    IsApart s = (s ≡ Differs) ⊎ (s ≡ NoMemory)

    apart_known : (s : Status) → ((IsApart s → ⊥) → ⊥) → IsApart s
    apart_known Differs not_not = inl refl
    apart_known NoMemory not_not = inr refl
    apart_known Done not_not = absurd (not_not (λ e. elim e [ inl x ↦ cc | inr x ↦ cc ]))
    apart_known Refused not_not = absurd (not_not (λ e. elim e [ inl x ↦ cc | inr x ↦ cc ]))
    apart_known Usage not_not = absurd (not_not (λ e. elim e [ inl x ↦ cc | inr x ↦ cc ]))
    apart_known ReadFault not_not = absurd (not_not (λ e. elim e [ inl x ↦ cc | inr x ↦ cc ]))
    apart_known WriteFault not_not = absurd (not_not (λ e. elim e [ inl x ↦ cc | inr x ↦ cc ]))
    apart_known Partly not_not = absurd (not_not (λ e. elim e [ inl x ↦ cc | inr x ↦ cc ]))
    apart_known ConsoleFault not_not = absurd (not_not (λ e. elim e [ inl x ↦ cc | inr x ↦ cc ]))

    ends_apart : ¬ CrossSame (beside_common said first) (beside_common said second) → (same : Same)
        → IsSameAnswer (beside_common said first) (beside_common said second) same → IsApart status
    ends_apart other Yes is = absurd (other is)
    ends_apart other (Units m n) is = ends_with (Units m n) is
    ends_apart other (OneUnit n) is = ends_with (OneUnit n) is

    pub compared : (CrossSame (beside_common said first) (beside_common said second) → (status ≡ Done) ⊎ (status ≡ NoMemory))
        × (¬ CrossSame (beside_common said first) (beside_common said second) → (status ≡ Differs) ⊎ (status ≡ NoMemory))
    compared =
        let v = beside_common said first in
        let w = beside_common said second in (
          λ same. ends_with Yes same,
          λ other. apart_known status (λ not_so. never_silent (UnitsAlike v w) (whole_units v.own) (whole_units w.own) (λ same is. not_so (ends_apart other same is))),
        )

  pub is_refused : (new : FilesSeen) (status : Status) → Refuses demo_files Yields words old new status
      → ¬ (Rose old.read_faults new.read_faults)
      → (a : Asks words store) (r : Refusal) → IsFirstRefusal (work_options a) (work_contents a) r → (status ≡ Refused) ⊎ (status ≡ NoMemory)
  is_refused new status all none a r first =
      let o = work_options a in
      all r (asked_for a (refuses r) (among_comes o.batch o (work_contents a) r first)) none
