-- A second call says that files before a first one and after it mean the same.
use Rattle.std.proofs.Common.{◌≡◌, ◌⊎◌, ◌||◌, ◌&&◌, ◌==◌, ℕ, Bool, true, false, List, [], ◌∷◌, Option, Some, None, get_or, sym, ap, subst, ◌∙◌, arith}
use Rattle.std.specs.Prelude.{if◌then◌else◌}
use Rattle.std.specs.List.{list_any}
use Rattle.std.proofs.lemmas.Bool.{and_parts}
use Rattle.dwz_model.specs.Lists.{Each, Nth}
use Rattle.dwz_model.proofs.Members.{any_from, any_true}
use Rattle.dwz_def_reading.specs.Documents.{Doc}
use Rattle.dwz_def_reading.specs.Finished.{has_sup}
use Rattle.dwz_def_reading.specs.Values.{AreBytes}
use Rattle.dwz_def_images.specs.Homes.{Common, file_of, same_home}
use Rattle.dwz_def_images.specs.Plan.{PartialUnit}
use Rattle.dwz_def_readback.specs.Files.{Run, imports_common}
use Rattle.dwz_def_limits.specs.Within.{AreWithinLimits}
use Rattle.dwz_def_check.specs.declared.same.Same.TheVariants.{Yes}
use Rattle.dwz_def_output.specs.FilesAfter.{bytes_after, common_bytes, has_common, is_common}
use Rattle.dwz_def_run.specs.Compares.{Compares, answer_on}
use Rattle.dwz_def_run.specs.Out.{IsWritten, OutBy, Slims, all_puts, common_of, run_for, sup_name, top_scope_of}
use Rattle.dwz_def_run.proofs.Gotten.{are_held, got_files}
use Rattle.dwz_def_run.specs.Comes.{ComesBy}
use Rattle.dwz_def_run.specs.Yields.{Yields, YieldsBy}
use Rattle.dwz_gen.specs.Demo.{demo_files}
use Rattle.dwz_law_run.specs.SameLaws.{NamesCommon, compared_of}
use Rattle.dwz_law_run.proofs.SameLemmas.{names_sup, same_said}
use Rattle.dwz_outside.specs.Store.{Store, done}
use Rattle.dwz_outside.specs.Told.{ConsoleSeen, FilesSeen}
use Rattle.dwz_run_course.specs.declared.output.Output.{Output}
use Rattle.dwz_run_course.specs.declared.status.Status.{Status}
use Rattle.dwz_run_course.specs.declared.status.Status.TheVariants.{Done, NoMemory}
use Rattle.dwz_run_course.specs.Demo.{asked, asked_by}
use Rattle.dwz_run_course.specs.Ends.{AreContents, Complete, puts_unless_demo}
use Rattle.dwz_run_course.specs.Gets.{AreOfBytes, gets, longest_behind}
use Rattle.dwz_run_course.specs.Outcome.{writes}
use Rattle.dwz_words.specs.declared.options.Options.{Options}
use Rattle.dwz_words.specs.Asked.{names_got}
use Rattle.dwz_run.specs.Laws.{AsksForFiles, AsksToCompare, HoldAfter, NoneFailed, RunEnds}
use Rattle.dwz_run.specs.SecondCall.{AgainLaw, ComparesAgain, GotBeside}
use Rattle.dwz_run.proofs.AllDone.{with_puts}
use Rattle.dwz_run.proofs.CommonName.{named_well}
use Rattle.dwz_run.proofs.HeldAfter.{hold_after}
use Rattle.dwz_run.proofs.OfBytes.{each_bytes}
use Rattle.dwz_run.proofs.Outputs.{got_of, got_plain}
use Rattle.dwz_run.proofs.SecondSame.{doc_of, says_same}

-- a file that imports from the common file has one
imports_has : (r : Run) (file : ℕ) → imports_common r.move r.units file ≡ true → has_common r ≡ true
unfolding imports_common has_common
imports_has r file e =
    let o = any_from (λ (p : PartialUnit). same_home p.home Common && list_any (λ i. file_of r.units i == file) p.users) r.move.parts e in
    any_true is_common o.one r.move.parts o.there (and_parts (same_home o.one.home Common) (list_any (λ i. file_of r.units i == file) o.one.users) o.passes).0

module _ (words : List (List ℕ)) (old new : FilesSeen) (shown shown_new : ConsoleSeen) (ended : RunEnds words old new shown shown_new Done) (store now : Store) (told : old.held ≡ Some store)
    (kept : new.held ≡ Some now) (a : AsksForFiles words store) where
  abbrev o : Options
  o = a.options

  abbrev out : Output
  out = ended.files.0

  -- ---- what came of the first call

  same_options : ended.files.1.options ≡ o
  same_options = ended.files.1.lawful.values ∙ sym a.lawful.values

  same_contents : ended.files.1.contents ≡ a.contents
  same_contents =
      let came = ended.files.1 in
      let are = subst (λ (p : Options). AreContents demo_files p.demo (longest_behind p) old (names_got p) came.contents) same_options came.are in
      let held = subst (λ (d : Option ℕ). AreContents demo_files d (longest_behind o) old (names_got o) came.contents) a.no_demo are in
      let got = got_plain o store (names_got o) came.contents a.no_batch (got_of words old store told (longest_behind o) (names_got o) came.contents held) in
      let names = got_files o a.lawful.fit a.slims a.no_check a.no_expand a.no_reuse a.no_batch in
      let both : Some came.contents ≡ Some a.contents = sym got ∙ ap (λ (ns : List (List ℕ)). gets store 0 ns) names ∙ a.got in cc

  bytes : Each AreBytes a.contents
  bytes = each_bytes a.contents (subst AreOfBytes same_contents ended.files.1.bytes)

  given : Slims o a.contents (writes out)
  given =
      let came = ended.files.1 in
      let one = subst (λ (p : Options). Yields (asked p) came.contents (writes out)) same_options came.given in
      let two = subst (λ (cs : List (List ℕ)). Yields (asked o) cs (writes out)) same_contents one in
      let three = subst (λ (d : Option ℕ). Yields (asked_by d o) a.contents (writes out)) a.no_demo two in
      let one_by_one = subst (λ (w : Option (List ℕ)). YieldsBy w o a.contents (writes out)) a.no_batch three in
      let plain = subst (λ (w : Option (List ℕ)). ComesBy w o a.contents (writes out)) a.no_reuse one_by_one in
      let four = subst (λ (b : Bool). OutBy b o.check o.expand o a.contents (writes out)) a.slims plain in
      let five = subst (λ (b : Bool). OutBy false b o.expand o a.contents (writes out)) a.no_check four in
      subst (λ (b : Bool). OutBy false false b o a.contents (writes out)) a.no_expand five

  abbrev docs : List (Doc ℕ)
  docs = given.0

  abbrev prunes : List Bool
  prunes = given.1

  written : IsWritten o a.contents docs prunes
  written = given.2

  abbrev r : Run
  r = run_for o a.contents docs prunes

  now_is : now ≡ done (all_puts o r) store
  now_is =
      let came = ended.files.1 in
      let puts = ap (λ (p : Options). puts_unless_demo p.demo out) same_options ∙ ap (λ (d : Option ℕ). puts_unless_demo d out) a.no_demo ∙ ap (λ (x : Output). x.puts) given.3 in
      let held = with_puts old new store (puts_unless_demo came.options.demo out) (all_puts o r) told puts ended.files.2.held in
      let both : Some now ≡ Some (done (all_puts o r) store) = sym kept ∙ held in cc

  after : HoldAfter o r now
  after =
      subst (HoldAfter o r) (sym now_is)
      (hold_after o r a.lawful.fit a.slims store (are_held store o.files a.contents docs a.got written.read.reads))

  -- ---- what the second one gets

  module _ (again : List (List ℕ)) (held : Store) (c : AsksToCompare again held) (x : ComparesAgain a now c) (within : AreWithinLimits c.contents) where
    abbrev file : ℕ
    file = x.file

    doc : (d : Doc ℕ) × Nth 0 docs file d × (get_or a.contents file [] ≡ x.was)
    doc = doc_of _ a.contents docs written.read.reads 0 file file x.was x.read (omega arith)

    is_after : x.is ≡ bytes_after (sup_name o) r file
    is_after = (let both : Some x.is ≡ Some (bytes_after (sup_name o) r file) = sym x.holds ∙ after.files file x.name x.is_file in cc)

    names : (has_sup (r.input.bytes file) ≡ false) × (has_sup (bytes_after (sup_name o) r file) ≡ imports_common r.move r.units file)
    names = names_sup (top_scope_of o) (sup_name o) a.contents docs prunes bytes written file doc.0 doc.1

    abbrev Fits : Option (List ℕ) → Type 0
    Fits sup = NamesCommon o r file sup × (c.contents ≡ compared_of o r file sup)

    two_are : x.was ∷ x.is ∷ [] ≡ r.input.bytes file ∷ bytes_after (sup_name o) r file ∷ []
    two_are = ap (λ (w : List ℕ). w ∷ x.is ∷ []) (sym doc.2) ∙ ap (λ (w : List ℕ). r.input.bytes file ∷ w ∷ []) is_after

    fits_by : (sup : Option (List ℕ)) → GotBeside sup o now x.was x.is c.contents → Fits sup
    fits_by None got = ((ap has_sup doc.2 ∙ got.0, ap has_sup (sym is_after) ∙ got.1), got.2 ∙ two_are)
    fits_by (Some sup) got =
        let was : has_sup x.was ≡ false = ap has_sup (sym doc.2) ∙ names.0 in
        let is : has_sup x.is ≡ true = sym (ap (λ (b : Bool). b || has_sup x.is) was) ∙ got.4 in
        let imports : imports_common r.move r.units file ≡ true = sym names.1 ∙ ap has_sup (sym is_after) ∙ is in
        let has = imports_has r file imports in
        let there : common_of o.common r ≡ Some (common_bytes r) =
        ap (λ (w : Option (List ℕ)). common_of w r) got.2 ∙ ap (λ (b : Bool). if b then Some (common_bytes r) else None) has in
        let common : got.1 ≡ common_bytes r = (let both : Some got.1 ≡ Some (common_bytes r) = sym got.3 ∙ after.common got.0 got.2 has in cc) in
        (there, got.5 ∙ ap (λ (w : List ℕ). w ∷ x.was ∷ x.is ∷ []) common ∙ ap (λ (ws : List (List ℕ)). common_bytes r ∷ ws) two_are)

    said : Compares c.options c.contents (writes (answer_on Yes))
    said =
        let f = fits_by c.options.sup x.got in
        subst (λ (cs : List (List ℕ)). Compares c.options cs (writes (answer_on Yes))) (sym f.1)
        (same_said o c.options a.contents docs prunes bytes written (named_well o a.lawful.fit) file doc.0 doc.1 f.0 (subst AreWithinLimits f.1 within))

    pub ends_again : (before behind : FilesSeen) (printed printed_new : ConsoleSeen) (status : Status) → Complete demo_files Yields again before behind printed printed_new status
        → NoneFailed before behind printed printed_new → before.held ≡ Some held → (status ≡ Done) ⊎ (status ≡ NoMemory)
    ends_again = says_same again held c said

pub compares_again : AgainLaw
compares_again words old new shown shown_new ended store now told kept a again before after printed printed_new status complete none held there c x within =
    ends_again words old new shown shown_new ended store now told kept a again held c x within before after printed printed_new status complete none there
