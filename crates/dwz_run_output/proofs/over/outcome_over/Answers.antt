use Rattle.std.proofs.Common.{◌≡◌, ℕ, ◌++◌, List, [], Vec, Global, Option, length, map, get_or, refl, sym, subst, ap, ◌∙◌, arith}
use Rattle.std.proofs.lemmas.List.{length-map}
use Rattle.std.proofs.lemmas.Result.{err_from_is_err_and}
use Rattle.dwz_def_reading.specs.Lists.{Each}
use Rattle.dwz_def_reading.specs.Values.{AreBytes}
use Rattle.dwz_def_output.specs.NewFiles.{IsFound}
use Rattle.dwz_def_over.specs.Over.{run_over, stands}
use Rattle.dwz_def_run.specs.Out.{files_puts_by, sup_name, summary_lines_by}
use Rattle.dwz_def_run.specs.Comes.{reusing}
use Rattle.dwz_def_run.specs.Reuses.{ReusesOf}
use Rattle.dwz_outside.specs.declared.puts.Put.{Put}
use Rattle.dwz_run_output.specs.Making.{AreBefore, AreBytesOf, AreMadeSo}
use Rattle.dwz_run_output.proofs.Outcomes.{err_answer, none_of_files, numbered, sections_found}
use Rattle.dwz_run_output.proofs.OutcomesOver.{OfSections, all_written, bytes_of, file_refused, ready, sections_refused, sup_is}
use Rattle.dwz_run_output.proofs.over.outcome_over.Goals as goal

as_many_contents : (graph : List (List ℕ)) (contents : List (Vec ℕ Global)) → graph ≡ map (λ v. v.items) contents → length graph ≡ length contents
as_many_contents graph contents read = ap (λ (g : List (List ℕ)). length g) read ∙ length-map contents (λ (v : Vec ℕ Global). v.items)

pub returns-in-Some : goal.returns-in-Some
returns-in-Some c x has is are =
    let o = reusing c.args.options.now in
    let contents = c.args.graph.now.given in
    let common = c.args.common.now in
    let found = sections_found (stands x) (sup_name o) (run_over x) c.args.made.items c.deref.result.now c.args.partials c.sections_refusal.result are c.deref.ensures.value
    c.sections_refusal.ensures in
    sections_refused o common contents x has is c.in-Some.refusal (subst (IsFound (OfSections o common contents x has is)) c.in-Some.is found)

pub returns-in_err-files : goal.returns-in_err-files
returns-in_err-files c x has is are =
    let o = reusing c.args.options.now in
    let contents = c.args.graph.now.given in
    let common = c.args.common.now in
    let n = length c.args.contents.now in
    let k = stands x in
    let r = run_over x in
    let found = sections_found k (sup_name o) r c.args.made.items c.deref.result.now c.args.partials c.sections_refusal.result are c.deref.ensures.value
    c.sections_refusal.ensures in
    let none = subst (IsFound (OfSections o common contents x has is)) c.in_default.is found in
    let bytes = subst (Each AreBytes) (sym c.requires.read) c.look_at_all.ensures in
    let count = as_many_contents contents c.args.contents.now c.requires.read in
    let sup = sup_is (sup_name o) common contents x has c.in_ok-sup.sup c.as_slice.result.now c.in_ok-sup.ensures c.as_slice.ensures in
    let can = ready o common contents x has is bytes c.args.made.items c.args.partials are in
    let p = err_from_is_err_and c.from_residual-in_err-files.result c.from_residual-in_err-files.ensures.1 in
    let all = c.in_err-files.ensures k (sup_name o) r sup (λ file less. can file (omega (arith, less, count))) in
    rw (p.1, p.2) (err_answer k (sup_name o) r (ReusesOf o common contents) (λ (files : Vec (Option (List ℕ)) Global). files.items) n c.in_err-files.field-0.0
    (numbered k (sup_name o) r c.args.made.items c.args.partials n are c.requires.each) (file_refused o common contents x has is none) all)

pub returns : goal.returns
returns c x has is are =
    let o = reusing c.args.options.now in
    let contents = c.args.graph.now.given in
    let common = c.args.common.now in
    let n = length c.args.contents.now in
    let k = stands x in
    let r = run_over x in
    let found = sections_found k (sup_name o) r c.args.made.items c.deref.result.now c.args.partials c.sections_refusal.result are c.deref.ensures.value
    c.sections_refusal.ensures in
    let none = subst (IsFound (OfSections o common contents x has is)) c.in_default.is found in
    let bytes = subst (Each AreBytes) (sym c.requires.read) c.look_at_all.ensures in
    let count = as_many_contents contents c.args.contents.now c.requires.read in
    let sup = sup_is (sup_name o) common contents x has c.in_ok-sup.sup c.as_slice.result.now c.in_ok-sup.ensures c.as_slice.ensures in
    let can = ready o common contents x has is bytes c.args.made.items c.args.partials are in
    let made = c.in_ok-files.ensures k (sup_name o) r sup (λ file less. can file (omega (arith, less, count))) in
    let files = none_of_files k (sup_name o) r n c.in_ok-files.files.items (numbered k (sup_name o) r c.args.made.items c.args.partials n are c.requires.each) made in
    let before : AreBefore r (map (λ (v : Vec ℕ Global). v.items) c.args.contents.now) =
    λ file. ap (λ (g : List (List ℕ)). get_or g file []) (sym c.requires.read ∙ sym has.1) in
    let all = bytes_of o common contents x has is bytes c.in_ok-files.files.items (subst (λ (m : ℕ). AreMadeSo k (sup_name o) r m c.in_ok-files.files.items) (sym count) made) in
    let names = c.as_slice-names.ensures in
    let lines = c.in_ok-lines.ensures k o r before (subst (AreBytesOf k (sup_name o) r) (sym c.deref-2.ensures.value) all) in
    let Lines : List (List ℕ) → Type 0 = λ ns. c.in_ok-lines.lines.items ≡ summary_lines_by k o r 0 ns in
    let Puts : List (List ℕ) → Type 0 = λ ns. c.add_files.new.puts.items ≡ c.new-puts.result.items ++ files_puts_by k o r 0 ns in
    let puts = subst Puts names (c.in_ok-add_files.ensures k o r refl before all) ∙ ap (λ (ps : List Put). ps ++ files_puts_by k o r 0 o.files) c.new-puts.ensures.items in
    all_written o common contents x has is bytes none files _ _ _ refl refl refl (c.new-2.ensures ∙ puts) refl
    (c.new.ensures ∙ subst Lines names lines) are.parts (omega (arith, count, c.requires.few))
