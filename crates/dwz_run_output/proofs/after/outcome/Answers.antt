use Rattle.std.proofs.Common.{◌≡◌, ℕ, ◌++◌, List, [], Option, Vec, Global, length, map, get_or, None, refl, sym, subst, ap, ◌∙◌, arith}
use Rattle.std.proofs.lemmas.List.{length-map}
use Rattle.std.proofs.lemmas.Result.{err_from_is_err_and}
use Rattle.dwz_model.specs.declared.fault.Fault.{Fault}
use Rattle.dwz_model.specs.declared.fault.Refusal.{Refusal}
use Rattle.dwz_model.specs.declared.sections.Sections.{Sections}
use Rattle.dwz_outside.specs.declared.puts.Put.{Put}
use Rattle.dwz_def_reading.specs.Values.{AreBytes}
use Rattle.dwz_def_reading.specs.Lists.{Each}
use Rattle.dwz_def_reading.specs.Files.{no_files_before}
use Rattle.dwz_def_readback.specs.Files.{Made, Run}
use Rattle.dwz_def_run.specs.Out.{Slims, common_puts, files_puts, run_for, summary_lines, sup_name}
use Rattle.dwz_def_output.specs.Refusals.{CommonRefusal}
use Rattle.dwz_def_output.proofs.FreeLemmas.{Nothing}
use Rattle.dwz_def_output.specs.NewFiles.{IsFound, IsNewCommon}
use Rattle.dwz_run_output.specs.Common.{FaultWith}
use Rattle.dwz_run_output.specs.Making.{AreBefore, AreBytesOf, AreMadeSo}
use Rattle.dwz_run_output.proofs.CommonFaults.{no_refusal}
use Rattle.dwz_run_output.proofs.Outcomes.{OfSections, all_written, common_refused, err_answer, file_refused, none_of_files, numbered, sections_found, sections_refused}
use Rattle.dwz_run_output.proofs.RunReady.{all_bytes, can_make}
use Rattle.dwz_run_output.proofs.after.outcome.Goals as goal

as_many_contents : (graph : List (List ℕ)) (contents : List (Vec ℕ Global)) → graph ≡ map (λ v. v.items) contents → length graph ≡ length contents
as_many_contents graph contents read = ap (λ (g : List (List ℕ)). length g) read ∙ length-map contents (λ (v : Vec ℕ Global). v.items)

-- the common file isn't refused where no fault of it was found
alone : (r : Run) (common : Option Sections) (found : Option Fault) → IsNewCommon r common → found ≡ None → IsFound (FaultWith common) found → Nothing (CommonRefusal r)
alone r common found new none is = no_refusal r common new (subst (IsFound (FaultWith common)) none is)

pub returns-in-Some : goal.returns-in-Some
returns-in-Some c docs prunes read are new =
    let contents = c.args.graph.now.given in
    let f = c.in-Some.fault in
    let named : ℕ → Refusal = λ n. record { file = n; section = f.section; at = f.at; reason = f.reason } in
    common_refused c.args.options.now contents docs prunes read c.args.common f c.in_file.result new c.in-Some.ensures
    (c.in_file.ensures ∙ ap named (sym (as_many_contents contents c.args.contents.now c.requires.read)))

pub returns-in-Some-sections_refusal : goal.returns-in-Some-sections_refusal
returns-in-Some-sections_refusal c docs prunes read are new =
    let o = c.args.options.now in
    let contents = c.args.graph.now.given in
    let first = alone (run_for o contents docs prunes) c.args.common c.common_fault.result new c.in_default.is c.common_fault.ensures in
    let found = sections_found Made (sup_name o) (run_for o contents docs prunes) c.args.made.items c.deref.result.now c.args.partials c.sections_refusal.result are c.deref.ensures.value
    c.sections_refusal.ensures in
    sections_refused o contents docs prunes read first c.in-Some-sections_refusal.refusal
    (subst (IsFound (OfSections o contents docs prunes read)) c.in-Some-sections_refusal.is found)

pub returns-in_err-files : goal.returns-in_err-files
returns-in_err-files c docs prunes read are new =
    let o = c.args.options.now in
    let contents = c.args.graph.now.given in
    let n = length c.args.contents.now in
    let r = run_for o contents docs prunes in
    let first = alone r c.args.common c.common_fault.result new c.in_default.is c.common_fault.ensures in
    let found = sections_found Made (sup_name o) r c.args.made.items c.deref.result.now c.args.partials c.sections_refusal.result are c.deref.ensures.value
    c.sections_refusal.ensures in
    let none = subst (IsFound (OfSections o contents docs prunes read)) c.in_default-sections_refusal.is found in
    let bytes = subst (Each AreBytes) (sym c.requires.read) c.look_at_all.ensures in
    let count = as_many_contents contents c.args.contents.now c.requires.read in
    let common = c.in_ok-common.ensures r refl new in
    let ready = can_make Made r.move no_files_before contents docs prunes read.reads read.prunable bytes c.args.made.items c.args.partials are in
    let p = err_from_is_err_and c.from_residual-in_err-files.result c.from_residual-in_err-files.ensures.1 in
    let has = c.in_err-files.ensures Made (sup_name o) r (c.sup_in.ensures o r common) (λ file less. ready file (omega (arith, less, count))) in
    rw (p.1, p.2) (err_answer Made (sup_name o) r (Slims o contents) (λ (files : Vec (Option (List ℕ)) Global). files.items) n c.in_err-files.field-0.0
    (numbered Made (sup_name o) r c.args.made.items c.args.partials n are c.requires.each) (file_refused o contents docs prunes read first none) has)

pub returns : goal.returns
returns c docs prunes read are new =
    let o = c.args.options.now in
    let contents = c.args.graph.now.given in
    let n = length c.args.contents.now in
    let r = run_for o contents docs prunes in
    let first = alone r c.args.common c.common_fault.result new c.in_default.is c.common_fault.ensures in
    let found = sections_found Made (sup_name o) r c.args.made.items c.deref.result.now c.args.partials c.sections_refusal.result are c.deref.ensures.value
    c.sections_refusal.ensures in
    let none = subst (IsFound (OfSections o contents docs prunes read)) c.in_default-sections_refusal.is found in
    let bytes = subst (Each AreBytes) (sym c.requires.read) c.look_at_all.ensures in
    let count = as_many_contents contents c.args.contents.now c.requires.read in
    let common = c.in_ok-common.ensures r refl new in
    let ready = can_make Made r.move no_files_before contents docs prunes read.reads read.prunable bytes c.args.made.items c.args.partials are in
    let made = c.in_ok-files.ensures Made (sup_name o) r (c.sup_in.ensures o r common) (λ file less. ready file (omega (arith, less, count))) in
    let files = none_of_files Made (sup_name o) r n c.in_ok-files.files.items
    (numbered Made (sup_name o) r c.args.made.items c.args.partials n are c.requires.each) made in
    let before : AreBefore r (map (λ (v : Vec ℕ Global). v.items) c.args.contents.now) = λ file. ap (λ (g : List (List ℕ)). get_or g file []) (sym c.requires.read) in
    let all = all_bytes Made r.move no_files_before contents docs prunes read.reads read.prunable bytes (sup_name o) c.in_ok-files.files.items
    (subst (λ (k : ℕ). AreMadeSo Made (sup_name o) r k c.in_ok-files.files.items) (sym count) made) in
    let names = c.as_slice-names.ensures in
    let lines = c.in_ok-lines.ensures Made o r before (subst (AreBytesOf Made (sup_name o) r) (sym c.deref-2.ensures.value) all) in
    let Lines : List (List ℕ) → Type 0 = λ ns. c.in_ok-lines.lines.items ≡ summary_lines o r 0 ns in
    let Puts : List (List ℕ) → Type 0 = λ ns. c.add_files.new.puts.items ≡ c.add_common.new.puts.items ++ files_puts o r 0 ns in
    let of_common = c.in_ok-add_common.ensures o r common ∙ ap (λ (ps : List Put). ps ++ common_puts o.common r) c.new-puts.ensures.items in
    let puts = subst Puts names (c.in_ok-add_files.ensures Made o r refl before all) ∙ ap (λ (ps : List Put). ps ++ files_puts o r 0 o.files) of_common in
    all_written o contents docs prunes read first none files _ _ _ refl refl refl (c.new-2.ensures ∙ puts) (c.in_ok-line.ensures o r common)
    (c.new.ensures ∙ subst Lines names lines) are.parts bytes (omega (arith, count, c.requires.few))
