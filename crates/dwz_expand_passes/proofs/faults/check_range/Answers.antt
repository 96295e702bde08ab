use Rattle.std.proofs.Common.{◌≡◌, ◌∙◌, ℕ, ◌+◌, ◌-◌, ◌<◌, length, take, arith, subst}
use Rattle.std.proofs.lemmas.Result.{err_from_is_err_and}
use Rattle.dwz_model.proofs.ListFacts.{got_there}
use Rattle.dwz_def_expand.specs.Refusals.{sites_of}
use Rattle.dwz_def_reading.specs.FirstOf.{OfFirst}
use Rattle.dwz_expand_sources.specs.Index.{ListedEntry}
use Rattle.dwz_expand_sources.specs.Sources.{all_entries, in_range}
use Rattle.dwz_expand_passes.specs.Faults.{ValueRefusal, entry_sites}
use Rattle.dwz_expand_passes.specs.Files.{entry_count, forms_of}
use Rattle.dwz_expand_passes.proofs.FaultLemmas.{Nothing, flat_all, flat_answer, flat_none, flat_step, range_got, range_length}
use Rattle.dwz_expand_passes.proofs.faults.check_range.Goals as goal

pub loop-entry-init : goal.loop-entry-init
loop-entry-init c = λ w keys stands know. (
    let k = c.args.known.now in
    flat_none (ValueRefusal w (forms_of k w) stands) (λ (d : ListedEntry ℕ). sites_of k.unit d.0.at 0 d.0.attrs) (in_range (all_entries w) c.args.range.now)
    (c.args.range.now.first - c.args.range.now.first) (omega arith))

pub returns-in_err-check_entry : goal.returns-in_err-check_entry
returns-in_err-check_entry c = λ w keys stands know. (
    let k = c.args.known.now in
    let all = all_entries w in
    let a = c.args.range.now.first in
    let b = c.args.range.now.end in
    let e = c.loop-entry.entry in
    let Has = ValueRefusal w (forms_of k w) stands in
    let many : length all ≡ entry_count k = know.copies.many ∙ c.requires.ready.many in
    let lt : e < b = c.loop-entry-test.true in
    let within = c.requires.range.within in
    let x = got_there all e (omega (arith, many, lt, within)) in
    let p = err_from_is_err_and c.from_residual.result c.from_residual.ensures.1 in
    rw (p.1, p.2) (flat_answer Has (λ (d : ListedEntry ℕ). sites_of k.unit d.0.at 0 d.0.attrs) (in_range all c.args.range.now) (e - a) x.0 c.in_err-check_entry.field-0.0
    (range_got all a b e x.0 c.loop-entry.auto.entry lt x.1) (c.loop-entry.invariant w keys stands know) (c.in_err-check_entry.ensures w keys stands x.0 know x.1)))

pub loop-entry-preserved : goal.loop-entry-preserved
loop-entry-preserved c = λ w keys stands know. (
    let k = c.args.known.now in
    let all = all_entries w in
    let a = c.args.range.now.first in
    let b = c.args.range.now.end in
    let e = c.loop-entry.entry in
    let Has = ValueRefusal w (forms_of k w) stands in
    let many : length all ≡ entry_count k = know.copies.many ∙ c.requires.ready.many in
    let lt : e < b = c.loop-entry-test.true in
    let within = c.requires.range.within in
    let x = got_there all e (omega (arith, many, lt, within)) in
    let low = c.loop-entry.auto.entry in
    let next : e - a + 1 ≡ e + 1 - a = omega (arith, low) in
    subst (λ (n : ℕ). Nothing (OfFirst Has (entry_sites k.unit (take n (in_range all c.args.range.now))))) next
    (flat_step Has (λ (d : ListedEntry ℕ). sites_of k.unit d.0.at 0 d.0.attrs) (in_range all c.args.range.now) (e - a) x.0
    (range_got all a b e x.0 c.loop-entry.auto.entry lt x.1) (c.loop-entry.invariant w keys stands know) (c.in_ok-check_entry.ensures w keys stands x.0 know x.1)))

pub returns : goal.returns
returns c = λ w keys stands know. (
    let k = c.args.known.now in
    let all = all_entries w in
    let a = c.args.range.now.first in
    let b = c.args.range.now.end in
    let e = c.loop-entry.entry in
    let Has = ValueRefusal w (forms_of k w) stands in
    let ends = c.loop-entry-test.false in
    let long = range_length all a b in
    flat_all Has (λ (d : ListedEntry ℕ). sites_of k.unit d.0.at 0 d.0.attrs) (in_range all c.args.range.now) (e - a) (omega (arith, ends, long)) (c.loop-entry.invariant w keys stands know))
