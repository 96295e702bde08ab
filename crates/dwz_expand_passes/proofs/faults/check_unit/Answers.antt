use Rattle.std.proofs.Common.{◌∙◌, ℕ, List, ◌∷◌, Err, get_or, ap, refl, sym, subst}
use Rattle.std.specs.List.{flat_map}
use Rattle.std.proofs.lemmas.Result.{err_from_is_err_and}
use Rattle.dwz_def_expand.specs.Refusals.{Site, nodes, sites_in, sites_of}
use Rattle.dwz_def_reading.specs.Documents.{DwUnit}
use Rattle.dwz_def_reading.specs.FirstOf.{OfFirst}
use Rattle.dwz_expand_sources.specs.declared.sources.SourceRange.{SourceRange}
use Rattle.dwz_expand_sources.specs.Sources.{all_entries, in_range, ranges_of}
use Rattle.dwz_expand_passes.specs.Faults.{FirstRefusalIs, ValueRefusal, entry_sites}
use Rattle.dwz_expand_passes.specs.Files.{forms_of}
use Rattle.dwz_expand_passes.proofs.FaultLemmas.{Nothing, flat_all, flat_answer, flat_none, flat_step, front_answer, later_answer, none_joined}
use Rattle.dwz_expand_passes.proofs.FaultSteps.{unit_parts}
use Rattle.dwz_expand_passes.proofs.OperandLemmas.{got_or_default}
use Rattle.dwz_expand_passes.proofs.faults.check_unit.Goals as goal

pub returns-in_err-check_entry : goal.returns-in_err-check_entry
returns-in_err-check_entry c = λ w keys stands u v know is v_is. (
    let k = c.args.known.now in
    let all = all_entries w in
    let rs = ranges_of c.args.ranges.now c.args.unit.now in
    let g : SourceRange → List (Site ℕ) = λ r. entry_sites k.unit (in_range all r) in
    let Has = ValueRefusal w (forms_of k w) stands in
    let parts = ap (λ (z : DwUnit ℕ). sites_in k.unit (z.root ∷ nodes z.below)) v_is ∙ unit_parts k.unit w c.args.ranges.now c.args.unit.now u is in
    let p = err_from_is_err_and c.from_residual.result c.from_residual.ensures.1 in
    rw (p.1, p.2) (subst (λ (s : List (Site ℕ)). FirstRefusalIs {Y = Unit {0}} Has s (Err c.in_err-check_entry.field-0.0)) (sym parts)
    (front_answer Has (sites_of k.unit u.root.at 0 u.root.attrs) (flat_map g rs) c.in_err-check_entry.field-0.0 (c.in_err-check_entry.ensures w keys stands (u.root, u.below) know is.root))))

pub loop-range-init : goal.loop-range-init
loop-range-init c = record {
  root = λ w keys stands d know there. c.in_ok-check_entry.ensures w keys stands d know there;
  ranges = λ w keys stands know. flat_none (ValueRefusal w (forms_of c.args.known.now w) stands) (λ (r : SourceRange). entry_sites c.args.known.now.unit (in_range (all_entries w) r))
      (ranges_of c.args.ranges.now c.args.unit.now) 0 refl;
}

pub returns-in_err-check_range : goal.returns-in_err-check_range
returns-in_err-check_range c = λ w keys stands u v know is v_is. (
    let k = c.args.known.now in
    let all = all_entries w in
    let rs = ranges_of c.args.ranges.now c.args.unit.now in
    let g : SourceRange → List (Site ℕ) = λ r. entry_sites k.unit (in_range all r) in
    let Has = ValueRefusal w (forms_of k w) stands in
    let parts = ap (λ (z : DwUnit ℕ). sites_in k.unit (z.root ∷ nodes z.below)) v_is ∙ unit_parts k.unit w c.args.ranges.now c.args.unit.now u is in
    let j = c.loop-range.range-index in
    let none : SourceRange = record { first = 0; end = 0 } in
    let x = get_or rs j none in
    let p = err_from_is_err_and c.from_residual-in_err-check_range.result c.from_residual-in_err-check_range.ensures.1 in
    rw (p.1, p.2) (subst (λ (s : List (Site ℕ)). FirstRefusalIs {Y = Unit {0}} Has s (Err c.in_err-check_range.field-0.0)) (sym parts)
    (later_answer Has (sites_of k.unit u.root.at 0 u.root.attrs) (flat_map g rs) c.in_err-check_range.field-0.0 (c.loop-range.invariant.root w keys stands (u.root, u.below) know is.root)
    (flat_answer Has g rs j x c.in_err-check_range.field-0.0 (got_or_default rs j none c.loop-range-test.true) (c.loop-range.invariant.ranges w keys stands know)
    (c.in_err-check_range.ensures w keys stands know)))))

pub loop-range-preserved : goal.loop-range-preserved
loop-range-preserved c = record {
  root = c.loop-range.invariant.root;
  ranges = λ w keys stands know. (
      let k = c.args.known.now in
      let rs = ranges_of c.args.ranges.now c.args.unit.now in
      let g : SourceRange → List (Site ℕ) = λ r. entry_sites k.unit (in_range (all_entries w) r) in
      let j = c.loop-range.range-index in
      let none : SourceRange = record { first = 0; end = 0 } in
      flat_step (ValueRefusal w (forms_of k w) stands) g rs j (get_or rs j none) (got_or_default rs j none c.loop-range-test.true) (c.loop-range.invariant.ranges w keys stands know)
      (c.in_ok-check_range.ensures w keys stands know));
}

pub returns : goal.returns
returns c = λ w keys stands u v know is v_is. (
    let k = c.args.known.now in
    let all = all_entries w in
    let rs = ranges_of c.args.ranges.now c.args.unit.now in
    let g : SourceRange → List (Site ℕ) = λ r. entry_sites k.unit (in_range all r) in
    let Has = ValueRefusal w (forms_of k w) stands in
    let parts = ap (λ (z : DwUnit ℕ). sites_in k.unit (z.root ∷ nodes z.below)) v_is ∙ unit_parts k.unit w c.args.ranges.now c.args.unit.now u is in
    subst (λ (s : List (Site ℕ)). Nothing (OfFirst Has s)) (sym parts)
    (none_joined Has (sites_of k.unit u.root.at 0 u.root.attrs) (flat_map g rs) (c.loop-range.invariant.root w keys stands (u.root, u.below) know is.root)
    (flat_all Has g rs c.loop-range.range-index c.loop-range-test.false (c.loop-range.invariant.ranges w keys stands know))))
