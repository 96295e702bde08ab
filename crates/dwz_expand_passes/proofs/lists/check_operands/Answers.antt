use Rattle.std.proofs.Common.{ℕ, List, false, get_or, map, take, sym, subst, arith}
use Rattle.std.proofs.lemmas.List.{length-map}
use Rattle.std.proofs.lemmas.Result.{err_from_is_err_and}
use Rattle.dwz_model.specs.Lists.{Each}
use Rattle.dwz_def_reading.specs.declared.exprs.Operand.{Operand}
use Rattle.dwz_def_reading.specs.Meanings.{target_of, targets}
use Rattle.dwz_model.specs.declared.place.Base.TheVariants.{Unit as FromUnit}
use Rattle.dwz_graph.specs.Operands.{is_named}
use Rattle.dwz_label_entries.proofs.RefLemmas.{each_named}
use Rattle.dwz_expand_passes.specs.Copied.{Lost, operand_places}
use Rattle.dwz_expand_passes.specs.Known.{scope}
use Rattle.dwz_expand_passes.proofs.LostLemmas.{none_from}
use Rattle.dwz_expand_passes.proofs.OperandLemmas.{checks_err, each_last, got_or_default, take_one, take_whole}
use Rattle.dwz_expand_passes.proofs.ListSteps.{target_got}
use Rattle.dwz_expand_passes.proofs.lists.check_operands.Goals as goal

pub returns-in_err-check_operand : goal.returns-in_err-check_operand
returns-in_err-check_operand c = λ q at fits none. (
    let d : Operand = record { at = 0; width = 0; uleb = false; base = FromUnit; number = 0 } in
    let os = c.args.operands.now in
    let k = c.loop-operand.operand-index in
    let o = get_or os k d in
    let lt = c.loop-operand-test.true in
    let found = got_or_default os k d lt in
    let e = err_from_is_err_and c.from_residual.result c.from_residual.ensures.1 in
    rw (e.1, e.2) (checks_err q os (map q.place (targets (scope q) os)) k o (q.place (target_of (scope q) o)) at c.in_err-check_operand.field-0.0 found (target_got q c.args.x.now os k o fits found)
    (c.loop-operand.invariant q fits none) (c.in_err-check_operand.ensures q fits (each_named (is_named (scope q)) os k d none lt))))

pub loop-operand-preserved : goal.loop-operand-preserved
loop-operand-preserved c = λ q fits none. (
    let d : Operand = record { at = 0; width = 0; uleb = false; base = FromUnit; number = 0 } in
    let os = c.args.operands.now in
    let k = c.loop-operand.operand-index in
    let o = get_or os k d in
    let lt = c.loop-operand-test.true in
    let found = got_or_default os k d lt in
    let places = map q.place (targets (scope q) os) in
    let p = q.place (target_of (scope q) o) in
    subst (λ (w : List ℕ). Each (λ r. ¬ Lost q r) w) (sym (take_one places k p (target_got q c.args.x.now os k o fits found)))
    (each_last (λ r. ¬ Lost q r) (take k places) p (c.loop-operand.invariant q fits none) (c.in_ok-check_operand.ensures q fits (each_named (is_named (scope q)) os k d none lt))))

pub returns : goal.returns
returns c = λ q at fits none. (
    let os = c.args.operands.now in
    let k = c.loop-operand.operand-index in
    let places = map q.place (targets (scope q) os) in
    let le = c.loop-operand-test.false in
    let long = length-map (targets (scope q) os) q.place in
    let many = length-map os (λ (o : Operand). q.around.place (target_of (scope q) o)) in
    none_from q (operand_places 7 os at) 0 places (subst (λ (w : List ℕ). Each (λ r. ¬ Lost q r) w) (take_whole places k (omega (arith, le, long, many))) (c.loop-operand.invariant q fits none)))
