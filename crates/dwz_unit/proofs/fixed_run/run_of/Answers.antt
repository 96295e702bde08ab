use Rattle.std.proofs.Common.{◌≡◌, ◌∙◌, Some, get_or, sym, arith}
use Rattle.dwz_codes.specs.Forms.{form_rows}
use Rattle.dwz_forms.specs.FixedSizes.{size_among}
use Rattle.dwz_unit.proofs.FixedRunLemmas.{run_more, small_among}
use Rattle.dwz_unit.proofs.StopRowLemmas.{no_pair}
use Rattle.dwz_unit.proofs.fixed_run.run_of.Goals as goal

pub loop-pair-preserved : goal.loop-pair-preserved
loop-pair-preserved c =
    let pairs = c.args.pairs.now in
    let n = c.loop-pair.pair-index in
    let i = c.loop-pair.invariant in
    let sized : size_among form_rows (get_or pairs n no_pair).form ≡ Some c.in-Some.size = sym c.size_among.ensures ∙ c.in-Some.is in
    record {
      counted = omega (arith, i.counted);
      few = omega (arith, i.few, c.if-count-eq-LONGEST.false);
      within = omega (arith, c.loop-pair-test.true);
      small = omega (arith, i.small, small_among (get_or pairs n no_pair).form c.in-Some.size sized);
      bytes = run_more pairs n c.loop-pair.bytes c.in-Some.size no_pair c.loop-pair-test.true i.bytes sized;
    }
