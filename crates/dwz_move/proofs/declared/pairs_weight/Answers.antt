use Rattle.std.proofs.Common.{sym, ◌∙◌, arith}
use Rattle.dwz_graph.proofs.ValueSteps.{no_pair}
use Rattle.dwz_move.specs.Weights.{pairs_weight}
use Rattle.dwz_move.proofs.DeclaredWeights.{weights_all, weights_end, weights_more, weights_unknown}
use Rattle.dwz_move.proofs.WeightLemmas.{capped_few}
use Rattle.dwz_move.proofs.declared.pairs_weight.Goals as goal

pub loop-pair-init : goal.loop-pair-init
loop-pair-init c = record { low = omega arith; left = weights_all c.args.pairs.now }

pub returns-in_default : goal.returns-in_default
returns-in_default c =
    weights_unknown c.args.pairs.now c.loop-pair.pair-index no_pair c.loop-pair.weight (pairs_weight c.args.pairs.now) c.loop-pair.invariant.left c.loop-pair-test.true
    (sym c.pair_weight.ensures ∙ c.in_default.is)

pub loop-pair-preserved : goal.loop-pair-preserved
loop-pair-preserved c = record {
  low = capped_few _ c.add_weights-weight.result c.add_weights-weight.ensures;
  left = weights_more c.args.pairs.now c.loop-pair.pair-index no_pair c.loop-pair.weight (pairs_weight c.args.pairs.now) c.loop-pair.invariant.left c.loop-pair-test.true c.in-Some.more
      c.add_weights-weight.result (sym c.pair_weight.ensures ∙ c.in-Some.is) c.add_weights-weight.ensures;
}

pub returns : goal.returns
returns c =
    weights_end c.args.pairs.now c.loop-pair.pair-index no_pair c.loop-pair.weight (pairs_weight c.args.pairs.now) c.loop-pair.invariant.left (omega (arith, c.loop-pair-test.false))
    c.loop-pair.invariant.low
