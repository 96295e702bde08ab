use Rattle.std.proofs.Common.{◌+◌, arith}
use Rattle.dwz_unit.specs.Rows.{units_of}
use Rattle.dwz_move.specs.Weights.{rows_weight}
use Rattle.dwz_move.proofs.WeightLemmas.{capped_few}
use Rattle.dwz_move.proofs.WeightSteps.{rows_all, rows_heavy, rows_more, rows_none}
use Rattle.dwz_move.proofs.weights.EntryWeights.of_entries.Goals as goal

pub loop-i-init : goal.loop-i-init
loop-i-init c = record {
  few = omega arith;
  left = λ s numbers rows after ds name m. rows_all (units_of c.args.self.now) s name c.args.end c.args.first numbers rows after ds m;
}

pub loop-i-preserved : goal.loop-i-preserved
loop-i-preserved c = record {
  few = capped_few (c.loop-i.weight + c.of_entry.result) c.add_weights-weight.result c.add_weights-weight.ensures;
  left = λ s numbers rows after ds name m. rows_more (units_of c.args.self.now) s name c.args.end c.loop-i.i c.loop-i.weight c.of_entry.result c.add_weights-weight.result
      (rows_weight name c.args.first rows ds) c.loop-i-test.true
      (λ ns r d h. c.of_entry.ensures s ns r d name h) c.add_weights-weight.ensures (c.loop-i.invariant.left s numbers rows after ds name m);
}

pub returns-then-weight-eq-HEAVY-clause-weight : goal.returns-then-weight-eq-HEAVY-clause-weight
returns-then-weight-eq-HEAVY-clause-weight c = λ s numbers rows after ds name m. rows_heavy (units_of c.args.self.now) s name c.args.end c.loop-i.i c.loop-i.weight
    (rows_weight name c.args.first rows ds) c.if-weight-eq-HEAVY.true (c.loop-i.invariant.left s numbers rows after ds name m)

pub returns-clause-weight : goal.returns-clause-weight
returns-clause-weight c = λ s numbers rows after ds name m. rows_none (units_of c.args.self.now) s name c.args.end c.loop-i.i c.loop-i.weight (rows_weight name c.args.first rows ds)
    (omega (arith, c.loop-i-test.false)) (c.loop-i.invariant.left s numbers rows after ds name m)
