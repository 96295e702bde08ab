use Rattle.std.proofs.Common.{◌+◌, subst, arith}
use Rattle.std.proofs.lemmas.List.{length-map}
use Rattle.dwz_graph_resolve.specs.declared.operands.ListOperand.{ListOperand}
use Rattle.dwz_graph_resolve.proofs.ApartLemmas.{Parted, ends, ends_rise, map_get, parted_all, parted_behind, parted_down, parted_up}
use Rattle.dwz_graph_resolve.proofs.shared.behind.Goals as goal

pub loop-low-init : goal.loop-low-init
loop-low-init c = record {
  order = omega arith;
  within = omega arith;
  parted = λ top rows. subst (λ (n : _). Parted (ends c.args.kept.now) c.args.place 0 n) (length-map c.args.kept.now (λ (o : ListOperand). o.at + o.width))
      (parted_all (ends c.args.kept.now) c.args.place);
}

pub loop-low-preserved-then-row-place : goal.loop-low-preserved-then-row-place
loop-low-preserved-then-row-place c =
    let order = c.loop-low.invariant.order in
    let within = c.loop-low.invariant.within in
    let test = c.loop-low-test.true in
    record {
      order = omega arith;
      within = omega arith;
      parted = λ top rows. parted_up (ends c.args.kept.now) c.args.place c.loop-low.low c.loop-low.high _ _ (ends_rise c.args.kept.now 0 top rows) (omega arith) (omega arith)
          (map_get (λ (o : ListOperand). o.at + o.width) c.args.kept.now _ _ (omega arith)) c.if-row-place.true (c.loop-low.invariant.parted top rows);
    }

pub loop-low-preserved : goal.loop-low-preserved
loop-low-preserved c =
    let order = c.loop-low.invariant.order in
    let within = c.loop-low.invariant.within in
    let test = c.loop-low-test.true in
    record {
      order = omega arith;
      within = omega arith;
      parted = λ top rows. parted_down (ends c.args.kept.now) c.args.place c.loop-low.low c.loop-low.high _ _ (ends_rise c.args.kept.now 0 top rows) (omega arith) (omega arith)
          (map_get (λ (o : ListOperand). o.at + o.width) c.args.kept.now _ _ (omega arith)) c.if-row-place.false (c.loop-low.invariant.parted top rows);
    }

pub returns-clause-behind : goal.returns-clause-behind
returns-clause-behind c = λ top rows. parted_behind c.args.kept.now c.args.place c.loop-low.low c.loop-low.high c.loop-low-test.false (c.loop-low.invariant.parted top rows)
