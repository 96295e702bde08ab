use Rattle.std.proofs.Common.{length, ap, ◌∙◌, arith}
use Rattle.dwz_expand.proofs.WalkSteps.{all_units, none_told, one_unit}
use Rattle.dwz_expand.proofs.numbers.told_lists.Goals as goal

pub loop-n-init : goal.loop-n-init
loop-n-init c = record {
  copies = c.requires.copies;
  many = c.requires.many;
  told = λ f h. c.new-told.ensures.items ∙ none_told f c.args.file.now;
}

pub loop-n-preserved : goal.loop-n-preserved
loop-n-preserved c =
    let v = c.loop-n.invariant in
    let t = c.loop-n-test.true in
    let many = ap length c.units-n-end.ensures in
    record {
      copies = c.enter.ensures.copies;
      many = c.enter.ensures.entries ∙ v.many;
      told = λ f h. one_unit f c.args.file.now c.loop-n.n c.loop-n.told.items c.put_sources.new.told.items (omega (arith, t, many)) (v.told f h) (λ new got. c.in_ok-put_sources.ensures f h new got);
    }

pub returns : goal.returns
returns c = λ f h.
    let v = c.loop-n.invariant in
    let t = c.loop-n-test.false in
    let many = ap length c.units-n-end.ensures in
    let end = c.loop-n.auto.n-end in
    all_units f c.args.file.now c.loop-n.n c.loop-n.told.items (omega (arith, t, many, end)) (v.told f h)
