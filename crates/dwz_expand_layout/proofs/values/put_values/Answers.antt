use Rattle.dwz_expand_layout.specs.Written.{numbers_view}
use Rattle.dwz_expand_layout.proofs.ValueLemmas.{no_attr, put_all, put_more, put_none}
use Rattle.dwz_expand_layout.proofs.values.put_values.Goals as goal

pub loop-attr-init : goal.loop-attr-init
loop-attr-init c = put_none (numbers_view c.args.numbers) c.args.operands.now c.args.attrs.now c.args.out.now.items

pub loop-attr-preserved : goal.loop-attr-preserved
loop-attr-preserved c =
    put_more (numbers_view c.args.numbers) c.args.operands.now c.args.attrs.now c.loop-attr.attr-index no_attr c.args.out.now.items c.loop-attr.out.items c.put_value.new.out.items
    c.loop-attr.invariant
    c.loop-attr-test.true c.in_ok-put_value.ensures

pub returns : goal.returns
returns c =
    put_all (numbers_view c.args.numbers) c.args.operands.now c.args.attrs.now c.loop-attr.attr-index c.args.out.now.items c.loop-attr.out.items c.loop-attr.invariant c.loop-attr-test.false
