use Rattle.std.proofs.Common.{ℕ, List, sym, subst, arith}
use Rattle.dwz_reuse.specs.Spread.{PutsSources}
use Rattle.dwz_reuse.proofs.SpreadSteps.{SourcesBefore, all_before, none_before, one_more}
use Rattle.dwz_reuse.proofs.spread.sources_of.Goals as goal

pub loop-top-init : goal.loop-top-init
loop-top-init c = subst (SourcesBefore c.args.first c.args.targets.now 0) (sym c.new-edges.ensures.items) (none_before c.args.first c.args.targets.now)

pub loop-top-preserved : goal.loop-top-preserved
loop-top-preserved c =
    one_more c.args.first c.args.targets.now c.loop-top.top c.loop-top.edges.items c.put_sources.new.edges.items c.loop-top.invariant
    (subst (λ (w : List ℕ). PutsSources c.args.first c.loop-top.top w c.loop-top.edges.items c.put_sources.new.edges.items) c.get.ensures c.in_ok-put_sources.ensures)

pub returns : goal.returns
returns c =
    let last = c.loop-top-test.false in
    let many = c.requires.count in
    all_before c.args.first c.args.targets.now c.loop-top.top c.loop-top.edges.items (omega (arith, last, many)) c.loop-top.invariant
