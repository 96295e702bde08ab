use Rattle.std.proofs.Common.{arith}
use Rattle.dwz_label_differences.proofs.EntryLemmas.{goes_in, goes_on, way_begins, way_ends, way_small, way_there}
use Rattle.dwz_label_differences.proofs.entries.path_below.Goals as goal

pub way-init : goal.way-init
way-init c = λ f h l small. way_begins f c.args.k c.args.rows.now c.new-path.result.items c.new-path.ensures.items l h

pub returns-then-number-eq0 : goal.returns-then-number-eq0
returns-then-number-eq0 c = λ f h l small.
    way_ends f c.args.k c.way.left.now c.way.number c.way.index c.way.path.items c.push.new.self.items c.if-number-eq0.true c.in_ok-push.ensures.items (c.way.invariant f h l small)

pub way-preserved-then-number-entry : goal.way-preserved-then-number-entry
way-preserved-then-number-entry c = λ f h l small.
    goes_in f c.args.k c.way.left.now c.in-Some.entry.now c.in-Some.others.now c.in-Some.ensures.cases.0 c.way.index c.way.path.items c.way.number c.front-left.result.now
    c.push-then-number-entry.new.self.items c.if-number-eq0.false c.if-number-entry.true c.front-left.ensures c.in_ok-push-2.ensures.items (c.way.invariant f h l small)

pub way-preserved : goal.way-preserved
way-preserved c = λ f h l small. (
    let on = c.way.invariant f h l small in
    let few = way_small f c.args.k c.way.left.now c.way.number c.way.index c.way.path.items small c.if-number-eq0.false on in
    let sum = c.saturating_add-index.ensures in
    goes_on f c.args.k c.way.left.now c.in-Some.entry.now c.in-Some.others.now c.in-Some.ensures.cases.0 c.way.index c.way.path.items c.way.number c.saturating_add-index.result c.behind-left.result.now
    c.if-number-eq0.false c.if-number-entry.false c.behind-left.ensures (omega (arith, few, sum)) on)

pub returns : goal.returns
returns c = λ f h l small. absurd (way_there f c.args.k c.way.number c.way.index c.way.left.now c.way.path.items c.in_default.ensures.cases (c.way.invariant f h l small))
