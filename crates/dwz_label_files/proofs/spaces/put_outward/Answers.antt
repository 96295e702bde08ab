use Rattle.std.proofs.Common.{◌++◌, arith}
use Rattle.dwz_label_files.proofs.SpaceLemmas.{none_left, one_more, outer_less}
use Rattle.dwz_label_files.proofs.spaces.put_outward.Goals as goal

pub returns-in_default : goal.returns-in_default
returns-in_default c = λ out is. none_left c.args.first c.args.spaces.now c.outward.at c.outward.entries.items (c.args.entries.now.items ++ out) c.in_default.ensures (c.outward.invariant out is)

pub returns-then-space-at : goal.returns-then-space-at
returns-then-space-at c = λ out is. (
    let less = outer_less c.args.first c.args.spaces.now c.outward.at c.in-Some.space c.outward.entries.items (c.args.entries.now.items ++ out) c.in-Some.ensures (c.outward.invariant out is) in
    absurd (omega arith))

pub outward-preserved : goal.outward-preserved
outward-preserved c = λ out is. one_more c.args.first c.args.spaces.now c.outward.at c.in-Some.space c.outward.entries.items c.push.new.self.items (c.args.entries.now.items ++ out) c.in-Some.ensures
    (c.outward.invariant out is) c.in_ok-push.ensures.items
