use Rattle.std.proofs.Common.{arith, ◌∙◌}
use Rattle.dwz_rounds.proofs.Membership.{numbers-below}
use Rattle.dwz_rounds.proofs.finish.pass_all.Goals as goal

pub passes-preserved : goal.passes-preserved
passes-preserved c =
    let e = c.in_ok-done.ensures in
    record {
      len = c.pass.ensures.len ∙ c.passes.invariant.len;
      pending = e.pending c.if-not-done.false;
      members = e.members c.if-not-done.false;
      room = e.room;
    }

pub returns-clause-numbers : goal.returns-clause-numbers
returns-clause-numbers c = λ done k d l.
    let i = c.passes.invariant in
    let n = numbers-below c.passes.numbers c.passes.ranges.items c.passes.members.items i.members k d l in
    let few = i.members.few in
    let e = i.pending.len in
    omega arith
