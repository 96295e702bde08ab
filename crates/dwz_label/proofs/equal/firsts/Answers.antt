use Rattle.dwz_label.proofs.Settled.{first_equals, rest_inside, rest_one}
use Rattle.dwz_label.proofs.equal.firsts.Goals as goal

pub with_least-requires-clause-inside : goal.with_least-requires-clause-inside
with_least-requires-clause-inside c =
    rest_inside c.args.labels.now c.args.movable.now c.requires.many c.in_ok-firsts.field-0 c.in_ok-firsts.ensures.put c.in_ok-firsts.ensures.len

pub with_least-requires-clause-one : goal.with_least-requires-clause-one
with_least-requires-clause-one c = rest_one c.args.labels.now c.args.movable.now c.requires.many c.in_ok-firsts.field-0 c.in_ok-firsts.ensures.put

pub returns : goal.returns
returns c =
    first_equals c.args.labels.now c.args.movable.now c.requires.many c.in_ok-firsts.field-0 c.in_ok-firsts.ensures.put c.with_least.result.items c.with_least.ensures
    c.in_ok-firsts.ensures.len
