use Rattle.std.proofs.Common.{arith}
use Rattle.dwz_unit.specs.Rows.{units_of}
use Rattle.dwz_graph_resolve.proofs.NamedSteps.{entry_added}
use Rattle.dwz_graph_resolve.proofs.PlaceLemmas.{among_there}
use Rattle.dwz_graph_resolve.proofs.references.add_hinted.Goals as goal

pub returns-in-Ok-clause-added : goal.returns-in-Ok-clause-added
returns-in-Ok-clause-added c = λ told common own at is. (
    let f = c.in-Some.ensures in
    let there = among_there (units_of c.args.units.now) c.args.first c.args.end c.in-Some.number c.args.place own is c.requires f.0 f.1 f.2 in
    entry_added common (units_of c.args.units.now) c.args.refs.now.items c.push.new.self.items own at c.args.place c.in-Some.number c.in-Ok.ensures.items there f.2
    (omega (arith, f.1, c.requires)))
