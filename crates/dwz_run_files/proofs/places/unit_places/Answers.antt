use Rattle.std.proofs.Common.{ℕ, List, length, ap, ◌∙◌, arith}
use Rattle.dwz_unit.specs.Rows.{units_of}
use Rattle.dwz_run_files.proofs.UnitSteps.{all_places, as_many, no_places, places_more}
use Rattle.dwz_run_files.proofs.places.unit_places.Goals as goal

pub loop-n-init : goal.loop-n-init
loop-n-init c = c.in_ok-out.ensures.items ∙ no_places c.args.start c.args.places.now

pub loop-n-preserved : goal.loop-n-preserved
loop-n-preserved c = places_more c.args.start c.args.places.now (units_of c.args.units.now) c.loop-n.n c.unit-unit.result c.loop-n.out.items
    c.push.new.self.items c.at_or-root.result c.before_root.result c.unit-unit.ensures c.loop-n.invariant c.at_or-root.ensures
    c.before_root.ensures c.in_ok-push.ensures.items

pub returns-clause-are : goal.returns-clause-are
returns-clause-are c = all_places c.args.start c.args.places.now (units_of c.args.units.now) c.loop-n.n c.loop-n.out.items
    (let end = c.len-n-end.ensures in omega arith) c.loop-n.invariant

pub returns-clause-many : goal.returns-clause-many
returns-clause-many c =
    let all = all_places c.args.start c.args.places.now (units_of c.args.units.now) c.loop-n.n c.loop-n.out.items
    (let end = c.len-n-end.ensures in omega arith) c.loop-n.invariant in
    ap (λ (w : List ℕ). length w) all ∙ as_many c.args.start c.args.places.now (units_of c.args.units.now)
