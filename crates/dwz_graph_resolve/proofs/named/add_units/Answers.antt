use Rattle.std.proofs.Common.{◌≡◌, ℕ, ◌+◌, ◌-◌, [], take, Ok, refl, subst, ◌∙◌, arith}
use Rattle.std.specs.Prelude.{slice_range}
use Rattle.std.proofs.lemmas.Result.{err_from_is_err_and}
use Rattle.dwz_def_reading.proofs.ListFacts.{got_there}
use Rattle.dwz_unit.specs.Rows.{units_of}
use Rattle.dwz_graph_resolve.specs.Named.{collect, unit_named}
use Rattle.dwz_graph_resolve.specs.Parts.{IsParted}
use Rattle.dwz_graph_resolve.specs.Resolved.{Goes, StateAt}
use Rattle.dwz_graph_resolve.specs.Surroundings.{around_in, common_view}
use Rattle.dwz_graph_resolve.proofs.JoinLemmas.{got_range, range_many}
use Rattle.dwz_graph_resolve.proofs.NamedSteps.{adds_all, adds_more, adds_none, fails_at}
use Rattle.dwz_graph_resolve.proofs.named.add_units.Goals as goal

pub loop-n-init : goal.loop-n-init
loop-n-init c =
    let raw = units_of c.args.units.now in
    let co = common_view c.args.around.now.common in
    let st = c.args.state.now in
    let own = slice_range raw c.args.first c.args.end in
    let f = unit_named (around_in c.args.around.now raw) in
    let none : 0 ≡ c.args.first - c.args.first = omega arith in
    record {
      file = refl;
      goes = λ k. subst (λ (j : ℕ). Goes {Y = Unit {0}} co raw (StateAt c.args.around.now raw c.args.first) [] st st (Ok tt) (collect f (take j own))) none
          (adds_none co raw (StateAt c.args.around.now raw c.args.first) f own [] st st refl k);
      parts = λ k parted. parted;
    }

pub returns-in_err-add_unit-clause-goes : goal.returns-in_err-add_unit-clause-goes
returns-in_err-add_unit-clause-goes c = λ k. (
    let p = err_from_is_err_and c.from_residual.result c.from_residual.ensures.1 in
    let raw = units_of c.args.units.now in
    let co = common_view c.args.around.now.common in
    let units = c.requires.units in
    let order = units.0 in
    let within = units.1 in
    let n = c.loop-n.n in
    let u = got_there raw n (omega (arith, order, within)) in
    let own = slice_range raw c.args.first c.args.end in
    rw (p.1, p.2) (fails_at co raw (StateAt c.args.around.now raw n) (unit_named (around_in c.args.around.now raw)) own (n - c.args.first) u.0 [] c.args.state.now c.loop-n.state
    c.in_err-add_unit.field-0.0 (got_range raw c.args.first c.args.end n u.0 (omega arith) (omega arith) u.1) (c.loop-n.invariant.goes k)
    (λ lists q. c.in_err-add_unit.ensures.goes u.0 lists u.1 q)))

pub loop-n-preserved : goal.loop-n-preserved
loop-n-preserved c =
    let raw = units_of c.args.units.now in
    let co = common_view c.args.around.now.common in
    let units = c.requires.units in
    let order = units.0 in
    let within = units.1 in
    let n = c.loop-n.n in
    let u = got_there raw n (omega (arith, order, within)) in
    let own = slice_range raw c.args.first c.args.end in
    let f = unit_named (around_in c.args.around.now raw) in
    let next : n - c.args.first + 1 ≡ n + 1 - c.args.first = omega arith in
    record {
      file = c.in_ok-add_unit.ensures.file ∙ c.loop-n.invariant.file;
      goes = λ k. subst (λ (j : ℕ). Goes {Y = Unit {0}} co raw (StateAt c.args.around.now raw (n + 1)) [] c.args.state.now c.add_unit.new.state (Ok tt) (collect f (take j own))) next
          (adds_more co raw (StateAt c.args.around.now raw n) (StateAt c.args.around.now raw (n + 1)) f own (n - c.args.first) u.0 []
          c.args.state.now c.loop-n.state c.add_unit.new.state (got_range raw c.args.first c.args.end n u.0 (omega arith) (omega arith) u.1) (c.loop-n.invariant.goes k)
          (λ lists q. c.in_ok-add_unit.ensures.goes u.0 lists u.1 q));
      parts = λ k parted. (let g = c.loop-n.invariant.goes k in c.in_ok-add_unit.ensures.parts c.args.first g.lists (omega arith) g.keeps (c.loop-n.invariant.parts k parted));
    }

pub returns-clause-goes : goal.returns-clause-goes
returns-clause-goes c = λ k. (
    let raw = units_of c.args.units.now in
    let co = common_view c.args.around.now.common in
    let units = c.requires.units in
    let order = units.0 in
    let n = c.loop-n.n in
    let all : n ≡ c.args.end = omega (arith, order) in
    let own = slice_range raw c.args.first c.args.end in
    let f = unit_named (around_in c.args.around.now raw) in
    let many = range_many raw c.args.first c.args.end in
    subst (λ (m : ℕ). Goes {Y = Unit {0}} co raw (StateAt c.args.around.now raw m) [] c.args.state.now c.loop-n.state (Ok tt) (collect f own)) all
    (adds_all co raw (StateAt c.args.around.now raw n) f own (n - c.args.first) [] c.args.state.now c.loop-n.state (omega (arith, many, all)) (c.loop-n.invariant.goes k)))

pub returns-clause-parts : goal.returns-clause-parts
returns-clause-parts c = λ k parted. (
    let raw = units_of c.args.units.now in
    let units = c.requires.units in
    let order = units.0 in
    let all : c.loop-n.n ≡ c.args.end = omega (arith, order) in
    subst (λ (n : ℕ). IsParted c.args.around.now raw c.args.first n c.loop-n.state c.loop-n.parts) all (c.loop-n.invariant.parts k parted))
