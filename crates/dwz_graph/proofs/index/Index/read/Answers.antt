use Rattle.std.proofs.Common.{◌≡◌, ℕ, ◌+◌, List, [], length, sym, ap, subst, ◌∙◌, arith}
use Rattle.dwz_def_reading.specs.Units.{RawUnit, entries_in}
use Rattle.dwz_def_reading.proofs.MeaningUnits.{units_agree}
use Rattle.dwz_graph_resolve.proofs.UnitStarts.{all_whole}
use Rattle.dwz_unit.specs.Rows.{units_of}
use Rattle.dwz_graph.specs.declared.index.SpaceEntry.{SpaceEntry}
use Rattle.dwz_graph.specs.declared.index.Starts.{Starts}
use Rattle.dwz_graph.specs.declared.index.Step.{Step}
use Rattle.dwz_graph.specs.declared.index.TopEntry.{TopEntry}
use Rattle.dwz_graph.specs.Building.{IsFew, nothing_yet, with_units}
use Rattle.dwz_graph.specs.Index.{Index}
use Rattle.dwz_graph.proofs.UnitBuilding.{few_units, units_long}
use Rattle.dwz_graph.proofs.UnitsMean.{has_tops, is_index}
use Rattle.dwz_graph.proofs.index.Index.read.Goals as goal

from_nothing : (x : Index) (s : Starts) (raw : List RawUnit) (steps : List Step) (tops : List TopEntry) (spaces : List SpaceEntry)
    → x ≡ with_units s.unit 0 raw (record { steps = steps; tops = tops; spaces = spaces; starts = s })
    → steps ≡ [] → tops ≡ [] → spaces ≡ [] → x ≡ with_units s.unit 0 raw (nothing_yet s)
from_nothing x s raw steps tops spaces e a b d = e ∙ (λ k. with_units s.unit 0 raw (record { steps = a k; tops = b k; spaces = d k; starts = s }))

pub returns-clause-len : goal.returns-clause-len
returns-clause-len c =
    let built = from_nothing c.put_units.new.self c.args.starts.now (units_of c.args.units.now) c.in_ok-steps.steps.items c.new.result.items c.new-2.result.items c.in_ok-put_units.ensures
    c.in_ok-steps.ensures.items c.new.ensures.items c.new-2.ensures.items in
    let long = units_long c.args.starts.now.unit 0 (units_of c.args.units.now) (nothing_yet c.args.starts.now) in
    let same = ap (λ (w : Index). length w.steps) built in
    omega arith

pub returns-clause-names : goal.returns-clause-names
returns-clause-names c = λ alone around said means. is_index around c.args.starts.now (units_of c.args.units.now) said c.put_units.new.self (all_whole c.args.units.now alone)
    (((units_agree around (units_of c.args.units.now)).ok said).0 means)
    (from_nothing c.put_units.new.self c.args.starts.now (units_of c.args.units.now) c.in_ok-steps.steps.items c.new.result.items c.new-2.result.items c.in_ok-put_units.ensures
    c.in_ok-steps.ensures.items c.new.ensures.items c.new-2.ensures.items)

pub returns-clause-tops : goal.returns-clause-tops
returns-clause-tops c = λ around said means. has_tops around c.args.starts.now (units_of c.args.units.now) said c.put_units.new.self
    (((units_agree around (units_of c.args.units.now)).ok said).0 means)
    (from_nothing c.put_units.new.self c.args.starts.now (units_of c.args.units.now) c.in_ok-steps.steps.items c.new.result.items c.new-2.result.items c.in_ok-put_units.ensures
    c.in_ok-steps.ensures.items c.new.ensures.items c.new-2.ensures.items)

pub returns-clause-few : goal.returns-clause-few
returns-clause-few c =
    let built = from_nothing c.put_units.new.self c.args.starts.now (units_of c.args.units.now) c.in_ok-steps.steps.items c.new.result.items c.new-2.result.items c.in_ok-put_units.ensures
    c.in_ok-steps.ensures.items c.new.ensures.items c.new-2.ensures.items in
    let raw = units_of c.args.units.now in
    let none : 0 + entries_in raw ≡ entries_in raw = omega arith in
    subst (λ (n : ℕ). IsFew c.put_units.new.self n) none
    (subst (λ (w : Index). IsFew w (0 + entries_in raw)) (sym built) (few_units c.args.starts.now.unit 0 raw (nothing_yet c.args.starts.now) (record { tops = omega arith; spaces = omega arith })))
