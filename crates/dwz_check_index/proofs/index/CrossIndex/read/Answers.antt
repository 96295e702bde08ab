use Rattle.std.proofs.Common.{◌≡◌, ℕ, ◌+◌, List, [], length, sym, ap, subst, ◌∙◌, arith}
use Rattle.dwz_def_reading.specs.Units.{RawUnit, entries_in}
use Rattle.dwz_def_reading.proofs.MeaningUnits.{units_agree}
use Rattle.dwz_unit.specs.Rows.{units_of}
use Rattle.dwz_check_index.specs.declared.index.CrossStarts.{CrossStarts}
use Rattle.dwz_check_index.specs.declared.index.Step.{Step}
use Rattle.dwz_check_index.specs.declared.index.TopEntry.{TopEntry}
use Rattle.dwz_check_index.specs.declared.index.UnitStart.{UnitStart}
use Rattle.dwz_check_index.specs.Building.{IsFew, nothing_yet, with_units}
use Rattle.dwz_check_index.specs.Index.{CrossIndex}
use Rattle.dwz_check_index.proofs.UnitBuilding.{few_units, units_long}
use Rattle.dwz_check_index.proofs.UnitsShown.{is_index}
use Rattle.dwz_check_index.proofs.index.CrossIndex.read.Goals as goal

from_nothing : (x : CrossIndex) (s : CrossStarts) (raw : List RawUnit) (steps : List Step) (tops : List TopEntry) (lone : List ℕ) (units : List UnitStart)
    → x ≡ with_units 0 0 0 raw (record { steps = steps; tops = tops; lone = lone; units = units; starts = s }) → steps ≡ [] → tops ≡ [] → lone ≡ [] → units ≡ []
    → x ≡ with_units 0 0 0 raw (nothing_yet s)
from_nothing x s raw steps tops lone units e a b d f = e ∙ (λ k. with_units 0 0 0 raw (record { steps = a k; tops = b k; lone = d k; units = f k; starts = s }))

pub returns-clause-len : goal.returns-clause-len
returns-clause-len c =
    let built = from_nothing c.put_units.new.self c.args.starts.now (units_of c.args.units.now) c.in_ok-steps.steps.items c.new.result.items c.new-2.result.items c.new-3.result.items
    c.in_ok-put_units.ensures c.in_ok-steps.ensures.items c.new.ensures.items c.new-2.ensures.items c.new-3.ensures.items in
    let long = units_long 0 0 0 (units_of c.args.units.now) (nothing_yet c.args.starts.now) in
    let same = ap (λ (w : CrossIndex). length w.steps) built in
    omega arith

pub returns-clause-names : goal.returns-clause-names
returns-clause-names c = λ around said means. is_index around c.args.starts.now (units_of c.args.units.now) said c.put_units.new.self
    (((units_agree around (units_of c.args.units.now)).ok said).0 means)
    (from_nothing c.put_units.new.self c.args.starts.now (units_of c.args.units.now) c.in_ok-steps.steps.items c.new.result.items c.new-2.result.items c.new-3.result.items
    c.in_ok-put_units.ensures c.in_ok-steps.ensures.items c.new.ensures.items c.new-2.ensures.items c.new-3.ensures.items)

pub returns-clause-few : goal.returns-clause-few
returns-clause-few c =
    let built = from_nothing c.put_units.new.self c.args.starts.now (units_of c.args.units.now) c.in_ok-steps.steps.items c.new.result.items c.new-2.result.items c.new-3.result.items
    c.in_ok-put_units.ensures c.in_ok-steps.ensures.items c.new.ensures.items c.new-2.ensures.items c.new-3.ensures.items in
    let raw = units_of c.args.units.now in
    let none : 0 + entries_in raw ≡ entries_in raw = omega arith in
    subst (λ (n : ℕ). IsFew c.put_units.new.self n) none
    (subst (λ (w : CrossIndex). IsFew w (0 + entries_in raw)) (sym built) (few_units 0 0 0 raw (nothing_yet c.args.starts.now) (record { tops = omega arith; lone = omega arith })))
