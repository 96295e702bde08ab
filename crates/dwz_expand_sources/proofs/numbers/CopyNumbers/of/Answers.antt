use Rattle.std.proofs.Common.{◌≡◌, ℕ, ◌+◌, ◌<◌, ◌≤◌, ◌^◌, List, length, sym, subst, arith}
use Rattle.dwz_expand_sources.specs.declared.sources.NewUnit.{NewUnit}
use Rattle.dwz_expand_sources.specs.declared.sources.SourceRange.{SourceRange}
use Rattle.dwz_expand_sources.specs.Numbers.{copy_count}
use Rattle.dwz_expand_sources.proofs.NumberSteps.{UnitsNumbered, numbers_end, roots_end, unit_on, unit_room}
use Rattle.dwz_expand_sources.proofs.numbers.CopyNumbers.of.Goals as goal

none : NewUnit
none = record { unit = 0; root = 0; first = 0; end = 0 }

-- of the same ranges and units
numbered : (ranges rs : List SourceRange) (units us : List NewUnit) (roots numbers : List ℕ) (i at : ℕ) → ranges ≡ rs → units ≡ us
    → UnitsNumbered ranges units roots numbers i at → UnitsNumbered rs us roots numbers i at
numbered ranges rs units us roots numbers i at e f g =
    subst (λ (w : List NewUnit). UnitsNumbered rs w roots numbers i at) f (subst (λ (w : List SourceRange). UnitsNumbered w units roots numbers i at) e g)

few_of : (ranges rs : List SourceRange) (units us : List NewUnit) → ranges ≡ rs → units ≡ us → copy_count ranges units < 2 ^ 64 → copy_count rs us < 2 ^ 64
few_of ranges rs units us e f few = subst (λ (w : List NewUnit). copy_count rs w < 2 ^ 64) f (subst (λ (w : List SourceRange). copy_count w units < 2 ^ 64) e few)

pub overflow_add-at : goal.overflow_add-at
unfolding none
overflow_add-at c =
    let sources = c.args.sources.now in
    let rs = c.ranges-all.result.now in
    let us = c.units-unit-items.result.now in
    let e = sym c.ranges-all.ensures in
    let f = sym c.units-unit-items.ensures in
    let g = numbered sources.ranges rs sources.units us c.loop-unit.roots.items c.loop-unit.numbers.items c.loop-unit.unit-index c.loop-unit.at e f c.loop-unit.invariant in
    let room = unit_room rs us c.loop-unit.roots.items c.loop-unit.numbers.items c.loop-unit.unit-index c.loop-unit.at none g c.loop-unit-test.true in
    let few = few_of sources.ranges rs sources.units us e f c.requires.few in
    omega arith

pub put_numbers-requires : goal.put_numbers-requires
unfolding none
put_numbers-requires c =
    let sources = c.args.sources.now in
    let rs = c.ranges-all.result.now in
    let us = c.units-unit-items.result.now in
    let e = sym c.ranges-all.ensures in
    let f = sym c.units-unit-items.ensures in
    let g = numbered sources.ranges rs sources.units us c.loop-unit.roots.items c.loop-unit.numbers.items c.loop-unit.unit-index c.loop-unit.at e f c.loop-unit.invariant in
    let room = unit_room rs us c.loop-unit.roots.items c.loop-unit.numbers.items c.loop-unit.unit-index c.loop-unit.at none g c.loop-unit-test.true in
    let few = few_of sources.ranges rs sources.units us e f c.requires.few in
    omega arith

pub loop-unit-preserved : goal.loop-unit-preserved
unfolding none
loop-unit-preserved c =
    let sources = c.args.sources.now in
    let rs = c.ranges-all.result.now in
    let us = c.units-unit-items.result.now in
    let e = c.ranges-all.ensures in
    let f = c.units-unit-items.ensures in
    let g = numbered sources.ranges rs sources.units us c.loop-unit.roots.items c.loop-unit.numbers.items c.loop-unit.unit-index c.loop-unit.at (sym e) (sym f) c.loop-unit.invariant in
    numbered rs sources.ranges us sources.units c.push.new.self.items c.put_numbers.new.numbers.items (c.loop-unit.unit-index + 1) c.in_ok-at.at e f
    (unit_on rs us c.loop-unit.roots.items c.push.new.self.items c.loop-unit.numbers.items c.put_numbers.new.numbers.items c.loop-unit.unit-index c.loop-unit.at c.in_ok-at.at none
    g c.loop-unit-test.true c.in_ok-push.ensures.items c.in_ok-at.ensures.numbers c.in_ok-at.ensures.behind)

pub returns-clause-roots : goal.returns-clause-roots
returns-clause-roots c =
    let sources = c.args.sources.now in
    let f = c.units-unit-items.ensures in
    roots_end sources.ranges sources.units c.loop-unit.roots.items c.loop-unit.numbers.items c.loop-unit.unit-index c.loop-unit.at c.loop-unit.invariant
    (subst (λ (w : List NewUnit). length w ≤ c.loop-unit.unit-index) f (omega arith))

pub returns-clause-ranges : goal.returns-clause-ranges
returns-clause-ranges c =
    let sources = c.args.sources.now in
    let f = c.units-unit-items.ensures in
    numbers_end sources.ranges sources.units c.loop-unit.roots.items c.loop-unit.numbers.items c.loop-unit.unit-index c.loop-unit.at c.loop-unit.invariant
    (subst (λ (w : List NewUnit). length w ≤ c.loop-unit.unit-index) f (omega arith))
