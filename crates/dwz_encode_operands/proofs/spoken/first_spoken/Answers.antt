use Rattle.std.proofs.Common.{◌<◌, length, arith, refl}
use Rattle.dwz_def_reading.proofs.ListFacts.{got_there}
use Rattle.dwz_def_reading.specs.Meanings.{alone}
use Rattle.dwz_encode_operands.proofs.UnitLemmas.{place_of, units_all, units_end, units_more}
use Rattle.dwz_unit.specs.Rows.{units_of}
use Rattle.dwz_encode_operands.proofs.spoken.first_spoken.Goals as goal

pub loop-n-init : goal.loop-n-init
loop-n-init c = λ sources said after means targets places. (let raw = units_of c.args.units.now in units_all (alone sources raw) after raw said c.args.targets.now means targets)

pub loop-n-preserved : goal.loop-n-preserved
loop-n-preserved c = λ sources said after means targets places. (
    let raw = units_of c.args.units.now in
    let around = alone sources raw in
    let n = c.loop-n.n in
    let lt : n < length raw = (let a = c.loop-n-test.true in let b = c.len-n-end.ensures in omega (arith, a, b)) in
    let u = got_there raw n lt in
    units_more around after raw n u.0 c.loop-n.first c.note_unit.new.first c.loop-n.left.now c.in_ok-left.left.now u.1 (c.loop-n.invariant sources said after means targets places)
    (λ v more m t. c.in_ok-left.ensures around u.0 v after more (λ p. refl) u.1 m (place_of (λ w. after w.at) raw n u.0 c.args.places.now places u.1) t))

pub returns : goal.returns
returns c = λ sources said after means targets places. (
    let raw = units_of c.args.units.now in
    units_end (alone sources raw) after raw c.loop-n.n c.loop-n.first c.loop-n.left.now (let a = c.loop-n-test.false in let b = c.len-n-end.ensures in omega (arith, a, b))
    (c.loop-n.invariant sources said after means targets places))
