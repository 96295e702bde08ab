use Rattle.std.proofs.Common.{ℕ, ◌+◌, List, ◌++◌, map, drop, ap, ◌∙◌, arith}
use Rattle.std.proofs.lemmas.List.{length-map}
use Rattle.dwz_check_index.specs.declared.index.UnitStart.{UnitStart}
use Rattle.dwz_layout_input.specs.Behind.{units_from}
use Rattle.dwz_layout_input.proofs.BesideLists.{units_last, units_next}
use Rattle.dwz_layout_input.proofs.behind.units_of_tops.Goals as goal

pub loop-number-preserved : goal.loop-number-preserved
loop-number-preserved c =
    let starts : List ℕ = map (λ (s : UnitStart). s.top) c.args.starts.now in
    let long = length-map c.args.starts.now (λ (s : UnitStart). s.top) in
    let here = c.loop-number-test.true in
    let k : ℕ = c.loop-number.number in
    ap (λ (w : List ℕ). w ++ units_from c.args.end (c.args.unit + (k + 1)) (drop (k + 1) starts)) c.in_ok-put_unit.ensures
    ∙ units_next c.args.end c.args.unit k starts c.loop-number.units.items c.start_of-from.result c.start_of-to.result (omega (arith, long, here)) c.start_of-from.ensures c.start_of-to.ensures
    ∙ c.loop-number.invariant

pub returns : goal.returns
returns c =
    let starts : List ℕ = map (λ (s : UnitStart). s.top) c.args.starts.now in
    let long = length-map c.args.starts.now (λ (s : UnitStart). s.top) in
    let end = c.loop-number-test.false in
    units_last c.args.end c.args.unit c.loop-number.number starts c.loop-number.units.items (units_from c.args.end c.args.unit starts) (omega (arith, long, end)) c.loop-number.invariant
