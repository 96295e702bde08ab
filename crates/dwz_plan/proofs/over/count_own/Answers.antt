use Rattle.std.proofs.Common.{◌≡◌, ◌∙◌, length, arith, false}
use Rattle.std.proofs.lemmas.Bool.{le-leb}
use Rattle.dwz_groups.specs.declared.tops.TopRow.{TopRow}
use Rattle.dwz_plan.proofs.OverLemmas.{count_is, count_next}
use Rattle.dwz_plan.proofs.over.count_own.Goals as goal

none : TopRow
none = record { place = record { file = 0; offset = 0 }; unit = 0; weight = 0; movable = false; pinned = false }

pub loop-top-preserved : goal.loop-top-preserved
unfolding none
loop-top-preserved c = count_next c.args.units c.args.rows.now c.loop-top.top none (omega arith) c.if-row-units.false c.loop-top.invariant

pub returns-then-row-units : goal.returns-then-row-units
unfolding none
returns-then-row-units c = count_is c.args.units c.args.rows.now c.loop-top.top none (omega arith) (λ k l. c.loop-top.invariant k none l) (λ l. le-leb c.args.units _ c.if-row-units.true)

pub returns : goal.returns
unfolding none
returns c =
    let all : length c.args.rows.now ≡ c.loop-top.top = omega arith in
    all ∙ count_is c.args.units c.args.rows.now c.loop-top.top none (omega arith) (λ k l. c.loop-top.invariant k none l) (λ l. absurd (omega arith))
