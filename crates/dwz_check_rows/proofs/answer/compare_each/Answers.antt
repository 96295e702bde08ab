use Rattle.std.proofs.Common.{sym, ◌∙◌, arith}
use Rattle.std.proofs.lemmas.Bool.{false≢true}
use Rattle.dwz_check_rows.specs.Rows.{UnitsSame}
use Rattle.dwz_check_rows.proofs.UnitLemmas.{each_two_at, first_apart_at}
use Rattle.dwz_check_rows.proofs.answer.compare_each.Goals as goal

pub returns-then-not-same : goal.returns-then-not-same
returns-then-not-same c =
    let below = c.loop-n-test.true in
    let differs = c.if-not-same.true in (
      c.requires.as_many,
      first_apart_at (UnitsSame c.args.classes.now c.args.columns.now) c.args.old.now c.args.new.now c.loop-n.n c.requires.as_many below c.loop-n.invariant
          (λ h. false≢true (sym differs ∙ c.in_ok-same.ensures.1 h)),
    )

pub returns : goal.returns
returns c =
    let end = c.loop-n-test.false in
    each_two_at (UnitsSame c.args.classes.now c.args.columns.now) c.args.old.now c.args.new.now c.requires.as_many (λ k l. c.loop-n.invariant k (omega (arith, l, end)))
