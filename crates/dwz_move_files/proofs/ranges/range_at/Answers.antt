use Rattle.std.proofs.Common.{ℕ, sym, subst, ◌∙◌}
use Rattle.std.proofs.lemmas.Bool.{false≢true}
use Rattle.dwz_move.specs.Bound.{HasTops}
use Rattle.dwz_move_files.proofs.ranges.range_at.Goals as goal

pub returns-then-continues_unit : goal.returns-then-continues_unit
returns-then-continues_unit c = λ all x h got before. (
    let e = (c.continues_unit.ensures x got).0 c.if-continues_unit.true in
    subst (λ (u : ℕ). HasTops all u c.args.own) e.4 (before e.0 e.1 e.2 e.3))

pub returns : goal.returns
returns c = λ all x h got before. c.range_from.ensures all x h got (λ k. false≢true (sym c.if-continues_unit.false ∙ (c.continues_unit.ensures x got).1 k))
