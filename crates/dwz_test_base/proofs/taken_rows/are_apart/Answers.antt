use Rattle.std.proofs.Common.{sym, ◌∙◌, arith}
use Rattle.dwz_groups.proofs.MarkLemmas.{inside_at}
use Rattle.dwz_test_base.proofs.taken_rows.are_apart.Goals as goal

pub returns : goal.returns
returns c t u v n i j =
    let low = inside_at c.args.rows.now.unit_tops u n i in
    let other = inside_at c.args.rows.now.unit_tops v n j in
    sym (c.loop-unit.invariant u n (omega arith) i) ∙ c.loop-unit.invariant v n (omega arith) j
