use Rattle.std.proofs.Common.{◌∙◌, List, ℕ, Some, ap, sym}
use Rattle.std.specs.Option.{is_some}
use Rattle.dwz_pool.proofs.KeyLemmas.{updates_at}
use Rattle.dwz_expand_passes.specs.Paths.{kept_row}
use Rattle.dwz_expand_passes.proofs.PathLemmas.{copied_some, row_added, row_kept}
use Rattle.dwz_expand_passes.proofs.paths.put_row.Goals as goal

pub returns-then-is_some : goal.returns-then-is_some
returns-then-is_some c = λ paths many are. row_kept paths c.args.path.items c.args.rows.now are
    (ap (λ (t : List ℕ). is_some (kept_row c.args.rows.now t)) (sym c.as_slice.ensures.value) ∙ ap is_some (sym c.get.ensures.value) ∙ copied_some c.get.result ∙ sym c.is_some.ensures
    ∙ c.if-is_some.true)

pub returns : goal.returns
returns c = λ paths many are. row_added paths c.args.path.items c.args.row c.args.rows.now c.insert.new.self many are
    (ap (λ (t : List ℕ). is_some (kept_row c.args.rows.now t)) (sym c.as_slice.ensures.value) ∙ ap is_some (sym c.get.ensures.value) ∙ copied_some c.get.result ∙ sym c.is_some.ensures
    ∙ c.if-is_some.false)
    (updates_at c.args.path.items c.args.rows.now c.insert.new.self (Some c.args.row) c.in_ok-insert.ensures.updates)
