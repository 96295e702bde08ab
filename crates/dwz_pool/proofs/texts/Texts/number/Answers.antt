use Rattle.std.proofs.Common.{◌∙◌, List, ℕ, Some, ap, sym}
use Rattle.dwz_def_reading.specs.TextRows.{text_number}
use Rattle.dwz_def_reading.proofs.TextRowLemmas.{new_number}
use Rattle.dwz_pool.proofs.texts.Texts.number.Goals as goal

pub returns-clause-number : goal.returns-clause-number
returns-clause-number c =
    ap (λ (texts : List (List ℕ)). text_number texts c.args.text.now) c.in_ok-add.ensures.ok
    ∙ new_number c.args.self.now c.args.text.now (sym c.in_default.ensures)
    ∙ ap (λ (n : ℕ). Some n) (sym c.len-number.ensures.count)
