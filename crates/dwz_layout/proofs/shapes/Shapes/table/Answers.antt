use Rattle.std.proofs.Common.{◌++◌, ◌∙◌, List, ℕ, ap}
use Rattle.dwz_def_reading.specs.Abbrevs.{by_code, table_bytes}
use Rattle.dwz_layout.specs.Shapes.{table_for}
use Rattle.dwz_layout.proofs.CodedLemmas.{table_is}
use Rattle.dwz_layout.proofs.shapes.Shapes.table.Goals as goal

pub returns : goal.returns
returns c =
    c.in_ok-write.ensures.ok
    ∙ ap (λ (w : List ℕ). w ++ table_bytes (by_code c.self.inside.table)) c.in_ok-table.ensures.items
    ∙ table_is c.self.inside.table c.self.invariant.0
    ∙ ap table_for c.self.view_is
