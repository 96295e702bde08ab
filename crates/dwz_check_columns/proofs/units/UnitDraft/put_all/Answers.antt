use Rattle.std.proofs.Common.{◌++◌, ℕ, ap, ◌∙◌}
use Rattle.dwz_imports.specs.Stored.{edges_of}
use Rattle.dwz_check_columns.specs.Drawn.{imports_among}
use Rattle.dwz_check_columns.proofs.units.UnitDraft.put_all.Goals as goal

pub returns-clause-imports : goal.returns-clause-imports
returns-clause-imports c =
    c.in_ok-put_imports.ensures
    ∙ ap (λ (n : ℕ). c.args.self.now.imports.items ++ edges_of c.args.first (imports_among n c.args.first c.args.common c.args.lists.now)) c.len.ensures
