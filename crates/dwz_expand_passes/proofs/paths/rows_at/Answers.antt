use Rattle.std.proofs.Common.{sym, ◌∙◌}
use Rattle.dwz_expand_passes.proofs.PathLemmas.{no_table, none_kept}
use Rattle.dwz_expand_passes.proofs.paths.rows_at.Goals as goal

pub returns-in-Err-Refused : goal.returns-in-Err-Refused
returns-in-Err-Refused c = λ paths is path. (
    let found = rw c.in-Err-Refused.field-0-is at c.in-Err-Refused.ensures.table in
    none_kept c.new.result c.new.ensures.empty path ∙ sym (no_table _ c.in-Err-Refused._fault paths found is path))
