use Rattle.std.proofs.Common.{List, ℕ, subst, sym}
use Rattle.dwz_layout.specs.Tables.{HasTables}
use Rattle.dwz_layout.proofs.MapLemmas.{found_none}
use Rattle.dwz_layout.proofs.TableLemmas.{no_tables}
use Rattle.dwz_layout.proofs.tables.Tables.new.Goals as goal

pub invariant_of-result : goal.invariant_of-result
invariant_of-result c =
    let offsets = c.new-3.result in
    subst (λ (section : List ℕ). HasTables section c.new-2.result.items offsets) (sym c.new.ensures.items)
    (subst (λ (lengths : List ℕ). HasTables _ lengths offsets) (sym c.new-2.ensures.items) (no_tables offsets (found_none offsets c.new-3.ensures.empty)))
