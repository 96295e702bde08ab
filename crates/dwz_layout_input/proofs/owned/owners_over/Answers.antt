use Rattle.std.proofs.Common.{◌++◌, ℕ, List, map, sym, ap, subst, ◌∙◌}
use Rattle.dwz_unit.specs.Rows.{EntryRow}
use Rattle.dwz_law_layout.specs.Beside.{Over}
use Rattle.dwz_law_layout.specs.Listed.{AreAllOwners}
use Rattle.dwz_layout_input.proofs.owned.owners_over.Goals as goal

pub returns : goal.returns
returns c = λ s f made same. (
    let owners = c.in_ok-owners.owners.items in
    subst (λ (w : List ℕ). AreAllOwners f c.args.files.now c.args.indexes.now w)
    (sym (c.in_ok-put_own_units.ensures ∙ ap (λ (rows : List EntryRow). owners ++ map (λ (row : EntryRow). row.unit) rows) same))
    (c.in_ok-owners.ensures (Over s) f made))
