use Rattle.std.proofs.Common.{◌≡◌, ℕ, ◌+◌, ◌∷◌, ◌++◌, [], List, map, sym, subst, ◌∙◌}
use Rattle.dwz_def_taken.specs.Beside.{compile_doc}
use Rattle.dwz_graph.specs.AllNames.{AreTopEntries}
use Rattle.dwz_layout_input.specs.Over.{tops_behind}
use Rattle.dwz_layout_input.proofs.FitsOver.{entries_behind}
use Rattle.dwz_layout_input.proofs.standing.tops_over.Goals as goal

pub returns-clause-are : goal.returns-clause-are
returns-clause-are c = λ docs doc are whole behind. (
    let indexes = c.args.indexes.now in
    let x = c.args.common.now in
    let tops : c.add_tops.new.tops.items ≡ tops_behind indexes x =
    c.in_ok-add_tops.ensures ∙ (λ i. c.in_ok-tops.ensures i ++ map (λ t. c.count_entries-start.ensures i + t.entry) (c.tops-2.ensures i)) in
    subst (λ (w : List ℕ). AreTopEntries (docs ++ compile_doc doc ∷ []) w) (sym tops) (entries_behind docs doc x behind indexes are whole))
