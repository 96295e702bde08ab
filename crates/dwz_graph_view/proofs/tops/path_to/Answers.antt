use Rattle.std.proofs.Common.{ℕ, List, ◌++◌, reverse, ap, ◌∙◌}
use Rattle.dwz_graph.specs.Names.{path_in}
use Rattle.dwz_graph_view.proofs.tops.path_to.Goals as goal

pub returns : goal.returns
returns c = λ names s index named.
    c.new.ensures ∙ c.reverse.ensures.items
    ∙ ap reverse (c.in_ok-put_path.ensures names s index named ∙ ap (λ (w : List ℕ). w ++ path_in s) c.new-path.ensures.items)
