use Rattle.std.proofs.Common.{◌++◌, ℕ, List, map, ap, ◌∙◌}
use Rattle.std.specs.Prelude.{reverse}
use Rattle.dwz_imports.specs.Stored.{edge}
use Rattle.dwz_check_index.specs.Index.{path_in}
use Rattle.dwz_check_columns.proofs.paths.put_way.Goals as goal

pub returns : goal.returns
returns c = λ names entries name shows found.
    c.in_ok-put_steps.ensures
    ∙ ap (λ (w : List ℕ). c.args.edges.now.items ++ map (edge c.args.key) (reverse w)) (c.in_ok-put_path.ensures names entries name shows found ∙ ap (λ (w : List ℕ). w ++ path_in name.1) c.clear.ensures.items)
