use Rattle.std.proofs.Common.{◌++◌, List, ℕ, ap, ◌∙◌}
use Rattle.dwz_check_index.specs.Index.{path_in}
use Rattle.dwz_check_labels.proofs.NameLemmas.{path_told}
use Rattle.dwz_check_labels.proofs.paths.put_path.Goals as goal

pub returns : goal.returns
returns c = λ names entries name shows found.
    path_told (path_in name.1) c.put_path.new.path.items c.as_slice.result.now c.deref.result.now c.args.out.now.items c.push.new.self.items c.put_number.new.out.items c.put_steps.new.out.items
    (c.in_ok-put_path.ensures names entries name shows found ∙ ap (λ (w : List ℕ). w ++ path_in name.1) c.clear.ensures.items)
    c.as_slice.ensures.value c.deref.ensures.value c.in_ok-push.ensures.items c.in_ok-put_number.ensures c.in_ok-put_steps.ensures
