use Rattle.std.proofs.Common.{◌++◌, List, ℕ, ap, ◌∙◌}
use Rattle.dwz_graph.specs.Names.{path_in}
use Rattle.dwz_label_entries.proofs.TargetLemmas.{way_told}
use Rattle.dwz_label_entries.proofs.targets.put_way.Goals as goal

pub returns : goal.returns
returns c = λ names s index found.
    way_told s c.put_path.new.path.items c.as_slice.result.now c.deref.result.now c.args.out.now.items c.push.new.self.items c.put_number.new.out.items c.put_steps.new.out.items
    (c.in_ok-put_path.ensures names s index found ∙ ap (λ (w : List ℕ). w ++ path_in s) c.clear.ensures.items)
    c.as_slice.ensures.value c.deref.ensures.value c.in_ok-push.ensures.items c.in_ok-put_number.ensures c.in_ok-put_steps.ensures
