use Rattle.std.proofs.Common.{◌++◌, List, ℕ, ap, sym, ◌∙◌}
use Rattle.dwz_label_entries.proofs.TargetLemmas.{no_path, some_path}
use Rattle.dwz_label_entries.proofs.targets.put_target.Goals as goal

pub returns-in_ok-push-in-None : goal.returns-in_ok-push-in-None
returns-in_ok-push-in-None c = λ names s index found.
    c.in_ok-push-in-None.ensures.items ∙ ap (λ (w : List ℕ). c.args.out.now.items ++ w) (sym (no_path s (sym (c.in-None.ensures names s index found))))

pub returns-in-Some : goal.returns-in-Some
returns-in-Some c = λ names s index found.
    rw (some_path s c.in-Some.field-0 (sym (c.in-Some.ensures names s index found))) (c.put_way.ensures names s index found)
