use Rattle.std.proofs.Common.{◌++◌, ◌-◌, ◌≡◌, ℕ, ap, arith, ◌∙◌}
use Rattle.dwz_def_reading.specs.Documents.{node_map}
use Rattle.dwz_def_reading.specs.Trees.{size}
use Rattle.dwz_label.specs.Labels.{number}
use Rattle.dwz_def_check.specs.CrossLabels.{lone_label, lone_targets}
use Rattle.dwz_check_labels.proofs.LoneLemmas.{unit_at}
use Rattle.dwz_check_labels.proofs.ToldLemmas.{tells_behind}
use Rattle.dwz_check_labels.proofs.entries.put_entry.Goals as goal

pub returns : goal.returns
returns c = λ said name d k found. (
    let x = c.args.source.now in
    let end = (unit_at x said name k c.args.i d c.entry-end.result found c.entry-end.ensures.entry).end in
    let below : c.entry-end.result.end - c.args.i - 1 ≡ size d.1 = omega (arith, end) in
    tells_behind (number (size d.1)) (lone_label (node_map name d.0)) (lone_targets (node_map name d.0)) c.args.out.now.items c.put_number.new.out.items c.put_lone.new.out.items
    c.args.tops.now.items c.put_lone.new.tops.items
    (c.in_ok-put_number.ensures ∙ ap (λ (n : ℕ). c.args.out.now.items ++ number n) (c.saturating_sub-2.ensures ∙ ap (λ (n : ℕ). n - 1) c.saturating_sub.ensures ∙ below))
    (c.in_ok-put_lone.ensures said name d k found))
