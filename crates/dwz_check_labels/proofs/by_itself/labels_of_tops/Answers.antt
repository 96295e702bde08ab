use Rattle.std.proofs.Common.{ℕ, List, length, ap, subst, sym, ◌∙◌}
use Rattle.dwz_groups.specs.declared.groups.Edge.{Edge}
use Rattle.dwz_groups.proofs.MarkLemmas.{grouped_length}
use Rattle.dwz_check_labels.specs.Rows.{AreKeysBelow}
use Rattle.dwz_check_labels.proofs.TopsAlone.{tops_said}
use Rattle.dwz_check_labels.proofs.FileLemmas.{keys_all}
use Rattle.dwz_check_labels.proofs.by_itself.labels_of_tops.Goals as goal

pub group-requires : goal.group-requires
group-requires c =
    keys_all c.len.result c.as_slice.result.now (subst (λ (n : ℕ). AreKeysBelow n c.as_slice.result.now) (sym c.len.ensures)
    (subst (λ (w : List Edge). AreKeysBelow (length c.put_tops.new.labels) w) (sym c.as_slice.ensures.value) c.in_ok-put_tops.ensures.keys))

pub returns-clause-many : goal.returns-clause-many
returns-clause-many c =
    ap (λ (w : List (List ℕ)). length w) c.in_ok-targets.ensures ∙ grouped_length c.len.result c.as_slice.result.now ∙ c.len.ensures

pub returns-clause-labels : goal.returns-clause-labels
returns-clause-labels c = λ n k.
    tops_said n c.new-labels.result c.put_tops.new.labels c.new-edges.result.items c.put_tops.new.edges.items c.new-labels.ensures c.new-edges.ensures.items
    (c.in_ok-put_tops.ensures.adds n.said n.name k) c.len.result c.as_slice.result.now c.in_ok-targets.targets c.len.ensures c.as_slice.ensures.value c.in_ok-targets.ensures
