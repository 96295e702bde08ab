use Rattle.std.proofs.Common.{◌++◌, ℕ, List, ap, length, subst, sym, ◌∙◌}
use Rattle.dwz_label_entries.specs.declared.named.Named.{Named}
use Rattle.dwz_label_entries.specs.Plain.{NamesSo}
use Rattle.dwz_def_reading.specs.Meanings.{targets}
use Rattle.dwz_check_labels.specs.Files.{scope_at}
use Rattle.dwz_check_labels.proofs.RefLemmas.{counted_told, targets_many}
use Rattle.dwz_check_labels.proofs.refs.put_refs.Goals as goal

pub returns-in-Next : goal.returns-in-Next
returns-in-Next c = λ said name u v others k at names refs. (
    let x = c.args.source.now in
    let n = subst (λ (w : Named). NamesSo (scope_at x u) v c.args.operands.now w) c.in-Next.is names in
    c.put_next.ensures said name v.refs others k (refs ∙ ap (λ (w : List ℕ). w ++ others) n.0) n.1)

pub returns-in_ok-put_operand_names-in-Kept : goal.returns-in_ok-put_operand_names-in-Kept
returns-in_ok-put_operand_names-in-Kept c = λ said name u v others k at names refs. (
    let x = c.args.source.now in
    let s = scope_at x u in
    let n = subst (λ (w : Named). NamesSo s v c.args.operands.now w) c.in-Kept.is names in
    counted_told name (targets s c.args.operands.now) v.refs _ c.args.out.now.items c.put_number.new.out.items c.put_operand_names.new.out.items c.args.tops.now.items
    c.put_operand_names.new.tops.items (sym n.1) (ap (λ (w : List ℕ). length w) n.1 ∙ targets_many s c.args.operands.now) c.in_ok-put_number-in-Kept.ensures
    (c.in_ok-put_operand_names-in-Kept.ensures said name u k at n.2))
