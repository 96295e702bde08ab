use Rattle.std.proofs.Common.{ℕ, List, drop, subst}
use Rattle.dwz_graph.specs.Rows.{AreTargets}
use Rattle.dwz_label_entries.specs.declared.named.Named.{Named}
use Rattle.dwz_label_entries.specs.Plain.{NamesSo}
use Rattle.dwz_graph.specs.Resolved.{scope_in}
use Rattle.dwz_unit.specs.Rows.{units_of}
use Rattle.dwz_label_entries.proofs.RefLemmas.{counted_operands}
use Rattle.dwz_label_entries.proofs.refs.put_refs.Goals as goal

pub returns-in-Next : goal.returns-in-Next
returns-in-Next c = λ u name v at k names t. (
    let raw = units_of c.args.units.now in
    let s = scope_in c.args.sections.now raw u in
    let n = subst (λ (w : Named). NamesSo s v c.args.operands.now w) c.in-Next.is names in
    c.put_next.ensures raw name v.refs k (subst (λ (w : List ℕ). AreTargets raw (drop c.args.next c.args.refs.now) w) n.0 t) n.1)

pub returns-in_ok-put_operands-in-Kept : goal.returns-in_ok-put_operands-in-Kept
returns-in_ok-put_operands-in-Kept c = λ u name v at k names t. (
    let raw = units_of c.args.units.now in
    let s = scope_in c.args.sections.now raw u in
    let n = subst (λ (w : Named). NamesSo s v c.args.operands.now w) c.in-Kept.is names in
    counted_operands s name v.refs c.args.operands.now c.args.out.now.items c.put_number.new.out.items c.put_operands.new.out.items n.1 c.in_ok-put_number-in-Kept.ensures
    (c.in_ok-put_operands-in-Kept.ensures u name at k n.2))
