use Rattle.std.proofs.Common.{sym, subst}
use Rattle.dwz_def_reading.specs.Faults.{Fails}
use Rattle.dwz_def_reading.specs.Shared.{none_shared}
use Rattle.dwz_model.specs.declared.fault.ReadErr.{ReadErr}
use Rattle.dwz_graph_resolve.proofs.SharedLaw.{pass_answer}
use Rattle.dwz_graph_resolve.proofs.shared.unshared_operands.Goals as goal

pub returns-in-None-clause-ok : goal.returns-in-None-clause-ok
returns-in-None-clause-ok c = λ raw file named shows distinct.
    pass_answer raw file named c.args.lists.now shows distinct c.deref.result.now c.in_ok-sorted.sorted.items c.deref-2.result.now c.new-kept.result.items c.apart.new.kept.items c.deref-3.result.now
    c.in_ok-clash.clash _ c.deref.ensures.value c.in_ok-sorted.ensures.moved c.in_ok-sorted.ensures.rise c.deref-2.ensures.value c.new-kept.ensures.items c.deref-3.ensures.value
    c.in_ok-clash.ensures c.in-None.ensures

pub returns-clause-err : goal.returns-clause-err
returns-clause-err c = λ raw file named shows distinct. (
    let bad = pass_answer raw file named c.args.lists.now shows distinct c.deref.result.now c.in_ok-sorted.sorted.items c.deref-2.result.now c.new-kept.result.items c.apart.new.kept.items
    c.deref-3.result.now
    c.in_ok-clash.clash _ c.deref.ensures.value c.in_ok-sorted.ensures.moved c.in_ok-sorted.ensures.rise c.deref-2.ensures.value c.new-kept.ensures.items c.deref-3.ensures.value
    c.in_ok-clash.ensures c.in-Some.ensures in
    subst (λ (e : ReadErr). Fails e (none_shared named)) (sym c.shared_at.ensures) bad)
