use Rattle.std.proofs.Common.{◌≡◌, ◌<◌, ◌^◌, List, Result, length, refl, sym, ap, subst, ◌∙◌}
use Rattle.std.proofs.lemmas.Result.{err_from_is_err_and}
use Rattle.dwz_def_reading.specs.declared.exprs.Operand.{Operand}
use Rattle.dwz_model.specs.declared.fault.ReadErr.{ReadErr}
use Rattle.dwz_unit.specs.Rows.{units_of}
use Rattle.dwz_graph_resolve.specs.declared.list_parts.Stop.{Stop}
use Rattle.dwz_graph_resolve.specs.declared.lists.ListRow.{ListRow}
use Rattle.dwz_graph_resolve.specs.declared.operands.ListOperand.{ListOperand}
use Rattle.dwz_graph_resolve.specs.declared.state.State.{State}
use Rattle.dwz_graph_resolve.specs.ListParts.{ReadsUp}
use Rattle.dwz_graph_resolve.specs.ListSteps.{AreOperands}
use Rattle.dwz_graph_resolve.specs.Surroundings.{scope_within}
use Rattle.dwz_graph_resolve.proofs.ListStates.{state_more}
use Rattle.dwz_graph_resolve.proofs.ListSteps.{list_unnamed, ups_row}
use Rattle.dwz_graph_resolve.proofs.OperandSteps.{has_memory}
use Rattle.dwz_graph_resolve.proofs.lists.walk.Goals as goal

pub returns-in_err-name_operands-clause-goes : goal.returns-in_err-name_operands-clause-goes
returns-in_err-name_operands-clause-goes c = λ u before here k. (
    let p = err_from_is_err_and c.from_residual-in_err-name_operands.result c.from_residual-in_err-name_operands.ensures.1 in
    let raw = units_of c.args.units.now in
    let s = scope_within c.args.around.now raw u in
    let n = c.args.here.now.number in
    let rows = c.args.state.now.lists.rows.items in
    let up = ups_row c.args.around.now.sections.lists.now n c.args.place rows c.deref.result.now c.fit.new.marks.items c.deref-2.result.now c.read_up-read.new.operands.items c.deref-3.result.now
    c.read_up-read.new.places.items c.read_up-read.result c.deref.ensures.value c.deref-2.ensures.value c.deref-3.ensures.value (c.read_up-read.ensures c.clear.ensures.items c.clear-2.ensures.items) in
    rw (p.1, p.2) (list_unnamed raw c.args.state.now.file s c.args.place c.deref-3.result.now rows c.fit.new.marks.items n c.read_up-read.new.places.items c.in_err-name_operands.field-0.0
    c.read_up-read.result c.args.state.now.lists.operands.items c.name_operands.new.out.items (has_memory c.read_up-read.result (sym c.is_no_memory.ensures ∙ c.if-is_no_memory.false)) up
    (c.in_err-name_operands.ensures u here)))

pub returns-clause-goes : goal.returns-clause-goes
returns-clause-goes c = λ u before here k. (
    let raw = units_of c.args.units.now in
    let s = scope_within c.args.around.now raw u in
    let n = c.args.here.now.number in
    let file = c.args.state.now.file in
    let old = c.args.state.now.lists in
    let ops = c.read_up-read.new.operands.items in
    let places = c.read_up-read.new.places.items in
    let up = ups_row c.args.around.now.sections.lists.now n c.args.place old.rows.items c.deref.result.now c.fit.new.marks.items c.deref-2.result.now ops ops places c.read_up-read.result
    c.deref.ensures.value c.deref-2.ensures.value refl (c.read_up-read.ensures c.clear.ensures.items c.clear-2.ensures.items) in
    let read = subst (λ (r : Result Stop ReadErr). ReadsUp c.args.around.now.sections.lists.now old.rows.items c.fit.new.marks.items n c.args.place ops places r) c.in_ok-stop.was up in
    let short : length c.args.around.now.sections.lists.now < 2 ^ 32 = c.args.around.now.sections.short in
    let all : c.keep.new.lists.operands.items ≡ c.name_operands.new.out.items = (λ i. (c.in_ok-keep.ensures.operands i).items) in
    let named = subst (λ (os : List Operand). AreOperands raw file s os old.operands.items c.name_operands.new.out.items) c.deref-3.ensures.value (c.in_ok-name_operands.ensures u here) in
    let kept = subst (λ (os : List ListOperand). AreOperands raw file s ops old.operands.items os) (sym all) named in
    let w : ListRow = record {
      from = c.args.place;
      end = c.in_ok-stop.stop.end;
      first = length c.as_slice-first.result.now;
      last = length c.as_slice-last.result.now;
      unit = n;
      plain = c.is_plain.result;
    } in
    let new : State = record c.args.state.now { lists = c.keep.new.lists; operands = c.read_up-read.new.operands } in
    state_more raw s n before c.args.place ops c.in_ok-stop.stop w places c.fit.new.marks.items c.args.state.now new short read c.in_ok-fit.ensures kept refl refl
    (ap (λ (x : List ListOperand). length x) c.as_slice-first.ensures.value)
    (ap (λ (x : List ListOperand). length x) c.as_slice-last.ensures.value ∙ ap (λ (x : List ListOperand). length x) (sym all))
    refl
    (λ yes. (let h = c.is_plain.ensures yes in (h.0, sym c.deref-4.ensures.value ∙ h.1)))
    c.in_ok-keep.ensures.rows (λ i. (c.in_ok-keep.ensures.slots i).items) c.in_ok-keep.ensures.marks refl refl refl k)
