use Rattle.std.proofs.Common.{◌-◌, length, refl, sym, ◌∙◌}
use Rattle.std.proofs.lemmas.Result.{err_from_is_err_and}
use Rattle.dwz_def_reading.specs.Input.{Input}
use Rattle.dwz_forms.specs.RawValues.{raw_view}
use Rattle.dwz_def_reading.specs.Meanings.{bytes_of}
use Rattle.dwz_unit.specs.Rows.{units_of}
use Rattle.dwz_graph_resolve.specs.declared.state.State.{State}
use Rattle.dwz_graph_resolve.specs.Resolved.{StateIn}
use Rattle.dwz_graph_resolve.specs.Surroundings.{common_view, scope_within}
use Rattle.dwz_graph_resolve.proofs.OperandSteps.{expression_fails, expression_read, has_memory, operands_fail, reads_row}
use Rattle.dwz_graph_resolve.proofs.StateLemmas.{with_expression}
use Rattle.dwz_graph_resolve.proofs.expressions.add_any.Goals as goal

pub returns-in_err-add_operands-clause-goes : goal.returns-in_err-add_operands-clause-goes
returns-in_err-add_operands-clause-goes c = λ u before here k. (
    let p = err_from_is_err_and c.from_residual.result c.from_residual.ensures.1 in
    let raw = units_of c.args.units.now in
    let co = common_view c.args.around.now.common in
    let s = scope_within c.args.around.now raw u in
    let K = StateIn c.args.around.now raw u c.args.here.now in
    let own = bytes_of (raw_view c.args.raw.now) in
    let i : Input = record { at = c.args.end - length own; rest = own } in
    let reads = reads_row c.saturating_sub-at.result c.args.end c.bytes_of-bytes.result.now own c.clear.new.self.items c.read_into-read.new.operands.items c.deref.result.now c.read_into-read.result
    c.bytes_of-bytes.ensures c.saturating_sub-at.ensures c.clear.ensures.items c.deref.ensures.value c.read_into-read.ensures.found in
    rw (p.1, p.2) (operands_fail co raw K before s refl i c.deref.result.now c.in_err-add_operands.field-0.0 c.read_into-read.result c.args.state.now.refs.items c.add_operands.new.refs.items
    (has_memory c.read_into-read.result (sym c.is_no_memory.ensures ∙ c.if-is_no_memory.false)) reads (c.in_err-add_operands.ensures u here)))

pub returns-in-Ok-clause-goes : goal.returns-in-Ok-clause-goes
returns-in-Ok-clause-goes c = λ u before here k. (
    let raw = units_of c.args.units.now in
    let co = common_view c.args.around.now.common in
    let s = scope_within c.args.around.now raw u in
    let K = StateIn c.args.around.now raw u c.args.here.now in
    let own = bytes_of (raw_view c.args.raw.now) in
    let i : Input = record { at = c.args.end - length own; rest = own } in
    let reads = reads_row c.saturating_sub-at.result c.args.end c.bytes_of-bytes.result.now own c.clear.new.self.items c.read_into-read.new.operands.items c.deref.result.now c.read_into-read.result
    c.bytes_of-bytes.ensures c.saturating_sub-at.ensures c.clear.ensures.items c.deref.ensures.value c.read_into-read.ensures.found in
    let new : State = record c.args.state.now { refs = c.add_operands.new.refs; operands = c.read_into-read.new.operands } in
    expression_read co raw K before s refl i c.deref.result.now c.args.state.now new c.read_into-read.result c.in-Ok.field-0 c.in-Ok.is reads (c.in_ok-add_operands.ensures u here)
    (with_expression raw s c.args.here.now.number before c.args.state.now c.add_operands.new.refs c.read_into-read.new.operands k))

pub returns-in-Err-clause-goes : goal.returns-in-Err-clause-goes
returns-in-Err-clause-goes c = λ u before here k. (
    let raw = units_of c.args.units.now in
    let co = common_view c.args.around.now.common in
    let s = scope_within c.args.around.now raw u in
    let K = StateIn c.args.around.now raw u c.args.here.now in
    let own = bytes_of (raw_view c.args.raw.now) in
    let i : Input = record { at = c.args.end - length own; rest = own } in
    let reads = reads_row c.saturating_sub-at.result c.args.end c.bytes_of-bytes.result.now own c.clear.new.self.items c.read_into-read.new.operands.items c.deref.result.now c.read_into-read.result
    c.bytes_of-bytes.ensures c.saturating_sub-at.ensures c.clear.ensures.items c.deref.ensures.value c.read_into-read.ensures.found in
    expression_fails co raw K before s refl i c.deref.result.now c.read_into-read.result c.in-Err.error c.args.state.now.refs.items c.add_operands.new.refs.items c.in-Err.is reads
    (c.in_ok-add_operands.ensures u here))
