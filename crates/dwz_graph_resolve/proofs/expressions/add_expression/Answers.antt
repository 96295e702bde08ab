use Rattle.std.proofs.Common.{◌-◌, ℕ, List, [], length, Ok, refl, subst}
use Rattle.dwz_def_reading.specs.Input.{Input}
use Rattle.dwz_forms.specs.RawValues.{raw_view}
use Rattle.dwz_def_reading.specs.Meanings.{bytes_of}
use Rattle.dwz_expr.specs.Few.{NamesNone}
use Rattle.dwz_unit.specs.Rows.{units_of}
use Rattle.dwz_graph_resolve.specs.Resolved.{StateIn}
use Rattle.dwz_graph_resolve.specs.Surroundings.{common_view, scope_within}
use Rattle.dwz_graph_resolve.proofs.OperandSteps.{expression_read, numbers_none}
use Rattle.dwz_graph_resolve.proofs.expressions.add_expression.Goals as goal

pub returns-then-is_plain-clause-goes : goal.returns-then-is_plain-clause-goes
returns-then-is_plain-clause-goes c = λ u before here k. (
    let raw = units_of c.args.units.now in
    let co = common_view c.args.around.now.common in
    let s = scope_within c.args.around.now raw u in
    let K = StateIn c.args.around.now raw u c.args.here.now in
    let own = bytes_of (raw_view c.args.raw.now) in
    let i : Input = record { at = c.args.end - length own; rest = own } in
    let none : NamesNone own = subst (λ (w : List ℕ). NamesNone w) c.bytes_of.ensures (c.is_plain.ensures c.if-is_plain.true) in
    let read = none 1 i.at in
    expression_read co raw K before s refl i [] c.args.state.now c.args.state.now (Ok read.0) read.0 refl read.1 (numbers_none raw s [] c.args.state.now.refs.items) k)
