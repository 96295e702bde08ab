use Rattle.std.proofs.Common.{◌≡◌, ℕ, List, Result, Ok, refl, sym, ap, subst, ◌∙◌}
use Rattle.std.specs.Prelude.{IfOk}
use Rattle.dwz_bytes.specs.Input.{Input, input}
use Rattle.dwz_model.specs.declared.fault.Fault.{Fault}
use Rattle.dwz_forms.specs.RawValues.{raw_view}
use Rattle.dwz_def_reading.specs.Shared.{NamedList}
use Rattle.dwz_def_reading.specs.Units.{RawUnit}
use Rattle.dwz_def_reading.specs.Values.{Raw, value_at, written_rows}
use Rattle.dwz_graph_resolve.specs.declared.state.State.{State}
use Rattle.dwz_graph_resolve.specs.Named.{Found, attr_named}
use Rattle.dwz_graph_resolve.specs.Quick.{AddsNamed}
use Rattle.dwz_graph_resolve.specs.Resolved.{IsHere, StateIn, stored, value_between}
use Rattle.dwz_graph_resolve.specs.Surroundings.{common_view, scope_within}
use Rattle.dwz_unit.specs.Rows.{units_of}
use Rattle.dwz_graph_resolve.proofs.NamedSteps.{added_none}
use Rattle.dwz_graph_resolve.proofs.QuickSteps.{class_named, sibling_named}
use Rattle.dwz_graph_resolve.proofs.quick.add_quick_value.Goals as goal
use Rattle.dwz_graph_resolve.proofs.quick.add_quick_value.Goals.{then-pair-eq-DW_AT_SIBLING-via-then-pair-eq-DW_AT_SIBLING, then-pair-eq-DW_AT_SIBLING-via-else-pair-eq-DW_AT_SIBLING+then-add_quick_as}

pub returns-then-pair-eq-DW_AT_SIBLING-clause-goes : goal.returns-then-pair-eq-DW_AT_SIBLING-clause-goes
returns-then-pair-eq-DW_AT_SIBLING-clause-goes c = λ told. (
    let raw = units_of c.args.units.now in
    let co = common_view c.args.around.now.common in
    let pair = c.args.pair.now in
    let at = c.args.cursor.now.at in
    let end = c.known_value-raw.new.cursor.at in
    let st = c.args.state.now in
    let same : c.new-ahead.result ≡ c.args.cursor.now = c.new-ahead.ensures ∙ ap (λ (n : ℕ). input c.bytes.result.now n) c.at.ensures ∙ c.bytes.ensures.here in
    let value : value_at written_rows pair c.args.cursor.now ≡ Ok (raw_view c.known_value-raw.result, c.known_value-raw.new.cursor) =
    subst (λ (i : Input). value_at written_rows pair i ≡ Ok (raw_view c.known_value-raw.result, c.known_value-raw.new.cursor)) same c.known_value-raw.ensures.value in
    subst (λ (w : Result (Raw × Input) Fault). IfOk w (λ x. (u : RawUnit) (before : List NamedList) → IsHere raw u c.args.here.now → StateIn c.args.around.now raw u c.args.here.now before st
    → AddsNamed co raw (StateIn c.args.around.now raw u c.args.here.now) before st c.then-pair-eq-DW_AT_SIBLING.state
    (attr_named (scope_within c.args.around.now raw u) (value_between c.args.cursor.now x.1 pair x.0))))
    (sym value)
    (λ u before here k. (
    let s = scope_within c.args.around.now raw u in
    let a = stored at end pair c.known_value-raw.result in
    let K = StateIn c.args.around.now raw u c.args.here.now in
    elim c.then-pair-eq-DW_AT_SIBLING.branch [
      | then-pair-eq-DW_AT_SIBLING-via-then-pair-eq-DW_AT_SIBLING w ↦
          subst (λ (z : State). AddsNamed co raw K before st z (attr_named s a)) (sym w.state-is)
          (subst (λ (r : Result Found Fault). AddsNamed co raw K before st st r) (sym (sibling_named s a w.if-pair-eq-DW_AT_SIBLING.true)) (added_none co raw K before st st refl k))
      | then-pair-eq-DW_AT_SIBLING-via-else-pair-eq-DW_AT_SIBLING+then-add_quick_as w ↦
          subst (λ (z : State). AddsNamed co raw K before st z (attr_named s a)) (sym w.state-is)
          (subst (λ (r : Result Found Fault). AddsNamed co raw K before st w.add_quick_as.new.state r) (sym (class_named s a w.class_of.result w.if-pair-eq-DW_AT_SIBLING.false w.class_of.ensures))
          (w.add_quick_as.ensures.goes w.if-add_quick_as.true at end u before here k))
    ])))
