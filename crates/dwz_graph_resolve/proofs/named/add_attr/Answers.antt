use Rattle.std.proofs.Common.{refl, Result, Ok, sym, ap, subst, ◌∙◌}
use Rattle.std.specs.Prelude.{◌==◌}
use Rattle.std.proofs.lemmas.Bool.{cond-false, cond-true, eq-eqb, ne_eqb}
use Rattle.dwz_model.specs.declared.fault.Fault.{Fault}
use Rattle.dwz_def_reading.specs.Classes.{Class}
use Rattle.dwz_def_reading.specs.Meant.{as_class, meaning}
use Rattle.dwz_def_reading.specs.NamedLists.{list_of_attr, lists_as}
use Rattle.dwz_graph_resolve.specs.Named.{Found, found_in, map_ok, nothing_found}
use Rattle.dwz_graph_resolve.specs.Resolved.{Goes, StateIn, stored}
use Rattle.dwz_graph_resolve.specs.Surroundings.{common_view, scope_within}
use Rattle.dwz_graph_resolve.proofs.NamedSteps.{added_none}
use Rattle.dwz_unit.specs.Rows.{units_of}
use Rattle.dwz_graph_resolve.proofs.named.add_attr.Goals as goal

pub returns-then-pair-eq-DW_AT_SIBLING-clause-goes : goal.returns-then-pair-eq-DW_AT_SIBLING-clause-goes
returns-then-pair-eq-DW_AT_SIBLING-clause-goes c = λ u before here k. (
    let raw = units_of c.args.units.now in
    let co = common_view c.args.around.now.common in
    let s = scope_within c.args.around.now raw u in
    let a = stored c.args.at c.args.end c.args.pair.now c.args.raw.now in
    let K = StateIn c.args.around.now raw u c.args.here.now in
    subst (λ (r : Result Found Fault). Goes {Y = Unit {0}} co raw K before c.args.state.now c.args.state.now (Ok tt) r)
    (sym (cond-true (a.pair.name == 0x01) (Ok nothing_found) (map_ok (found_in (list_of_attr s a)) (meaning s a)) (eq-eqb a.pair.name 0x01 c.if-pair-eq-DW_AT_SIBLING.true)))
    (added_none co raw K before c.args.state.now c.args.state.now refl k))

pub returns-clause-goes : goal.returns-clause-goes
unfolding meaning list_of_attr
returns-clause-goes c = λ u before here k. (
    let raw = units_of c.args.units.now in
    let co = common_view c.args.around.now.common in
    let s = scope_within c.args.around.now raw u in
    let a = stored c.args.at c.args.end c.args.pair.now c.args.raw.now in
    let K = StateIn c.args.around.now raw u c.args.here.now in
    let added = c.add_as.ensures.goes u before here k in
    subst (λ (r : Result Found Fault). Goes co raw K before c.args.state.now c.add_as.new.state c.add_as.result r)
    (ap (λ (k : Class). map_ok (found_in (lists_as k s a)) (as_class k s a)) c.class_of.ensures
    ∙ sym (cond-false (a.pair.name == 0x01) (Ok nothing_found) (map_ok (found_in (list_of_attr s a)) (meaning s a)) (ne_eqb a.pair.name 0x01 c.if-pair-eq-DW_AT_SIBLING.false)))
    added)
