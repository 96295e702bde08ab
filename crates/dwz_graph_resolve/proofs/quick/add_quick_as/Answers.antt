use Rattle.std.proofs.Common.{◌+◌, ◌-◌, ℕ, [], length, Result, Ok, refl, sym, ap, subst, ◌∙◌}
use Rattle.dwz_model.specs.declared.fault.Fault.{Fault}
use Rattle.dwz_forms.specs.RawValues.{raw_view}
use Rattle.dwz_def_reading.specs.Classes.{Class}
use Rattle.dwz_def_reading.specs.Entries.{RawAttr}
use Rattle.dwz_def_reading.specs.Input.{Input}
use Rattle.dwz_def_reading.specs.Meanings.{MeaningContext, bytes_of, number_of}
use Rattle.dwz_def_reading.specs.Meant.{as_class, entry_among}
use Rattle.dwz_def_reading.specs.NamedLists.{lists_as}
use Rattle.dwz_graph_resolve.specs.declared.state.State.{State}
use Rattle.dwz_graph_resolve.specs.Named.{Found, found_in, map_ok}
use Rattle.dwz_graph_resolve.specs.Resolved.{Goes, StateIn, stored}
use Rattle.dwz_graph_resolve.specs.Surroundings.{common_view, scope_within}
use Rattle.dwz_unit.specs.Rows.{units_of}
use Rattle.dwz_graph_resolve.proofs.ConstantSteps.{constant_goes}
use Rattle.dwz_graph_resolve.proofs.ListGoes.{offset_goes}
use Rattle.dwz_graph_resolve.proofs.ListStates.{state_again}
use Rattle.dwz_graph_resolve.proofs.NamedSteps.{entry_goes}
use Rattle.dwz_graph_resolve.proofs.OperandSteps.{expression_read, numbers_none}
use Rattle.dwz_graph_resolve.proofs.QuickSteps.{file_at_once, list_at_once, plain_constant, plain_offset}
use Rattle.dwz_graph_resolve.proofs.StateLemmas.{with_found}
use Rattle.dwz_graph_resolve.proofs.TextSteps.{plain_goes, text_tells}
use Rattle.dwz_graph_resolve.proofs.quick.add_quick_as.Goals as goal

-- what a value of a class names
abbrev named_as : MeaningContext ℕ → RawAttr → Class → Result Found Fault
named_as s a k = map_ok (found_in (lists_as k s a)) (as_class k s a)

pub returns-else-not-names_file-clause-goes : goal.returns-else-not-names_file-clause-goes
returns-else-not-names_file-clause-goes c = λ told at end u before here k. (
    let raw = units_of c.args.units.now in
    let co = common_view c.args.around.now.common in
    let s = scope_within c.args.around.now raw u in
    let a = stored at end c.args.pair.now c.args.raw.now in
    let K = StateIn c.args.around.now raw u c.args.here.now in
    let st = c.args.state.now in
    let says = file_at_once s.around.sources st.files c.args.here.now.line c.args.pair.now.name at (number_of a.raw) (sym c.names_file.ensures ∙ c.if-not-names_file.false) k.tables (c.has_at_once.ensures told) in
    subst (λ (r : Result Found Fault). Goes {Y = Unit {0}} co raw K before st st (Ok tt) r) (ap (named_as s a) (sym c.in-Constant.is))
    (constant_goes {Y = Unit {0}} co raw s c.args.here.now.number before st st.files a c.args.here.now.line (Ok tt) here.line k says))

pub returns-then-not-names_file-clause-goes : goal.returns-then-not-names_file-clause-goes
returns-then-not-names_file-clause-goes c = λ told at end u before here k. (
    let raw = units_of c.args.units.now in
    let co = common_view c.args.around.now.common in
    let s = scope_within c.args.around.now raw u in
    let a = stored at end c.args.pair.now c.args.raw.now in
    let K = StateIn c.args.around.now raw u c.args.here.now in
    let st = c.args.state.now in
    let says = plain_constant s.around.sources st.files c.args.here.now.line c.args.pair.now.name at (number_of a.raw) (sym c.names_file.ensures ∙ c.if-not-names_file.true) k.tables in
    subst (λ (r : Result Found Fault). Goes {Y = Unit {0}} co raw K before st st (Ok tt) r) (ap (named_as s a) (sym c.in-Constant.is))
    (constant_goes {Y = Unit {0}} co raw s c.args.here.now.number before st st.files a c.args.here.now.line (Ok tt) here.line k says))

pub returns-in-TextInStr-clause-goes : goal.returns-in-TextInStr-clause-goes
returns-in-TextInStr-clause-goes c = λ told at end u before here k. (
    let raw = units_of c.args.units.now in
    let co = common_view c.args.around.now.common in
    let s = scope_within c.args.around.now raw u in
    let a = stored at end c.args.pair.now c.args.raw.now in
    let K = StateIn c.args.around.now raw u c.args.here.now in
    let st = c.args.state.now in
    let tells = text_tells a c.args.around.now.sections.strs.bytes.now c.offset_of-offset.result c.has.result c.has.ensures c.offset_of-offset.ensures.value in
    plain_goes co raw K before st (named_as s a c.args.class) k (ap (named_as s a) c.in-TextInStr.is ∙ tells.good told))

pub returns-in-TextInLineStr-clause-goes : goal.returns-in-TextInLineStr-clause-goes
returns-in-TextInLineStr-clause-goes c = λ told at end u before here k. (
    let raw = units_of c.args.units.now in
    let co = common_view c.args.around.now.common in
    let s = scope_within c.args.around.now raw u in
    let a = stored at end c.args.pair.now c.args.raw.now in
    let K = StateIn c.args.around.now raw u c.args.here.now in
    let st = c.args.state.now in
    let tells = text_tells a c.args.around.now.sections.line_strs.bytes.now c.offset_of-offset.result c.has-in-TextInLineStr.result c.has-in-TextInLineStr.ensures c.offset_of-offset.ensures.value in
    plain_goes co raw K before st (named_as s a c.args.class) k (ap (named_as s a) c.in-TextInLineStr.is ∙ tells.good told))

pub returns-in-UnitEntry-clause-goes : goal.returns-in-UnitEntry-clause-goes
returns-in-UnitEntry-clause-goes c = λ told at end u before here k. (
    let raw = units_of c.args.units.now in
    let co = common_view c.args.around.now.common in
    let s = scope_within c.args.around.now raw u in
    let a = stored at end c.args.pair.now c.args.raw.now in
    let K = StateIn c.args.around.now raw u c.args.here.now in
    let st = c.args.state.now in
    let new : State = record st { refs = c.add_hinted.new.refs } in
    let place = here.at in
    let added = entry_goes {Y = Unit {0}} co raw K before st new (Ok tt) (entry_among (λ (n : ℕ). n) s.own at (c.args.here.now.at + c.offset_of-offset.result))
    (c.add_hinted.ensures.added told co s.own at here.own) (with_found raw s c.args.here.now.number before st c.add_hinted.new.refs st.hints k) in
    subst (λ (r : Result Found Fault). Goes {Y = Unit {0}} co raw K before st new (Ok tt) r)
    ((λ i. map_ok (found_in []) (entry_among (λ (n : ℕ). n) s.own at (place i + c.offset_of-offset.ensures.value i))) ∙ ap (named_as s a) (sym c.in-UnitEntry.is))
    added)

pub returns-else-not-names_list-clause-goes : goal.returns-else-not-names_list-clause-goes
returns-else-not-names_list-clause-goes c = λ told at end u before here k. (
    let raw = units_of c.args.units.now in
    let co = common_view c.args.around.now.common in
    let s = scope_within c.args.around.now raw u in
    let a = stored at end c.args.pair.now c.args.raw.now in
    let K = StateIn c.args.around.now raw u c.args.here.now in
    let st = c.args.state.now in
    let named = sym c.names_list.ensures ∙ c.if-not-names_list.false in
    let adds = list_at_once raw s c.args.here.now.number a.pair.name at c.offset_of-offset.result before st named (c.is_read_list.ensures.within told)
    (state_again raw s c.args.here.now.number before c.offset_of-offset.result st (c.is_read_list.ensures.marked told) k) in
    subst (λ (r : Result Found Fault). Goes {Y = Unit {0}} co raw K before st st (Ok tt) r) (ap (named_as s a) (sym c.in-Offset.is))
    (offset_goes {Y = Unit {0}} co raw s c.args.here.now.number c.offset_of-offset.result a before st st (Ok tt) c.offset_of-offset.ensures.value k adds))

pub returns-then-not-names_list-clause-goes : goal.returns-then-not-names_list-clause-goes
returns-then-not-names_list-clause-goes c = λ told at end u before here k. (
    let raw = units_of c.args.units.now in
    let co = common_view c.args.around.now.common in
    let s = scope_within c.args.around.now raw u in
    let a = stored at end c.args.pair.now c.args.raw.now in
    let K = StateIn c.args.around.now raw u c.args.here.now in
    let st = c.args.state.now in
    let named = sym c.names_list.ensures ∙ c.if-not-names_list.true in
    let adds = plain_offset raw s c.args.here.now.number a.pair.name at c.offset_of-offset.result before st named in
    subst (λ (r : Result Found Fault). Goes {Y = Unit {0}} co raw K before st st (Ok tt) r) (ap (named_as s a) (sym c.in-Offset.is))
    (offset_goes {Y = Unit {0}} co raw s c.args.here.now.number c.offset_of-offset.result a before st st (Ok tt) c.offset_of-offset.ensures.value k adds))

pub returns-in-Expression-clause-goes : goal.returns-in-Expression-clause-goes
returns-in-Expression-clause-goes c = λ told at end u before here k. (
    let raw = units_of c.args.units.now in
    let co = common_view c.args.around.now.common in
    let s = scope_within c.args.around.now raw u in
    let a = stored at end c.args.pair.now c.args.raw.now in
    let K = StateIn c.args.around.now raw u c.args.here.now in
    let st = c.args.state.now in
    let own = bytes_of (raw_view c.args.raw.now) in
    let i : Input = record { at = end - length own; rest = own } in
    let read = c.is_plain_expression.ensures told 1 i.at in
    subst (λ (r : Result Found Fault). Goes {Y = Unit {0}} co raw K before st st (Ok tt) r) (ap (named_as s a) (sym c.in-Expression.is))
    (expression_read co raw K before s refl i [] st st (Ok read.0) read.0 refl read.1 (numbers_none raw s [] st.refs.items) k))
