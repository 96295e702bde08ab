use Rattle.std.proofs.Common.{◌+◌, ℕ, [], Result, refl, sym, ap, subst, ◌∙◌}
use Rattle.std.specs.Prelude.{slice_range}
use Rattle.dwz_model.specs.declared.fault.Fault.{Fault}
use Rattle.dwz_model.specs.declared.fault.Reason.TheVariants.{BadString}
use Rattle.dwz_def_reading.specs.Classes.{Class}
use Rattle.dwz_def_reading.specs.Entries.{RawAttr}
use Rattle.dwz_def_reading.specs.Faults.{info_fault}
use Rattle.dwz_def_reading.specs.Meanings.{MeaningContext, all_places}
use Rattle.dwz_def_reading.specs.Meant.{as_class, common_entry, entry_among}
use Rattle.dwz_def_reading.specs.NamedLists.{lists_as}
use Rattle.dwz_graph_resolve.specs.declared.state.State.{State}
use Rattle.dwz_graph_resolve.proofs.StateLemmas.{with_found}
use Rattle.dwz_graph_resolve.specs.Named.{Found, found_in, map_ok}
use Rattle.dwz_graph_resolve.specs.Resolved.{Goes, StateIn, places, stored}
use Rattle.dwz_graph_resolve.specs.Surroundings.{common_view, scope_within}
use Rattle.dwz_unit.specs.Rows.{units_of}
use Rattle.dwz_graph_resolve.proofs.ConstantSteps.{constant_goes}
use Rattle.dwz_graph_resolve.proofs.ListGoes.{indexed_goes, offset_goes}
use Rattle.dwz_graph_resolve.proofs.NamedSteps.{entry_goes}
use Rattle.dwz_graph_resolve.proofs.PlaceLemmas.{all_are}
use Rattle.dwz_graph_resolve.proofs.TextSteps.{IsTest, common_tells, plain_goes, slot_tells, test_goes, text_tells}
use Rattle.dwz_graph_resolve.proofs.named.add_as.Goals as goal

-- what a value of a class names
abbrev named_as : MeaningContext ℕ → RawAttr → Class → Result Found Fault
named_as s a k = map_ok (found_in (lists_as k s a)) (as_class k s a)

pub returns-in-Address-clause-goes : goal.returns-in-Address-clause-goes
returns-in-Address-clause-goes c = λ u before here k. (
    let raw = units_of c.args.units.now in
    let co = common_view c.args.around.now.common in
    let a = stored c.args.at c.args.end c.args.pair.now c.args.raw.now in
    plain_goes co raw (StateIn c.args.around.now raw u c.args.here.now) before c.args.state.now (named_as (scope_within c.args.around.now raw u) a c.args.class) k
    (ap (named_as (scope_within c.args.around.now raw u) a) c.in-Address.is))

pub returns-in-Block-clause-goes : goal.returns-in-Block-clause-goes
returns-in-Block-clause-goes c = λ u before here k. (
    let raw = units_of c.args.units.now in
    let co = common_view c.args.around.now.common in
    let a = stored c.args.at c.args.end c.args.pair.now c.args.raw.now in
    plain_goes co raw (StateIn c.args.around.now raw u c.args.here.now) before c.args.state.now (named_as (scope_within c.args.around.now raw u) a c.args.class) k
    (ap (named_as (scope_within c.args.around.now raw u) a) c.in-Block.is))

pub returns-in-Flag-clause-goes : goal.returns-in-Flag-clause-goes
returns-in-Flag-clause-goes c = λ u before here k. (
    let raw = units_of c.args.units.now in
    let co = common_view c.args.around.now.common in
    let a = stored c.args.at c.args.end c.args.pair.now c.args.raw.now in
    plain_goes co raw (StateIn c.args.around.now raw u c.args.here.now) before c.args.state.now (named_as (scope_within c.args.around.now raw u) a c.args.class) k
    (ap (named_as (scope_within c.args.around.now raw u) a) c.in-Flag.is))

pub returns-in-Text-clause-goes : goal.returns-in-Text-clause-goes
returns-in-Text-clause-goes c = λ u before here k. (
    let raw = units_of c.args.units.now in
    let co = common_view c.args.around.now.common in
    let a = stored c.args.at c.args.end c.args.pair.now c.args.raw.now in
    plain_goes co raw (StateIn c.args.around.now raw u c.args.here.now) before c.args.state.now (named_as (scope_within c.args.around.now raw u) a c.args.class) k
    (ap (named_as (scope_within c.args.around.now raw u) a) c.in-Text.is))

pub returns-in-Signature-clause-goes : goal.returns-in-Signature-clause-goes
returns-in-Signature-clause-goes c = λ u before here k. (
    let raw = units_of c.args.units.now in
    let co = common_view c.args.around.now.common in
    let a = stored c.args.at c.args.end c.args.pair.now c.args.raw.now in
    plain_goes co raw (StateIn c.args.around.now raw u c.args.here.now) before c.args.state.now (named_as (scope_within c.args.around.now raw u) a c.args.class) k
    (ap (named_as (scope_within c.args.around.now raw u) a) c.in-Signature.is))

pub returns-in-Index-clause-goes : goal.returns-in-Index-clause-goes
returns-in-Index-clause-goes c = λ u before here k. (
    let raw = units_of c.args.units.now in
    let co = common_view c.args.around.now.common in
    let a = stored c.args.at c.args.end c.args.pair.now c.args.raw.now in
    plain_goes co raw (StateIn c.args.around.now raw u c.args.here.now) before c.args.state.now (named_as (scope_within c.args.around.now raw u) a c.args.class) k
    (ap (named_as (scope_within c.args.around.now raw u) a) c.in-Index.is))

pub returns-in-TextInStr-clause-goes : goal.returns-in-TextInStr-clause-goes
returns-in-TextInStr-clause-goes c = λ u before here k. (
    let raw = units_of c.args.units.now in
    let co = common_view c.args.around.now.common in
    let s = scope_within c.args.around.now raw u in
    let a = stored c.args.at c.args.end c.args.pair.now c.args.raw.now in
    let K = StateIn c.args.around.now raw u c.args.here.now in
    let tells = text_tells a c.args.around.now.sections.strs.bytes.now c.offset_of-offset.result c.has.result c.has.ensures c.offset_of-offset.ensures.value in
    test_goes co raw K before c.args.state.now c.check_text.result (named_as s a c.args.class) c.has.result (info_fault c.args.at BadString) k c.check_text.ensures
    (subst (λ (w : Class). IsTest (named_as s a w) c.has.result (info_fault c.args.at BadString)) (sym c.in-TextInStr.is) tells))

pub returns-in-TextInLineStr-clause-goes : goal.returns-in-TextInLineStr-clause-goes
returns-in-TextInLineStr-clause-goes c = λ u before here k. (
    let raw = units_of c.args.units.now in
    let co = common_view c.args.around.now.common in
    let s = scope_within c.args.around.now raw u in
    let a = stored c.args.at c.args.end c.args.pair.now c.args.raw.now in
    let K = StateIn c.args.around.now raw u c.args.here.now in
    let tells = text_tells a c.args.around.now.sections.line_strs.bytes.now c.offset_of-offset.result c.has-in-TextInLineStr.result c.has-in-TextInLineStr.ensures c.offset_of-offset.ensures.value in
    test_goes co raw K before c.args.state.now c.check_text-in-TextInLineStr.result (named_as s a c.args.class) c.has-in-TextInLineStr.result (info_fault c.args.at BadString) k
    c.check_text-in-TextInLineStr.ensures
    (subst (λ (w : Class). IsTest (named_as s a w) c.has-in-TextInLineStr.result (info_fault c.args.at BadString)) (sym c.in-TextInLineStr.is) tells))

pub returns-in-TextBySlot-clause-goes : goal.returns-in-TextBySlot-clause-goes
returns-in-TextBySlot-clause-goes c = λ u before here k. (
    let raw = units_of c.args.units.now in
    let co = common_view c.args.around.now.common in
    let s = scope_within c.args.around.now raw u in
    let a = stored c.args.at c.args.end c.args.pair.now c.args.raw.now in
    let K = StateIn c.args.around.now raw u c.args.here.now in
    let tells = slot_tells s a c.args.here.now.offsets _ c.offset_of-offset.result c.has_slot_text.result c.has_slot_text.ensures c.offset_of-offset.ensures.value here.base in
    test_goes co raw K before c.args.state.now c.check_text-in-TextBySlot.result (named_as s a c.args.class) c.has_slot_text.result (info_fault c.args.at BadString) k c.check_text-in-TextBySlot.ensures
    (subst (λ (w : Class). IsTest (named_as s a w) c.has_slot_text.result (info_fault c.args.at BadString)) (sym c.in-TextBySlot.is) tells))

pub returns-in-UnitEntry-clause-goes : goal.returns-in-UnitEntry-clause-goes
returns-in-UnitEntry-clause-goes c = λ u before here k. (
    let raw = units_of c.args.units.now in
    let co = common_view c.args.around.now.common in
    let s = scope_within c.args.around.now raw u in
    let a = stored c.args.at c.args.end c.args.pair.now c.args.raw.now in
    let K = StateIn c.args.around.now raw u c.args.here.now in
    let new : State = record c.args.state.now { refs = c.add_entry.new.refs; hints = c.add_entry.new.hints } in
    let own = here.own in
    let at = here.at in
    let added = entry_goes co raw K before c.args.state.now new c.add_entry.result (entry_among (λ (n : ℕ). n) s.own c.args.at (c.args.here.now.at + c.offset_of-offset.result))
    (c.add_entry.ensures co s.own own) (with_found raw s c.args.here.now.number before c.args.state.now c.add_entry.new.refs c.add_entry.new.hints k) in
    subst (λ (r : Result Found Fault). Goes co raw K before c.args.state.now new c.add_entry.result r)
    ((λ i. map_ok (found_in []) (entry_among (λ (n : ℕ). n) s.own c.args.at (at i + c.offset_of-offset.ensures.value i))) ∙ ap (named_as s a) (sym c.in-UnitEntry.is))
    added)

pub returns-in-InfoEntry-clause-goes : goal.returns-in-InfoEntry-clause-goes
returns-in-InfoEntry-clause-goes c = λ u before here k. (
    let raw = units_of c.args.units.now in
    let co = common_view c.args.around.now.common in
    let s = scope_within c.args.around.now raw u in
    let a = stored c.args.at c.args.end c.args.pair.now c.args.raw.now in
    let K = StateIn c.args.around.now raw u c.args.here.now in
    let new : State = record c.args.state.now { refs = c.add_entry-in-InfoEntry.new.refs; hints = c.add_entry-in-InfoEntry.new.hints } in
    let named = c.add_entry-in-InfoEntry.ensures co (all_places raw) (ap (λ (n : ℕ). slice_range (places raw) 0 n) c.entries.ensures ∙ all_are raw) in
    let added = entry_goes co raw K before c.args.state.now new c.add_entry-in-InfoEntry.result (entry_among (λ (n : ℕ). n) (all_places raw) c.args.at c.offset_of-offset.result) named
    (with_found raw s c.args.here.now.number before c.args.state.now c.add_entry-in-InfoEntry.new.refs c.add_entry-in-InfoEntry.new.hints k) in
    subst (λ (r : Result Found Fault). Goes co raw K before c.args.state.now new c.add_entry-in-InfoEntry.result r)
    (ap (λ (p : ℕ). map_ok (found_in []) (entry_among (λ (n : ℕ). n) (all_places raw) c.args.at p)) c.offset_of-offset.ensures.value ∙ ap (named_as s a) (sym c.in-InfoEntry.is))
    added)

pub returns-in-CommonEntry-clause-goes : goal.returns-in-CommonEntry-clause-goes
returns-in-CommonEntry-clause-goes c = λ u before here k. (
    let raw = units_of c.args.units.now in
    let co = common_view c.args.around.now.common in
    let s = scope_within c.args.around.now raw u in
    let a = stored c.args.at c.args.end c.args.pair.now c.args.raw.now in
    let K = StateIn c.args.around.now raw u c.args.here.now in
    let new : State = record c.args.state.now { refs = c.add_common.new.refs; hints = c.add_common.new.hints } in
    subst (λ (r : Result Found Fault). Goes co raw K before c.args.state.now new c.add_common.result r) (ap (named_as s a) (sym c.in-CommonEntry.is))
    (entry_goes co raw K before c.args.state.now new c.add_common.result (common_entry a co) (c.add_common.ensures a refl (sym c.offset_of-offset.ensures.value))
    (with_found raw s c.args.here.now.number before c.args.state.now c.add_common.new.refs c.add_common.new.hints k)))

pub returns-in-CommonText-clause-goes : goal.returns-in-CommonText-clause-goes
returns-in-CommonText-clause-goes c = λ u before here k. (
    let raw = units_of c.args.units.now in
    let co = common_view c.args.around.now.common in
    let s = scope_within c.args.around.now raw u in
    let a = stored c.args.at c.args.end c.args.pair.now c.args.raw.now in
    let K = StateIn c.args.around.now raw u c.args.here.now in
    let tells = common_tells a co c.offset_of-offset.result c.has_common_text.result c.has_common_text.ensures c.offset_of-offset.ensures.value in
    test_goes co raw K before c.args.state.now c.check_text-in-CommonText.result (named_as s a c.args.class) c.has_common_text.result (info_fault c.args.at BadString) k
    c.check_text-in-CommonText.ensures
    (subst (λ (w : Class). IsTest (named_as s a w) c.has_common_text.result (info_fault c.args.at BadString)) (sym c.in-CommonText.is) tells))

pub returns-in-Expression-clause-goes : goal.returns-in-Expression-clause-goes
returns-in-Expression-clause-goes c = λ u before here k. (
    let raw = units_of c.args.units.now in
    let co = common_view c.args.around.now.common in
    let s = scope_within c.args.around.now raw u in
    let a = stored c.args.at c.args.end c.args.pair.now c.args.raw.now in
    let K = StateIn c.args.around.now raw u c.args.here.now in
    subst (λ (r : Result Found Fault). Goes co raw K before c.args.state.now c.add_expression.new.state c.add_expression.result r) (ap (named_as s a) (sym c.in-Expression.is))
    (c.add_expression.ensures.goes u before here k))

pub returns-in-Constant-clause-goes : goal.returns-in-Constant-clause-goes
returns-in-Constant-clause-goes c = λ u before here k. (
    let raw = units_of c.args.units.now in
    let co = common_view c.args.around.now.common in
    let s = scope_within c.args.around.now raw u in
    let a = stored c.args.at c.args.end c.args.pair.now c.args.raw.now in
    let K = StateIn c.args.around.now raw u c.args.here.now in
    subst (λ (r : Result Found Fault). Goes co raw K before c.args.state.now (record c.args.state.now { files = c.check_constant.new.files }) c.check_constant.result r)
    (ap (named_as s a) (sym c.in-Constant.is))
    (constant_goes co raw s c.args.here.now.number before c.args.state.now c.check_constant.new.files a c.args.here.now.line c.check_constant.result here.line k (c.check_constant.ensures.says k.tables)))

pub returns-in-Offset-clause-goes : goal.returns-in-Offset-clause-goes
returns-in-Offset-clause-goes c = λ u before here k. (
    let raw = units_of c.args.units.now in
    let co = common_view c.args.around.now.common in
    let s = scope_within c.args.around.now raw u in
    let a = stored c.args.at c.args.end c.args.pair.now c.args.raw.now in
    let K = StateIn c.args.around.now raw u c.args.here.now in
    subst (λ (r : Result Found Fault). Goes co raw K before c.args.state.now c.add_offset.new.state c.add_offset.result r) (ap (named_as s a) (sym c.in-Offset.is))
    (offset_goes co raw s c.args.here.now.number c.offset_of-offset.result a before c.args.state.now c.add_offset.new.state c.add_offset.result c.offset_of-offset.ensures.value k
    (c.add_offset.ensures.goes u before here k)))

pub returns-in-ListIndex-clause-goes : goal.returns-in-ListIndex-clause-goes
returns-in-ListIndex-clause-goes c = λ u before here k. (
    let raw = units_of c.args.units.now in
    let co = common_view c.args.around.now.common in
    let s = scope_within c.args.around.now raw u in
    let a = stored c.args.at c.args.end c.args.pair.now c.args.raw.now in
    let K = StateIn c.args.around.now raw u c.args.here.now in
    subst (λ (r : Result Found Fault). Goes co raw K before c.args.state.now c.add_indexed.new.state c.add_indexed.result r) (ap (named_as s a) (sym c.in-ListIndex.is))
    (indexed_goes co raw s c.args.here.now.number c.offset_of-offset.result c.args.here.now.lists a before c.args.state.now c.add_indexed.new.state c.add_indexed.result c.offset_of-offset.ensures.value
    here.lists (c.add_indexed.ensures.goes u before here k)))
