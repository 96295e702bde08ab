use Rattle.std.proofs.Common.{◌+◌, ℕ, ap, refl, subst, sym, ◌∙◌}
use Rattle.dwz_def_reading.specs.Classes.{OfConstant, OfExpression, OfInfoEntry, OfListIndex, OfOffset, OfUnitEntry}
use Rattle.dwz_def_reading.specs.Documents.{Value, ref}
use Rattle.dwz_def_reading.specs.Meanings.{has}
use Rattle.dwz_unit.specs.Rows.{attr_view}
use Rattle.dwz_graph_view.specs.ValueViews.{Shows}
use Rattle.dwz_label_entries.proofs.PlainLemmas.{as_is, is_class, simple_is}
use Rattle.dwz_graph_view.proofs.ValueSteps.{info_named, unit_named}
use Rattle.dwz_graph_view.proofs.values.value_view.Goals as goal

pub returns-in-Constant : goal.returns-in-Constant
returns-in-Constant c = λ s v knows line means. (
    let a = attr_view c.args.attr.now in
    let k = c.class_of-class.result in
    c.constant_view.ensures s v (is_class a k OfConstant c.class_of-class.ensures c.in-Constant.is) line (as_is s a v k OfConstant c.class_of-class.ensures c.in-Constant.is means))

pub returns-in-Offset : goal.returns-in-Offset
returns-in-Offset c = λ s v knows line means. (
    let a = attr_view c.args.attr.now in
    let k = c.class_of-class.result in
    c.offset_view.ensures s v (is_class a k OfOffset c.class_of-class.ensures c.in-Offset.is) knows (as_is s a v k OfOffset c.class_of-class.ensures c.in-Offset.is means))

pub returns-in-UnitEntry : goal.returns-in-UnitEntry
returns-in-UnitEntry c = λ s v knows line means. (
    let a = attr_view c.args.attr.now in
    let n = unit_named s a v (as_is s a v c.class_of-class.result OfUnitEntry c.class_of-class.ensures c.in-UnitEntry.is means) in
    let e = c.offset_of-offset.ensures.value in
    subst (λ (w : Value ℕ). Shows c.args.setting.now.file w c.ref_view.result) (ap (λ (m : ℕ). ref (s.around.place (s.unit + m))) e ∙ n.1)
    (c.ref_view.ensures s knows (ap (λ (m : ℕ). has (s.unit + m) s.own) e ∙ n.0)))

pub returns-in-InfoEntry : goal.returns-in-InfoEntry
returns-in-InfoEntry c = λ s v knows line means. (
    let a = attr_view c.args.attr.now in
    let n = info_named s a v (as_is s a v c.class_of-class.result OfInfoEntry c.class_of-class.ensures c.in-InfoEntry.is means) in
    let e = c.offset_of-offset.ensures.value in
    subst (λ (w : Value ℕ). Shows c.args.setting.now.file w c.ref_view-in-InfoEntry.result) (ap (λ (m : ℕ). ref (s.around.place m)) e ∙ n.1)
    (c.ref_view-in-InfoEntry.ensures s knows (ap (λ (m : ℕ). has m s.around.all) e ∙ n.0)))

pub returns-in-Expression : goal.returns-in-Expression
returns-in-Expression c = λ s v knows line means. (
    let a = attr_view c.args.attr.now in
    c.expr_view.ensures s a v knows refl (sym c.bytes_of.ensures) (as_is s a v c.class_of-class.result OfExpression c.class_of-class.ensures c.in-Expression.is means))

pub returns-in-ListIndex : goal.returns-in-ListIndex
returns-in-ListIndex c = λ s v knows line means. (
    let a = attr_view c.args.attr.now in
    c.list_by_slot.ensures s a v knows c.offset_of-offset.ensures.value (as_is s a v c.class_of-class.result OfListIndex c.class_of-class.ensures c.in-ListIndex.is means))

pub returns-in_default : goal.returns-in_default
returns-in_default c = λ s v knows line means. (
    let a = attr_view c.args.attr.now in
    let k = c.class_of-class.result in
    let n = c.in_default in
    c.simple_view.ensures s v (simple_is k n.not-Constant n.not-UnitEntry n.not-InfoEntry n.not-Offset n.not-Expression n.not-ListIndex) c.class_of-class.ensures knows
    (as_is s a v k k c.class_of-class.ensures refl means))
