use Rattle.std.proofs.Common.{ℕ, Option, ap, sym, refl, ◌∙◌}
use Rattle.dwz_def_reading.specs.Classes.{OfConstant, OfExpression, OfInfoEntry, OfListIndex, OfOffset, OfUnitEntry}
use Rattle.dwz_def_reading.specs.Meanings.{Sources}
use Rattle.dwz_def_reading.specs.Meant.{list_from}
use Rattle.dwz_graph.specs.Resolved.{stored}
use Rattle.dwz_label_entries.proofs.PlainLemmas.{as_is, is_class, simple_is}
use Rattle.dwz_label_entries.proofs.plain.put_plain.Goals as goal

pub returns-in-Constant : goal.returns-in-Constant
returns-in-Constant c = λ s at v here line means. (
    let a = stored at c.args.end c.args.pair.now c.args.raw.now in
    let k = c.class_of-class.result in
    c.put_constant.ensures s at c.args.end v c.args.operands.now.items (is_class a k OfConstant c.class_of-class.ensures c.in-Constant.is) line
    (as_is s a v k OfConstant c.class_of-class.ensures c.in-Constant.is means))

pub returns-in-Offset : goal.returns-in-Offset
returns-in-Offset c = λ s at v here line means. (
    let a = stored at c.args.end c.args.pair.now c.args.raw.now in
    c.put_offset_of.ensures s at c.args.end v here.sources (as_is s a v c.class_of-class.result OfOffset c.class_of-class.ensures c.in-Offset.is means))

pub returns-in-UnitEntry : goal.returns-in-UnitEntry
returns-in-UnitEntry c = λ s at v here line means. (
    let a = stored at c.args.end c.args.pair.now c.args.raw.now in
    c.put_entry_of.ensures.unit s a v c.args.operands.now.items (as_is s a v c.class_of-class.result OfUnitEntry c.class_of-class.ensures c.in-UnitEntry.is means))

pub returns-in-InfoEntry : goal.returns-in-InfoEntry
returns-in-InfoEntry c = λ s at v here line means. (
    let a = stored at c.args.end c.args.pair.now c.args.raw.now in
    c.put_entry_of-in-InfoEntry.ensures.info s a v c.args.operands.now.items (as_is s a v c.class_of-class.result OfInfoEntry c.class_of-class.ensures c.in-InfoEntry.is means))

pub returns-in-Expression : goal.returns-in-Expression
returns-in-Expression c = λ s at v here line means. (
    let a = stored at c.args.end c.args.pair.now c.args.raw.now in
    c.put_expr.ensures s a v refl (sym c.bytes_of.ensures) (as_is s a v c.class_of-class.result OfExpression c.class_of-class.ensures c.in-Expression.is means))

pub returns-in-ListIndex : goal.returns-in-ListIndex
returns-in-ListIndex c = λ s at v here line means. (
    let a = stored at c.args.end c.args.pair.now c.args.raw.now in
    c.put_list_by_slot.ensures s a v (ap (λ (w : Sources). w.lists) here.sources) here.lists c.offset_of.ensures.value
    (ap (λ (w : Option ℕ). list_from s a w) here.lists ∙ as_is s a v c.class_of-class.result OfListIndex c.class_of-class.ensures c.in-ListIndex.is means))

pub returns-in_default : goal.returns-in_default
returns-in_default c = λ s at v here line means. (
    let a = stored at c.args.end c.args.pair.now c.args.raw.now in
    let k = c.class_of-class.result in
    let n = c.in_default in
    c.put_alone.ensures s at c.args.end v c.args.operands.now.items (simple_is k n.not-Constant n.not-UnitEntry n.not-InfoEntry n.not-Offset n.not-Expression n.not-ListIndex) here.sources here.alone
    here.offsets (as_is s a v k k c.class_of-class.ensures refl means))
