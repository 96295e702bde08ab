use Rattle.std.proofs.Common.{◌≡◌, ◌∙◌, ℕ, ◌+◌, ◌++◌, List, OnOk, ap, sym, subst}
use Rattle.dwz_def_reading.specs.declared.exprs.Operand.{Operand}
use Rattle.dwz_def_reading.specs.Classes.{OfListIndex, OfOffset, class_of}
use Rattle.dwz_def_reading.specs.Entries.{RawAttr}
use Rattle.dwz_def_reading.specs.Meanings.{loclists_base, offset_of}
use Rattle.dwz_def_reading.specs.Shared.{operands_of}
use Rattle.dwz_def_reading.specs.Texts.{slot}
use Rattle.dwz_graph.specs.Resolved.{stored}
use Rattle.dwz_label_entries.proofs.PlainLemmas.{list_means}
use Rattle.dwz_expand_passes.proofs.ContentLemmas.{as_class_of}
use Rattle.dwz_expand_passes.proofs.NamedLemmas.{list_at_place, list_by_slot}
use Rattle.dwz_expand.specs.Gathered.{AllKept, own_scope, told_at}
use Rattle.dwz_expand.proofs.ListOperands.{no_list, offset_operands, other_none, slot_operands}
use Rattle.dwz_expand.proofs.ToldSteps.{read_one, told_none, told_one, told_skip}
use Rattle.dwz_expand.proofs.entry.put_attr.Goals as goal

pub returns-then-pair-eq-DW_AT_SIBLING : goal.returns-then-pair-eq-DW_AT_SIBLING
returns-then-pair-eq-DW_AT_SIBLING c = λ f u t at end can. (
    let a : RawAttr = stored at end c.args.pair.now c.args.raw.now in
    told_skip f c.args.x.now.unit (own_scope c.args.x.now.file.now u) a c.args.told.now.items c.if-pair-eq-DW_AT_SIBLING.true)

pub returns-then-names_list : goal.returns-then-names_list
returns-then-names_list c = λ f u t at end can. (
    let x = c.args.x.now in
    let s = own_scope x.file.now u in
    let a : RawAttr = stored at end c.args.pair.now c.args.raw.now in
    let other = c.if-pair-eq-DW_AT_SIBLING.false in
    let class : class_of a.pair.form ≡ OfOffset = sym c.class_of.ensures ∙ c.in-Offset.is in
    let name = sym c.names_list.ensures ∙ c.if-names_list.true in
    let r = read_one x.file.now t.known.w x.unit u a other can in
    let means = list_means s a r.0 name (as_class_of s a r.0 OfOffset class r.1) in
    let n = list_at_place s a r.0 (offset_of a) means in
    let os = offset_operands s a class name n.list n.read in
    let kept : AllKept x.file.now t.known.w x.unit u (operands_of n.list.exprs) = subst (λ (w : List Operand). AllKept x.file.now t.known.w x.unit u w) os r.2 in
    let put = rw c.offset_of.ensures.value at c.put_list_at.ensures f u t a r.0 n.list means n.read kept in
    subst (λ (w : List Operand). OnOk c.put_list_at.result (c.put_list_at.new.told.items ≡ c.args.told.now.items ++ w))
    (ap (λ (w : List Operand). told_at f x.unit s w) (sym os) ∙ told_one f x.unit s a other) put)

pub returns-else-names_list : goal.returns-else-names_list
returns-else-names_list c = λ f u t at end can. (
    let x = c.args.x.now in
    let s = own_scope x.file.now u in
    let a : RawAttr = stored at end c.args.pair.now c.args.raw.now in
    let class : class_of a.pair.form ≡ OfOffset = sym c.class_of.ensures ∙ c.in-Offset.is in
    let name = sym c.names_list.ensures ∙ c.if-names_list.false in
    told_none f x.unit s a c.args.told.now.items c.if-pair-eq-DW_AT_SIBLING.false (no_list s a class name))

pub returns-in-ListIndex : goal.returns-in-ListIndex
returns-in-ListIndex c = λ f u t at end can. (
    let x = c.args.x.now in
    let s = own_scope x.file.now u in
    let a : RawAttr = stored at end c.args.pair.now c.args.raw.now in
    let other = c.if-pair-eq-DW_AT_SIBLING.false in
    let class : class_of a.pair.form ≡ OfListIndex = sym c.class_of.ensures ∙ c.in-ListIndex.is in
    let r = read_one x.file.now t.known.w x.unit u a other can in
    let b = list_by_slot s a r.0 (loclists_base s) (as_class_of s a r.0 OfListIndex class r.1) in
    let n = list_at_place s a r.0 (b.at + b.offset) b.means in
    let os = slot_operands s a class r.0 b n.list n.read in
    let kept : AllKept x.file.now t.known.w x.unit u (operands_of n.list.exprs) = subst (λ (w : List Operand). AllKept x.file.now t.known.w x.unit u w) os r.2 in
    let put = c.put_list_by_slot.ensures f u t a r.0 n.list b.at b.offset (t.here.lists ∙ b.base_is)
    (ap (λ (k : ℕ). slot s.around.sources.lists b.at k) c.offset_of-in-ListIndex.ensures.value ∙ b.slot_is) b.means n.read kept in
    subst (λ (w : List Operand). OnOk c.put_list_by_slot.result (c.put_list_by_slot.new.told.items ≡ c.args.told.now.items ++ w))
    (ap (λ (w : List Operand). told_at f x.unit s w) (sym os) ∙ told_one f x.unit s a other) put)

pub returns-in_default : goal.returns-in_default
returns-in_default c = λ f u t at end can. (
    let x = c.args.x.now in
    let s = own_scope x.file.now u in
    let a : RawAttr = stored at end c.args.pair.now c.args.raw.now in
    told_none f x.unit s a c.args.told.now.items c.if-pair-eq-DW_AT_SIBLING.false
    (other_none s a c.class_of.result (sym c.class_of.ensures) c.in_default.not-Offset c.in_default.not-ListIndex))
