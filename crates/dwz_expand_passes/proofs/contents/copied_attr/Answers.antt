use Rattle.std.proofs.Common.{◌≡◌, ◌∙◌, ℕ, ap, refl, sym, subst}
use Rattle.dwz_def_reading.specs.Classes.{Class, OfCommonEntry, OfCommonText, OfConstant, OfExpression, OfInfoEntry, OfListIndex, OfOffset, OfTextBySlot, OfTextInLineStr, OfTextInStr, OfUnitEntry, class_of}
use Rattle.dwz_def_reading.specs.Documents.{Attr, attr_map}
use Rattle.dwz_def_reading.specs.Texts.{text_at}
use Rattle.dwz_forms.specs.declared.raw.Raw.TheVariants.{Bytes}
use Rattle.dwz_graph.specs.Resolved.{stored}
use Rattle.dwz_label_entries.proofs.PlainLemmas.{is_class}
use Rattle.dwz_expand_passes.specs.Copied.{IsTextIn, is_entry, said}
use Rattle.dwz_expand_passes.specs.Known.{copied}
use Rattle.dwz_expand_passes.proofs.LostLemmas.{no_constant}
use Rattle.dwz_expand_passes.proofs.PlainClasses.{simple}
use Rattle.dwz_layout.proofs.SizeLemmas.{on_ok}
use Rattle.dwz_expand_passes.proofs.SpokenLemmas.{none_spoken}
use Rattle.dwz_expand_passes.proofs.TextAnswers.{common_text_answer, number_read, read_answer}
use Rattle.dwz_expand_passes.proofs.contents.copied_attr.Goals as goal

pub returns-in-UnitEntry-clause-copies : goal.returns-in-UnitEntry-clause-copies
returns-in-UnitEntry-clause-copies c = λ q index v others asks. (
    let class = is_class (stored c.args.at c.args.end c.args.pair.now c.args.raw.now) c.class_of.result OfUnitEntry c.class_of.ensures c.in-UnitEntry.is in
    c.copied_entry.ensures.copies q index c.args.end v others c.args.operands.now.items (ap is_entry class) asks)

pub returns-in-InfoEntry-clause-copies : goal.returns-in-InfoEntry-clause-copies
returns-in-InfoEntry-clause-copies c = λ q index v others asks. (
    let class = is_class (stored c.args.at c.args.end c.args.pair.now c.args.raw.now) c.class_of.result OfInfoEntry c.class_of.ensures c.in-InfoEntry.is in
    c.copied_entry-in-InfoEntry.ensures.copies q index c.args.end v others c.args.operands.now.items (ap is_entry class) asks)

pub returns-in-CommonEntry-clause-copies : goal.returns-in-CommonEntry-clause-copies
returns-in-CommonEntry-clause-copies c = λ q index v others asks. (
    let class = is_class (stored c.args.at c.args.end c.args.pair.now c.args.raw.now) c.class_of.result OfCommonEntry c.class_of.ensures c.in-CommonEntry.is in
    c.copied_entry-in-CommonEntry.ensures.copies q index c.args.end v others c.args.operands.now.items (ap is_entry class) asks)

pub returns-in-CommonText-clause-copies : goal.returns-in-CommonText-clause-copies
returns-in-CommonText-clause-copies c = λ q index v others asks. (
    let class = is_class (stored c.args.at c.args.end c.args.pair.now c.args.raw.now) c.class_of.result OfCommonText c.class_of.ensures c.in-CommonText.is in
    let r = common_text_answer c.args.x.now q index c.args.at c.args.end c.args.pair.now c.args.raw.now v c.args.refs.now others c.requires.constant c.requires.spelled asks c.args.operands.now.items
    c.of_form.result c.text_at-text.result.now (Bytes c.text_at-text.result) class
    (λ t is. c.text_at-text.ensures t (ap (λ (n : ℕ). text_at c.args.x.now.file.common_strs.now n) c.offset_of.ensures.value ∙ is)) refl c.of_form.ensures in
    (r.free, r.is))

pub returns-in-TextInStr-clause-copies : goal.returns-in-TextInStr-clause-copies
returns-in-TextInStr-clause-copies c = λ q index v others asks. (
    let class = is_class (stored c.args.at c.args.end c.args.pair.now c.args.raw.now) c.class_of.result OfTextInStr c.class_of.ensures c.in-TextInStr.is in
    let r = c.copied_text.ensures.copies q index c.args.at c.args.end v c.args.refs.now others c.args.operands.now.items
    (subst (λ (k : Class). IsTextIn k c.args.x.now c.args.x.now.file.sections.now.strs.bytes.now) (sym class) refl) asks in
    (r.free, r.is))

pub returns-in-TextInLineStr-clause-copies : goal.returns-in-TextInLineStr-clause-copies
returns-in-TextInLineStr-clause-copies c = λ q index v others asks. (
    let class = is_class (stored c.args.at c.args.end c.args.pair.now c.args.raw.now) c.class_of.result OfTextInLineStr c.class_of.ensures c.in-TextInLineStr.is in
    let r = c.copied_text-in-TextInLineStr.ensures.copies q index c.args.at c.args.end v c.args.refs.now others c.args.operands.now.items
    (subst (λ (k : Class). IsTextIn k c.args.x.now c.args.x.now.file.sections.now.line_strs.bytes.now) (sym class) refl) asks in
    (r.free, r.is))

pub returns-in-TextBySlot-clause-copies : goal.returns-in-TextBySlot-clause-copies
returns-in-TextBySlot-clause-copies c = λ q index v others asks. (
    let class = is_class (stored c.args.at c.args.end c.args.pair.now c.args.raw.now) c.class_of.result OfTextBySlot c.class_of.ensures c.in-TextBySlot.is in
    let r = c.copied_slot.ensures.copies q index c.args.at c.args.end v c.args.refs.now others c.args.operands.now.items class asks in
    (r.free, r.is))

pub returns-then-names_file-clause-copies : goal.returns-then-names_file-clause-copies
returns-then-names_file-clause-copies c = λ q index v others asks. (
    let class = is_class (stored c.args.at c.args.end c.args.pair.now c.args.raw.now) c.class_of.result OfConstant c.class_of.ensures c.in-Constant.is in
    c.copied_file.ensures.copies q index c.args.end v c.args.refs.now others c.args.operands.now.items class (sym c.names_file.ensures ∙ c.if-names_file.true) asks)

pub returns-else-names_file-clause-copies : goal.returns-else-names_file-clause-copies
returns-else-names_file-clause-copies c = λ q index v others asks. (
    let class = is_class (stored c.args.at c.args.end c.args.pair.now c.args.raw.now) c.class_of.result OfConstant c.class_of.ensures c.in-Constant.is in
    let r = number_read c.args.x.now q index c.args.at c.args.end c.args.pair.now c.args.raw.now v c.args.refs.now others c.requires.constant c.requires.spelled asks c.args.operands.now.items
    c.as_read.result class (sym c.names_file.ensures ∙ c.if-names_file.false) c.as_read.ensures in
    (r.free, r.is))

pub returns-in-Offset-clause-copies : goal.returns-in-Offset-clause-copies
returns-in-Offset-clause-copies c = λ q index v others asks. (
    let class = is_class (stored c.args.at c.args.end c.args.pair.now c.args.raw.now) c.class_of.result OfOffset c.class_of.ensures c.in-Offset.is in
    c.copied_offset.ensures.copies q index c.args.at c.args.end v c.args.refs.now others c.args.operands.now.items class asks)

pub returns-in-ListIndex-clause-copies : goal.returns-in-ListIndex-clause-copies
returns-in-ListIndex-clause-copies c = λ q index v others asks. (
    let class = is_class (stored c.args.at c.args.end c.args.pair.now c.args.raw.now) c.class_of.result OfListIndex c.class_of.ensures c.in-ListIndex.is in
    c.copied_list.ensures.copies q index c.args.at c.args.end v c.args.refs.now others c.args.operands.now.items class asks)

pub returns-in_default-clause-copies : goal.returns-in_default-clause-copies
returns-in_default-clause-copies c = λ q index v others asks. (
    let k = c.class_of.result in
    let n = c.in_default in
    let class : class_of c.args.pair.now.form ≡ k = sym c.class_of.ensures in
    let s = simple q k n.not-Constant n.not-TextInStr n.not-TextInLineStr n.not-TextBySlot n.not-UnitEntry n.not-InfoEntry n.not-Expression n.not-ListIndex n.not-CommonEntry n.not-CommonText in
    let b : Attr ℕ = said q (stored c.args.at c.args.end c.args.pair.now c.args.raw.now) v in
    let r = read_answer c.args.x.now q index c.args.at c.args.end c.args.pair.now c.args.raw.now v c.args.refs.now others c.requires.constant c.requires.spelled asks c.args.operands.now.items
    c.as_read-in_default.result k class s.entry n.not-Expression s.none (λ e. absurd (n.not-Offset e))
    (no_constant q index b (λ e. n.not-Constant (c.class_of.ensures ∙ e))) (s.chosen (attr_map (copied q) b)) c.as_read-in_default.ensures in
    (r.free, r.is))

pub returns-in-UnitEntry-clause-speaks : goal.returns-in-UnitEntry-clause-speaks
returns-in-UnitEntry-clause-speaks c = λ q index v others asks. (
    let class = is_class (stored c.args.at c.args.end c.args.pair.now c.args.raw.now) c.class_of.result OfUnitEntry c.class_of.ensures c.in-UnitEntry.is in
    let is = none_spoken q (stored c.args.at c.args.end c.args.pair.now c.args.raw.now) OfUnitEntry class (λ e. absurd (let z = e in cc)) c.args.operands.now.items in
    on_ok c.copied_entry.result is)

pub returns-in-InfoEntry-clause-speaks : goal.returns-in-InfoEntry-clause-speaks
returns-in-InfoEntry-clause-speaks c = λ q index v others asks. (
    let class = is_class (stored c.args.at c.args.end c.args.pair.now c.args.raw.now) c.class_of.result OfInfoEntry c.class_of.ensures c.in-InfoEntry.is in
    let is = none_spoken q (stored c.args.at c.args.end c.args.pair.now c.args.raw.now) OfInfoEntry class (λ e. absurd (let z = e in cc)) c.args.operands.now.items in
    on_ok c.copied_entry-in-InfoEntry.result is)

pub returns-in-CommonEntry-clause-speaks : goal.returns-in-CommonEntry-clause-speaks
returns-in-CommonEntry-clause-speaks c = λ q index v others asks. (
    let class = is_class (stored c.args.at c.args.end c.args.pair.now c.args.raw.now) c.class_of.result OfCommonEntry c.class_of.ensures c.in-CommonEntry.is in
    let is = none_spoken q (stored c.args.at c.args.end c.args.pair.now c.args.raw.now) OfCommonEntry class (λ e. absurd (let z = e in cc)) c.args.operands.now.items in
    on_ok c.copied_entry-in-CommonEntry.result is)

pub returns-in-CommonText-clause-speaks : goal.returns-in-CommonText-clause-speaks
returns-in-CommonText-clause-speaks c = λ q index v others asks. (
    let class = is_class (stored c.args.at c.args.end c.args.pair.now c.args.raw.now) c.class_of.result OfCommonText c.class_of.ensures c.in-CommonText.is in
    let is = none_spoken q (stored c.args.at c.args.end c.args.pair.now c.args.raw.now) OfCommonText class (λ e. absurd (let z = e in cc)) c.args.operands.now.items in
    is)

pub returns-in-TextInStr-clause-speaks : goal.returns-in-TextInStr-clause-speaks
returns-in-TextInStr-clause-speaks c = λ q index v others asks. (
    let class = is_class (stored c.args.at c.args.end c.args.pair.now c.args.raw.now) c.class_of.result OfTextInStr c.class_of.ensures c.in-TextInStr.is in
    let is = none_spoken q (stored c.args.at c.args.end c.args.pair.now c.args.raw.now) OfTextInStr class (λ e. absurd (let z = e in cc)) c.args.operands.now.items in
    is)

pub returns-in-TextInLineStr-clause-speaks : goal.returns-in-TextInLineStr-clause-speaks
returns-in-TextInLineStr-clause-speaks c = λ q index v others asks. (
    let class = is_class (stored c.args.at c.args.end c.args.pair.now c.args.raw.now) c.class_of.result OfTextInLineStr c.class_of.ensures c.in-TextInLineStr.is in
    let is = none_spoken q (stored c.args.at c.args.end c.args.pair.now c.args.raw.now) OfTextInLineStr class (λ e. absurd (let z = e in cc)) c.args.operands.now.items in
    is)

pub returns-in-TextBySlot-clause-speaks : goal.returns-in-TextBySlot-clause-speaks
returns-in-TextBySlot-clause-speaks c = λ q index v others asks. (
    let class = is_class (stored c.args.at c.args.end c.args.pair.now c.args.raw.now) c.class_of.result OfTextBySlot c.class_of.ensures c.in-TextBySlot.is in
    let is = none_spoken q (stored c.args.at c.args.end c.args.pair.now c.args.raw.now) OfTextBySlot class (λ e. absurd (let z = e in cc)) c.args.operands.now.items in
    is)

pub returns-then-names_file-clause-speaks : goal.returns-then-names_file-clause-speaks
returns-then-names_file-clause-speaks c = λ q index v others asks. (
    let class = is_class (stored c.args.at c.args.end c.args.pair.now c.args.raw.now) c.class_of.result OfConstant c.class_of.ensures c.in-Constant.is in
    let is = none_spoken q (stored c.args.at c.args.end c.args.pair.now c.args.raw.now) OfConstant class (λ e. absurd (let z = e in cc)) c.args.operands.now.items in
    on_ok c.copied_file.result is)

pub returns-else-names_file-clause-speaks : goal.returns-else-names_file-clause-speaks
returns-else-names_file-clause-speaks c = λ q index v others asks. (
    let class = is_class (stored c.args.at c.args.end c.args.pair.now c.args.raw.now) c.class_of.result OfConstant c.class_of.ensures c.in-Constant.is in
    let is = none_spoken q (stored c.args.at c.args.end c.args.pair.now c.args.raw.now) OfConstant class (λ e. absurd (let z = e in cc)) c.args.operands.now.items in
    is)

pub returns-in-Offset-clause-speaks : goal.returns-in-Offset-clause-speaks
returns-in-Offset-clause-speaks c = λ q index v others asks. (
    let class = is_class (stored c.args.at c.args.end c.args.pair.now c.args.raw.now) c.class_of.result OfOffset c.class_of.ensures c.in-Offset.is in
    let is = none_spoken q (stored c.args.at c.args.end c.args.pair.now c.args.raw.now) OfOffset class (λ e. absurd (let z = e in cc)) c.args.operands.now.items in
    on_ok c.copied_offset.result is)

pub returns-in-ListIndex-clause-speaks : goal.returns-in-ListIndex-clause-speaks
returns-in-ListIndex-clause-speaks c = λ q index v others asks. (
    let class = is_class (stored c.args.at c.args.end c.args.pair.now c.args.raw.now) c.class_of.result OfListIndex c.class_of.ensures c.in-ListIndex.is in
    let is = none_spoken q (stored c.args.at c.args.end c.args.pair.now c.args.raw.now) OfListIndex class (λ e. absurd (let z = e in cc)) c.args.operands.now.items in
    on_ok c.copied_list.result is)

pub returns-in-Expression-clause-speaks : goal.returns-in-Expression-clause-speaks
returns-in-Expression-clause-speaks c = λ q index v others asks. (
    let class = is_class (stored c.args.at c.args.end c.args.pair.now c.args.raw.now) c.class_of.result OfExpression c.class_of.ensures c.in-Expression.is in
    c.copied_expression.ensures.speaks q index c.args.at v others class asks)

pub returns-in_default-clause-speaks : goal.returns-in_default-clause-speaks
returns-in_default-clause-speaks c = λ q index v others asks.
    none_spoken q (stored c.args.at c.args.end c.args.pair.now c.args.raw.now) c.class_of.result (sym c.class_of.ensures) c.in_default.not-Expression c.args.operands.now.items
