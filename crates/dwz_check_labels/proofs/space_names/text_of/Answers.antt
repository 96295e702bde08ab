use Rattle.std.proofs.Common.{ap, ◌∙◌}
use Rattle.dwz_def_reading.specs.Texts.{slot, text_at}
use Rattle.dwz_unit.specs.Rows.{attr_view}
use Rattle.dwz_check_labels.proofs.SpaceTexts.{stands_by_slot, stands_in_common, stands_in_line_str, stands_in_str}
use Rattle.dwz_check_labels.proofs.space_names.text_of.Goals as goal

pub returns-in-TextInStr : goal.returns-in-TextInStr
returns-in-TextInStr c = λ s v text own means is. (
    c.text_in.ensures
    ∙ ap (text_at c.args.file.now.sections.now.strs.bytes.now) c.offset_of-offset.ensures.value
    ∙ stands_in_str c.args.file.now c.args.base s own (attr_view c.args.attr.now) v text means is c.in-TextInStr.ensures)

pub returns-in-TextInLineStr : goal.returns-in-TextInLineStr
returns-in-TextInLineStr c = λ s v text own means is. (
    c.text_in-in-TextInLineStr.ensures
    ∙ ap (text_at c.args.file.now.sections.now.line_strs.bytes.now) c.offset_of-offset.ensures.value
    ∙ stands_in_line_str c.args.file.now c.args.base s own (attr_view c.args.attr.now) v text means is c.in-TextInLineStr.ensures)

pub returns-in-CommonText : goal.returns-in-CommonText
returns-in-CommonText c = λ s v text own means is. (
    c.text_in-in-CommonText.ensures
    ∙ ap (text_at c.args.file.now.common_strs.now) c.offset_of-offset.ensures.value
    ∙ stands_in_common c.args.file.now c.args.base s own (attr_view c.args.attr.now) v text means is c.in-CommonText.ensures)

pub returns-in-TextBySlot : goal.returns-in-TextBySlot
returns-in-TextBySlot c = λ s v text own means is. (
    let h = stands_by_slot c.args.file.now c.args.base s own (attr_view c.args.attr.now) v text means is c.in-TextBySlot.ensures in
    c.text_by_slot.ensures h.at h.offset text h.base_is (ap (slot c.args.file.now.sections.now.offsets.now h.at) c.offset_of-offset.ensures.value ∙ h.slot_is) h.stands)
