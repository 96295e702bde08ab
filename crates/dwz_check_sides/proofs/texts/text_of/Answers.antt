use Rattle.std.proofs.Common.{ap, ◌∙◌}
use Rattle.dwz_def_reading.specs.Texts.{slot, text_at}
use Rattle.dwz_unit.specs.Rows.{attr_view}
use Rattle.dwz_check_sides.proofs.SpaceTexts.{by_slot, in_line_str, in_str}
use Rattle.dwz_check_sides.proofs.texts.text_of.Goals as goal

pub returns-in-TextInStr : goal.returns-in-TextInStr
returns-in-TextInStr c = λ m v text own means is. (
    c.text_in.ensures
    ∙ ap (text_at c.args.side.now.file.now.sections.strs.bytes.now) c.offset_of-offset.ensures.value
    ∙ in_str c.args.side.now c.args.base m own (attr_view c.args.attr.now) v text means is c.in-TextInStr.ensures)

pub returns-in-TextInLineStr : goal.returns-in-TextInLineStr
returns-in-TextInLineStr c = λ m v text own means is. (
    c.text_in-in-TextInLineStr.ensures
    ∙ ap (text_at c.args.side.now.file.now.sections.line_strs.bytes.now) c.offset_of-offset.ensures.value
    ∙ in_line_str c.args.side.now c.args.base m own (attr_view c.args.attr.now) v text means is c.in-TextInLineStr.ensures)

pub returns-in-TextBySlot : goal.returns-in-TextBySlot
returns-in-TextBySlot c = λ m v text own means is. (
    let h = by_slot c.args.side.now c.args.base m own (attr_view c.args.attr.now) v text means is c.in-TextBySlot.ensures in
    c.text_by_slot.ensures h.at h.offset text h.base_is (ap (slot c.args.side.now.file.now.sections.offsets.now h.at) c.offset_of-offset.ensures.value ∙ h.slot_is) h.stands)
