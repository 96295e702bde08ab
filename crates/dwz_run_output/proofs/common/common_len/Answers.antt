use Rattle.std.proofs.Common.{refl, arith}
use Rattle.dwz_run_output.proofs.CommonRoom.{AreRooms, length_is}
use Rattle.dwz_run_output.proofs.common.common_len.Goals as goal

pub returns : goal.returns
returns c =
    let s = c.args.sections.now in
    let rooms : AreRooms s c.room-info.result c.room-abbrev.result c.room_if-strs.result c.room_if-offsets.result c.room_if-line.result c.room_if-loclists.result
    c.room_if-aranges.result c.room-sup.result = record {
      info_is = omega arith;
      abbrevs_is = omega arith;
      strs_is = c.room_if-strs.ensures.is;
      offsets_is = c.room_if-offsets.ensures.is;
      line_is = c.room_if-line.ensures.is;
      lists_is = c.room_if-loclists.ensures.is;
      ranges_is = c.room_if-aranges.ensures.is;
      sup_is = c.room-sup.ensures.is;
    } in
    length_is s c.room-info.result c.room-abbrev.result c.room_if-strs.result c.room_if-offsets.result c.room_if-line.result c.room_if-loclists.result
    c.room_if-aranges.result c.room-sup.result _ c.next_multiple_of.result rooms refl c.next_multiple_of.ensures.value
