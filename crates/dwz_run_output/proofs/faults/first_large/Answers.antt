use Rattle.std.proofs.Common.{Some}
use Rattle.dwz_def_output.specs.Changed.{if_new}
use Rattle.dwz_run_output.proofs.SectionFaults.{all_large, large_next, large_same, to_abbrevs, to_line, to_lists, to_offsets, to_strs}
use Rattle.dwz_run_output.proofs.faults.first_large.Goals as goal

pub returns : goal.returns
returns c =
    let s = c.args.sections.now in
    let strs = large_same 3 _ s.strs c.large-3.result c.as_ref.ensures.value c.large-3.ensures in
    let offsets = large_same 5 _ s.offsets c.large-4.result c.as_ref-2.ensures.value c.large-4.ensures in
    let line = large_same 6 _ s.line c.large-5.result c.as_ref-3.ensures.value c.large-5.ensures in
    let lists = large_same 7 _ s.loclists c.large-6.result c.as_ref-4.ensures.value c.large-6.ensures in
    let ranges = large_same 8 _ s.aranges c.large-7.result c.as_ref-5.ensures.value c.large-7.ensures in
    let one = large_next (if_new 1 (Some s.info)) (if_new 2 (Some s.abbrev)) c.large.result c.large-2.result c.or.result c.large.ensures c.large-2.ensures c.or.ensures in
    let two = large_next (to_abbrevs s) (if_new 3 s.strs) c.or.result c.large-3.result c.or-2.result one strs c.or-2.ensures in
    let three = large_next (to_strs s) (if_new 5 s.offsets) c.or-2.result c.large-4.result c.or-3.result two offsets c.or-3.ensures in
    let four = large_next (to_offsets s) (if_new 6 s.line) c.or-3.result c.large-5.result c.or-4.result three line c.or-4.ensures in
    let five = large_next (to_line s) (if_new 7 s.loclists) c.or-4.result c.large-6.result c.or-5.result four lists c.or-5.ensures in
    all_large s c.or-6.result (large_next (to_lists s) (if_new 8 s.aranges) c.or-5.result c.large-7.result c.or-6.result five ranges c.or-6.ensures)
