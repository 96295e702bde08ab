use Rattle.std.proofs.Common.{Ok, Err}
use Rattle.std.proofs.lemmas.List.Sorted.{searched}
use Rattle.dwz_strs.proofs.MovedLemmas.{rising}
use Rattle.dwz_encode_sections.proofs.RangeSetLemmas.{found_beside, none_beside}
use Rattle.dwz_encode_sections.proofs.range_sets.place_of.Goals as goal

pub returns-in-Ok : goal.returns-in-Ok
returns-in-Ok c =
    let s = searched c.args.starts.now c.args.unit (Ok c.in-Ok.i) c.in-Ok.ensures.position (rising c.args.starts.now c.requires.rises) in
    found_beside c.args.starts.now c.args.places.now c.in-Ok.i c.args.unit c.requires.rises s.0 s.1

pub returns-in-Err : goal.returns-in-Err
returns-in-Err c =
    let s = searched c.args.starts.now c.args.unit (Err c.in-Err.field-0) c.in-Err.ensures.position (rising c.args.starts.now c.requires.rises) in
    none_beside c.args.starts.now c.args.places.now c.in-Err.field-0 c.args.unit s.1 s.2
