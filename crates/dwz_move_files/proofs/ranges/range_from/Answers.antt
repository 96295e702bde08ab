use Rattle.std.proofs.Common.{◌≡◌, ◌-◌, length, drop, take, ap, arith}
use Rattle.std.proofs.lemmas.List.{length-drop, take_all}
use Rattle.std.proofs.lemmas.Option.{get_or_from_slice_get}
use Rattle.dwz_graph.specs.declared.index.TopEntry.{TopEntry}
use Rattle.dwz_move_files.proofs.RangeLemmas.{first_here, range_is, run_is}
use Rattle.dwz_move_files.proofs.ranges.range_from.Goals as goal

pub returns : goal.returns
returns c = λ all x h got none. (
    let tops = c.args.tops.now in
    let i = c.args.i in
    let first = c.args.first in
    let run = c.run_length-run.result in
    let part_is : take (length tops - i) (drop i tops) ≡ drop i tops = take_all (length tops - i) (drop i tops) (omega (arith, length-drop i tops)) in
    let unit_is = ap (λ (w : TopEntry). w.unit) (get_or_from_slice_get tops i x (record { entry = 0; unit = 0; inner = 0 }) got) in
    range_is all first tops h i x got run (first_here all first tops h i x got none)
    (run_is all first tops h i x got (take (length tops - i) (drop i tops)) _ run part_is unit_is c.run_length-run.ensures.within c.run_length-run.ensures.same c.run_length-run.ensures.next))
