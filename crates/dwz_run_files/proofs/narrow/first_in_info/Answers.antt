use Rattle.std.proofs.Common.{◌∙◌, arith}
use Rattle.dwz_run_files.proofs.StepsFound.{rows_below, spoken_found}
use Rattle.dwz_run_files.proofs.narrow.first_in_info.Goals as goal

pub index-rows-requires : goal.index-rows-requires
index-rows-requires c =
    let r = c.requires.moved in
    let below = rows_below r.1 c.args.work.now c.args.moved.now r.2 in
    omega (arith, below, c.args.work.now.prepared.now.known.files.ok.0)

pub returns : goal.returns
returns c beside f is begin =
    spoken_found f c.args.work.now c.args.moved.now is c.args.units_at.now begin c.requires.many c.index-rows.result.now
    c.as_slice-places.result.now
    c.as_slice.result.now c.in_ok-targets.targets.items c.as_slice-2.result.now c.first_spoken.result c.index-rows.ensures
    (c.as_slice-places.ensures.value
    ∙ c.spots.ensures.places) c.as_slice.ensures.value c.in_ok-targets.ensures c.as_slice-2.ensures.value c.first_spoken.ensures
