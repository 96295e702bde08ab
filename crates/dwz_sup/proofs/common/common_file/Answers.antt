use Rattle.dwz_def_reading.specs.PlainFile.{supplementary_sections}
use Rattle.dwz_def_reading.specs.Supplementary.{sup_bytes}
use Rattle.dwz_def_reading.specs.SupplementaryFile.{common_sum}
use Rattle.dwz_sup.proofs.WrittenLemmas.{fits, summed}
use Rattle.std.proofs.Common.{[], true}
use Rattle.dwz_sup.proofs.common.common_file.Goals as goal

pub common_sum-sum-requires : goal.common_sum-sum-requires
common_sum-sum-requires c =
    let s = c.args.sections.now in
    let f = fits c.args.machine c.args.flags (supplementary_sections s (common_sum s)) c.requires in
    summed s (sup_bytes (record { supplementary = true; name = []; sum = common_sum s })) f.contents
