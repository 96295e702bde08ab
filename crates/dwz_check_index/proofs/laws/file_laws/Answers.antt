use Rattle.dwz_def_reading.proofs.FileLemmas.{file_agrees_by}
use Rattle.dwz_def_reading.proofs.MeaningUnits.{units_agree}
use Rattle.dwz_graph.proofs.IndexRoom.{entries_within}
use Rattle.dwz_check_index.proofs.laws.file_laws.Goals as goal

pub returns : goal.returns
returns c rule l bytes raw doc means =
    let reads = ((file_agrees_by rule l bytes).ok (raw, doc)).0 means in
    (entries_within rule l bytes raw doc means, ((units_agree (rule.around bytes raw) raw).ok doc.units).1 reads.means)
