use Rattle.std.proofs.Common.{sym, subst}
use Rattle.dwz_model.specs.declared.fault.GraphErr.{GraphErr}
use Rattle.dwz_def_reading.specs.Faults.{Fails}
use Rattle.dwz_def_reading.specs.Files.{Limits, file_meaning_by, no_files_before, refused_in}
use Rattle.dwz_graph.specs.ByRule.{IsReadBy, common_rule}
use Rattle.dwz_graph.specs.Files.{FilesFail, limits_view}
use Rattle.dwz_unit.specs.declared.mode.FileKind.TheVariants.{Common}
use Rattle.dwz_unit.specs.Rows.{units_of}
use Rattle.dwz_graph.proofs.FilesBy.{refused_fails}
use Rattle.dwz_graph.proofs.KeptLemmas.{short_bytes}
use Rattle.dwz_graph.proofs.common_file.CommonFile.read.Goals as goal

pub sum_of-requires : goal.sum_of-requires
sum_of-requires c =
    let f = c.in-Ok.file in
    let r : IsReadBy common_rule Common (limits_view c.all_left.result) c.args.number c.args.bytes.now f = c.in-Ok.ensures in
    record { elf = r.elf; short = short_bytes (limits_view c.all_left.result) c.args.bytes.now (units_of f.units) r.doc r.means }

pub invariant_of-result : goal.invariant_of-result
invariant_of-result c = record {
  read = subst (λ (l : Limits). IsReadBy common_rule Common l c.args.number c.args.bytes.now c.in-Ok.file) c.all_left.ensures c.in-Ok.ensures;
  checksum_is = c.sum_of.ensures;
}

pub returns-in-Err : goal.returns-in-Err
returns-in-Err c =
    let meaning = file_meaning_by common_rule no_files_before c.args.bytes.now in
    subst (λ (e : GraphErr). FilesFail e (refused_in c.args.number meaning)) (sym c.in_file.ensures)
    (refused_fails c.in-Err.error c.args.number meaning (subst (λ (l : Limits). Fails c.in-Err.error (file_meaning_by common_rule l c.args.bytes.now)) c.all_left.ensures c.in-Err.ensures))
