use Rattle.std.proofs.Common.{refl, sym, ◌∙◌}
use Rattle.dwz_def_reading.specs.Meanings.{stmt_list}
use Rattle.dwz_graph.specs.Resolved.{stored}
use Rattle.dwz_label_entries.proofs.PlainLemmas.{file_means, file_names, numbers}
use Rattle.dwz_label_entries.proofs.plain.put_constant.Goals as goal

pub returns-then-names_file : goal.returns-then-names_file
returns-then-names_file c = λ s at end v operands class line means. (
    let a = stored at end c.args.pair.now c.args.raw.now in
    let name = sym c.names_file.ensures ∙ c.if-names_file.true in
    let file = file_means s a v name means in
    record {
      bytes = c.in_ok-put_file_by.ensures s a v (numbers a name class) refl line file;
      names = file_names s a (stmt_list s) v file;
    })
