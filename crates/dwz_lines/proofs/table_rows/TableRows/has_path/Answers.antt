use Rattle.std.proofs.Common.{sym, ap, ◌∙◌, nat_lt}
use Rattle.std.specs.Option.{is_some}
use Rattle.dwz_def_reading.specs.LineTables.{FileTable, nth_path}
use Rattle.dwz_lines.specs.KeptTables.{table_of}
use Rattle.dwz_lines.proofs.PathLemmas.{path_there}
use Rattle.dwz_lines.proofs.table_rows.TableRows.has_path.Goals as goal

pub returns-in-Rows-clause-path : goal.returns-in-Rows-clause-path
returns-in-Rows-clause-path c =
    ap (nat_lt c.args.index) c.files.ensures.files ∙ path_there c.in-Rows.rows.paths c.args.index
    ∙ ap (λ (t : FileTable). is_some (nth_path t.paths c.args.index)) (sym (ap table_of c.in-Rows.is) ∙ c.self.view_is)

pub returns-in-Marked-clause-path : goal.returns-in-Marked-clause-path
returns-in-Marked-clause-path c =
    ap (nat_lt c.args.index) c.files-in-Marked.ensures ∙ path_there c.in-Marked.table.paths c.args.index
    ∙ ap (λ (t : FileTable). is_some (nth_path t.paths c.args.index)) (sym (ap table_of c.in-Marked.is) ∙ c.self.view_is)
