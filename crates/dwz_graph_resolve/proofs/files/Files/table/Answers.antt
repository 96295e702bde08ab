use Rattle.std.proofs.Common.{ℕ, length, List, Option, Some, cond, nat_eq, sym, ap, subst, ◌∙◌}
use Rattle.dwz_def_reading.specs.LineTables.{FileTable, file_table_at}
use Rattle.dwz_lines.specs.Sections.{LineSource}
use Rattle.dwz_graph_resolve.specs.declared.files.Files.{Files}
use Rattle.dwz_graph_resolve.specs.FileRows.{IsLine}
use Rattle.dwz_graph_resolve.specs.Resolved.{sources_view}
use Rattle.dwz_graph_resolve.specs.TablePlaces.{number_in}
use Rattle.dwz_graph_resolve.proofs.FileSteps.{know_more}
use Rattle.dwz_graph_resolve.proofs.files.Files.table.Goals as goal

pub returns-clause-finds : goal.returns-clause-finds
returns-clause-finds c = λ know. (
    let sources = sources_view c.args.sections.now in
    let from = c.line_sections-line.ensures (subst (λ (o : Option LineSource). IsLine sources o) (sym c.take-before.ensures.value) know.line) in
    let new : Files = record c.args.self.now { tables = c.push.new.self; rows = c.saturating_sub-self.result; places = c.insert.new.self; line = Some c.read.new.self } in
    let read = ap (λ (l : LineSource). file_table_at l.texts l.line c.args.place) (sym from) ∙ c.in_ok-table.ensures.table in
    know_more sources c.args.self.now new c.in_ok-table.table c.args.place _ know (c.in_ok-table.ensures.same ∙ from) c.in_ok-push.ensures.items
    (ap (λ (w : List FileTable). length w) c.as_slice-number.ensures.value) read
    (λ q. c.in_ok-insert.ensures q ∙ ap (λ (w : List (ℕ × ℕ)). cond (nat_eq c.args.place q) (Some (length c.as_slice-number.result.now)) (number_in w q)) c.find.ensures.same))
