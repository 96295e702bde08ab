use Rattle.std.proofs.Common.{◌≡◌, true, ◌∙◌}
use Rattle.std.specs.List.{list_any}
use Rattle.dwz_def_reading.proofs.CaseFacts.{on_ok}
use Rattle.dwz_def_tops.specs.Alike.{is_in, names_in_unit}
use Rattle.dwz_graph.specs.Names.{names_from}
use Rattle.dwz_def_reading.specs.Files.{around_of}
use Rattle.dwz_def_plan.specs.Plan.{pinned_in}
use Rattle.dwz_move.specs.Known.{tops_of_refs}
use Rattle.dwz_move.specs.Marked.{Marks, MarksIf}
use Rattle.dwz_unit.specs.Rows.{units_of}
use Rattle.dwz_graph.specs.Across.{file_units, name_at}
use Rattle.dwz_graph.proofs.FileEntries.{all_entries, names_entries}
use Rattle.dwz_move_files.specs.Lists.{entries_of, uleb_tops}
use Rattle.dwz_move_files.proofs.FileMarks.{units_mean}
use Rattle.dwz_move_files.proofs.FileSteps.{file_any, file_uleb, knows_at, refs_low, rows_low}
use Rattle.dwz_move_files.proofs.marks.mark_file.Goals as goal

pub returns-clause-any : goal.returns-clause-any
returns-clause-any c = λ contents k bytes is. (
    let f = c.args.file.now in
    let x = c.args.index.now in
    let raw = units_of f.units in
    let doc = is.kept.read.doc in
    let name = name_at x.starts doc in
    let names = names_from x.starts.unit x.starts.top doc.units in
    let all = all_entries contents k bytes f x is in
    let each = names_entries contents k bytes f x is in
    let refs = c.as_slice.result.now in
    let r = c.as_slice.ensures.value in
    let rows = c.as_slice-4.result.now in
    let into = c.as_slice-2.ensures.value ∙ c.in_ok-into.ensures raw names name is.index.names all each (refs_low contents k bytes f x is refs r) in
    let knows = knows_at contents k bytes f x is refs c.as_slice-3.result.now c.as_slice-2.result.now r c.as_slice-3.ensures.value into in
    let mid = c.in_ok-mark_units.ensures.any (around_of bytes raw) f.resolved.refs.items name doc.units knows (units_mean contents k bytes f x is) in
    on_ok c.mark_lists.result (Marks (tops_of_refs name raw (entries_of rows)) c.mark_units.new.named.by_any.items c.mark_lists.new.named.by_any.items)
    (MarksIf (λ t. list_any (names_in_unit t) (file_units x.starts k doc) ≡ true) c.args.named.now.by_any.items c.mark_lists.new.named.by_any.items)
    (λ b. file_any contents k bytes f x is rows c.as_slice-4.ensures.value c.args.named.now.by_any.items c.mark_units.new.named.by_any.items c.mark_lists.new.named.by_any.items mid b)
    (c.mark_lists.ensures.any raw names name is.index.names all each (rows_low contents k bytes f x is rows c.as_slice-4.ensures.value)))

pub returns-clause-uleb : goal.returns-clause-uleb
returns-clause-uleb c = λ contents k bytes is. (
    let f = c.args.file.now in
    let x = c.args.index.now in
    let raw = units_of f.units in
    let doc = is.kept.read.doc in
    let name = name_at x.starts doc in
    let names = names_from x.starts.unit x.starts.top doc.units in
    let all = all_entries contents k bytes f x is in
    let each = names_entries contents k bytes f x is in
    let refs = c.as_slice.result.now in
    let r = c.as_slice.ensures.value in
    let rows = c.as_slice-4.result.now in
    let into = c.as_slice-2.ensures.value ∙ c.in_ok-into.ensures raw names name is.index.names all each (refs_low contents k bytes f x is refs r) in
    let knows = knows_at contents k bytes f x is refs c.as_slice-3.result.now c.as_slice-2.result.now r c.as_slice-3.ensures.value into in
    let mid = c.in_ok-mark_units.ensures.uleb (around_of bytes raw) f.resolved.refs.items name doc.units knows (units_mean contents k bytes f x is) in
    on_ok c.mark_lists.result (Marks (uleb_tops rows (tops_of_refs name raw (entries_of rows))) c.mark_units.new.named.by_uleb.items c.mark_lists.new.named.by_uleb.items)
    (MarksIf (λ t. list_any (pinned_in (is_in t)) (file_units x.starts k doc) ≡ true) c.args.named.now.by_uleb.items c.mark_lists.new.named.by_uleb.items)
    (λ b. file_uleb contents k bytes f x is rows c.as_slice-4.ensures.value c.args.named.now.by_uleb.items c.mark_units.new.named.by_uleb.items c.mark_lists.new.named.by_uleb.items mid b)
    (c.mark_lists.ensures.uleb raw names name is.index.names all each (rows_low contents k bytes f x is rows c.as_slice-4.ensures.value)))
