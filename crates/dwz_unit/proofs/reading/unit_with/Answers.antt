use Rattle.std.proofs.Common.{◌≡◌, List, Ok, length, map, subst, sym, ◌∙◌, ℕ}
use Rattle.std.proofs.lemmas.List.{length-map}
use Rattle.std.proofs.lemmas.Result.{err_from_is_err_and}
use Rattle.dwz_unit.proofs.KeepLemmas.{entries_fail, rows_by, unit_kept}
use Rattle.dwz_bytes.specs.Input.{input}
use Rattle.dwz_def_reading.specs.Faults.{Fails}
use Rattle.dwz_def_reading.specs.Units.{unit_at}
use Rattle.dwz_model.specs.declared.place.Pair.{Pair}
use Rattle.dwz_unit.specs.Kept.{known_in}
use Rattle.dwz_unit.specs.Known.{row_view}
use Rattle.dwz_unit.specs.Modes.{mode_view}
use Rattle.dwz_unit.specs.TailViews.{tail_view}
use Rattle.dwz_unit.proofs.reading.unit_with.Goals as goal

pub returns-in_err-append_entries-clause-unit : goal.returns-in_err-append_entries-clause-unit
returns-in_err-append_entries-clause-unit c = λ s read decls. (
    let p = err_from_is_err_and c.from_residual.result c.from_residual.ensures.1 in
    let rows = c.args.entries.now.items in
    let all = c.args.table.joined.now.decls in
    let many : length (map (row_view all) rows) ≡ length rows = length-map rows (row_view all) in
    rw (p.1, p.2) (subst (λ (n : ℕ). Fails c.in_err-append_entries.field-0.0 (unit_at s.section (mode_view c.args.mode) n (input c.args.info.now c.args.at))) many
    (entries_fail c.in_err-append_entries.field-0.0 s.section c.args.info.now c.args.at (mode_view c.args.mode) c.args.number (tail_view c.args.table) (map (row_view all) rows)
    c.args.header c.requires.header read c.in_err-append_entries.ensures.rows)))

pub returns-clause-unit : goal.returns-clause-unit
returns-clause-unit c = λ s read decls. (
    let old = c.args.entries.now.items in
    let new = c.append_entries.new.entries.items in
    let first : c.len-first.result ≡ length (known_in s old) = c.len-first.ensures ∙ c.args.entries.now.ok.0 ∙ sym (length-map old (row_view s.decls)) in
    let rows = subst (λ (d : List (List Pair)). rows_by c.args.header c.args.at (mode_view c.args.mode) c.args.number (tail_view c.args.table) c.args.info.now (map (row_view d) old)
    ≡ Ok (map (row_view d) new)) decls c.in_ok-append_entries.ensures.rows in
    unit_kept c.args.info.now c.args.at (mode_view c.args.mode) c.args.number c.len-first.result s (tail_view c.args.table) (known_in s old) (known_in s new)
    c.args.header c.requires.place first c.requires.header c.requires.fits read rows)
