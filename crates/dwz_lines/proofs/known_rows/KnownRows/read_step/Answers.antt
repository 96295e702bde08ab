use Rattle.std.proofs.Common.{◌≡◌, ◌+◌, sym, ap, ◌∙◌, arith}
use Rattle.dwz_bytes.specs.Input.{Input}
use Rattle.dwz_lines.specs.RowViews.{item_of, row_view, strings_view}
use Rattle.dwz_lines.specs.Views.{format_views}
use Rattle.dwz_lines.proofs.LocalLemmas.{row_local, spans_one}
use Rattle.dwz_lines.proofs.known_rows.KnownRows.read_step.Goals as goal

pub returns : goal.returns
returns c =
    let reader = c.args.self.now.reader in
    let item = item_of reader in
    let sub = c.in_ok-checked_sub.ensures in
    let end : c.next.new.cursor.at ≡ c.args.place + c.in_ok-bytes.bytes = omega (arith, c.at.ensures, sub.0, sub.1, c.in_ok-bytes.ensures) in
    spans_one item c.args.self.now.line.now c.args.place c.in_ok-bytes.bytes (row_view c.in_ok-_row._row) c.next.new.cursor
    (row_local (strings_view reader.strings) reader.dirs (format_views reader.formats.items)) (ap (λ (i : Input). item i) (sym c.new-cursor.ensures) ∙ c.in_ok-_row.ensures) end
