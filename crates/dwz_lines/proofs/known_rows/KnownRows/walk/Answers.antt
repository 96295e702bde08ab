use Rattle.std.proofs.Common.{◌≡◌, ◌-◌, refl, arith}
use Rattle.dwz_lines.specs.RowViews.{item_of}
use Rattle.dwz_lines.proofs.LocalLemmas.{spans_none, spans_same}
use Rattle.dwz_lines.proofs.known_rows.KnownRows.walk.Goals as goal

pub loop-walked-init : goal.loop-walked-init
loop-walked-init c =
    let item = item_of c.args.self.now.reader in
    let line = c.args.self.now.line.now in
    let none : 0 ≡ c.args.rows - c.args.rows = omega arith in
    record { within = omega arith; walked = spans_same item line c.args.place 0 (c.args.rows - c.args.rows) 0 0 none refl (spans_none item line c.args.place) }
