use Rattle.std.proofs.Common.{◌≡◌, ◌+◌, ◌-◌, ◌≤◌, arith}
use Rattle.dwz_lines.specs.RowViews.{item_of}
use Rattle.dwz_lines.proofs.LocalLemmas.{spans_step}
use Rattle.dwz_lines.proofs.known_rows.KnownRows.once_more.Goals as goal

pub returns-clause-walked : goal.returns-clause-walked
returns-clause-walked c = λ rows le so_far. (
    let item = item_of c.args.self.now.reader in
    let line = c.args.self.now.line.now in
    let left = c.args.walked.left in
    let step = c.in_ok-step.step in
    let within : step.rows ≤ left = c.in_ok-step.ensures.within in
    let all : rows - (left - step.rows) ≡ rows - left + step.rows = omega (arith, le, within) in
    spans_step item line c.args.place c.in_ok-here.here (rows - left) step.rows c.args.walked.bytes step.bytes _ _ c.in_ok-here.ensures.1 all c.in_ok-bytes.ensures.1 so_far
    (c.in_ok-step.ensures.step item line c.in_ok-here.here c.steps_from.ensures))
