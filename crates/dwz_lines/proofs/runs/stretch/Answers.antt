use Rattle.std.proofs.Common.{◌≡◌, ◌+◌, ◌-◌, ℕ, subst, ◌∙◌, ap, arith}
use Rattle.dwz_lines.specs.Known.{Spans}
use Rattle.dwz_lines.specs.RowViews.{item_of}
use Rattle.dwz_lines.proofs.LocalLemmas.{further_part, further_skips}
use Rattle.dwz_lines.proofs.runs.stretch.Goals as goal

pub returns-clause-skips : goal.returns-clause-skips
returns-clause-skips c =
    let known = c.args.known.now in
    let item = item_of known.reader in
    let walked = c.walk-walked.result in
    let i = c.args.cursor.now in
    let place : c.in_ok-place.place ≡ c.args.start + i.at = c.in_ok-place.ensures.1 ∙ ap (λ (n : ℕ). c.args.start + n) c.at.ensures in
    let spans = subst (λ (n : ℕ). Spans item known.line.now n (c.args.rows - walked.left) walked.bytes) place c.walk-walked.ensures.walked in
    let all : c.args.rows - walked.left ≡ c.args.rows = omega (arith, c.if-walked-gt0.false) in
    further_skips item known.line.now c.args.start (c.args.rows - walked.left) c.args.rows walked.bytes i c.further.result c.further.ensures c.requires.part spans all

pub returns-clause-part : goal.returns-clause-part
returns-clause-part c = further_part c.args.known.now.line.now c.args.start c.walk-walked.result.bytes c.args.cursor.now c.further.result c.further.ensures c.requires.part
