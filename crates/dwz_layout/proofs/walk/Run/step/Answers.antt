use Rattle.std.proofs.Common.{sym, ◌∙◌}
use Rattle.dwz_layout.proofs.WalkLemmas.{run_ends, run_next, run_past}
use Rattle.dwz_layout.proofs.walk.Run.step.Goals as goal

pub returns-then-self : goal.returns-then-self
returns-then-self c =
    let r = c.args.self.now in
    let none = run_ends c.args.known.now r.file r.depth r.base r.next r.end c.if-self.true in
    (none, none)

pub returns-in_err-entry : goal.returns-in_err-entry
returns-in_err-entry c =
    let r = c.args.self.now in
    let none = run_past c.args.known.now r.file r.depth r.base r.next r.end (sym c.in_err-entry.was ∙ c.entry.ensures.entry) in
    rw c.from_residual.ensures (none, none)

pub returns : goal.returns
returns c =
    let r = c.args.self.now in
    run_next c.args.known.now r.file r.depth r.base r.next r.end c.in_ok-entry.entry c.saturating_sub.result c.if-self.false c.in_ok-entry.ensures.entry c.saturating_sub.ensures
