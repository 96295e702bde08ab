use Rattle.std.proofs.Common.{◌≡◌, ◌+◌, ◌*◌, ℕ, arith, length, subst}
use Rattle.std.specs.Prelude.{IfOk}
use Rattle.dwz_def_tops.specs.Spots.{units_of}
use Rattle.dwz_graph.specs.Files.{docs_of}
use Rattle.dwz_label.specs.Stretches.{before}
use Rattle.dwz_label_files.specs.Marked.{IsStretch}
use Rattle.dwz_label_files.proofs.marked.nth_stretch.Goals as goal

pub stretch_of-requires-clause-within : goal.stretch_of-requires-clause-within
stretch_of-requires-clause-within c =
    let first = c.begin-first.ensures in
    let end = c.begin-end.ensures in
    let next : (c.args.number + 1) * c.args.len ≡ c.args.number * c.args.len + c.args.len = omega arith in
    (omega arith, omega arith)

pub returns : goal.returns
returns c =
    let units = units_of (docs_of c.args.run.now.graph.now.given) in
    let movable = c.args.movable.now in
    let len = c.args.len in
    let number = c.args.number in
    let first : c.begin-first.result ≡ before (length movable) len number = c.begin-first.ensures in
    let end : c.begin-end.result ≡ before (length movable) len (number + 1) = c.begin-end.ensures in
    subst (λ (n : ℕ). IfOk c.stretch_of.result (IsStretch units movable (before (length movable) len number) n)) end
    (subst (λ (n : ℕ). IfOk c.stretch_of.result (IsStretch units movable n c.begin-end.result)) first c.stretch_of.ensures)
