use Rattle.std.proofs.Common.{◌++◌, List, ℕ, sym, ap, ◌∙◌, arith}
use Rattle.dwz_lines.proofs.PathLemmas.{joined, when_ok}
use Rattle.dwz_lines.proofs.paths.join.Goals as goal

pub returns : goal.returns
returns c =
    when_ok c.extend_from_slice-2.result _ _ _ _ c.extend_from_slice-2.ensures.items
    (ap (λ (w : List ℕ). w ++ c.args.path.now) c.in_ok-push.ensures.items ∙ joined c.args.from c.args.out.now.items c.args.path.now (sym c.if-begins_with_slash.ensures)
    (omega (arith, c.requires, c.args.out.now.ok.0)) (λ e. c.if-len-from.false (omega (arith, e, c.len.ensures, c.args.out.now.ok.0))))
