use Rattle.std.proofs.Common.{◌≡◌, ◌++◌, ◌∷◌, [], Option, Some, ℕ, true, sym, subst}
use Rattle.dwz_expand_sections.specs.Narrow.{FirstPlace, IsNarrow}
use Rattle.dwz_expand_sections.proofs.NarrowLemmas.{is_first, is_least, keeps_first}
use Rattle.dwz_expand_sections.proofs.narrow.note_operand.Goals as goal

pub returns-else-is_narrow : goal.returns-else-is_narrow
returns-else-is_narrow c noted h =
    let fits : ¬ IsNarrow c.args.operand.now = λ over. (let yes : c.is_narrow.result ≡ true = c.is_narrow.ensures.1 over in let no = c.if-is_narrow.false in cc (yes, no)) in
    keeps_first noted c.args.first c.args.operand.now fits h

pub returns-in-None : goal.returns-in-None
returns-in-None c noted h =
    is_first noted c.args.operand.now (c.is_narrow.ensures.0 c.if-is_narrow.true) (subst (λ (o : Option ℕ). FirstPlace noted o) c.in-None.is h)

pub returns-in-Some : goal.returns-in-Some
returns-in-Some c noted h =
    let operands = noted ++ c.args.operand.now ∷ [] in
    subst (λ (at : ℕ). FirstPlace operands (Some at)) (sym c.min.ensures)
    (is_least noted c.args.operand.now c.in-Some.at (c.is_narrow.ensures.0 c.if-is_narrow.true) (subst (λ (o : Option ℕ). FirstPlace noted o) c.in-Some.is h))
