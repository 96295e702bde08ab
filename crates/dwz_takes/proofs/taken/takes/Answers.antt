use Rattle.std.proofs.Common.{◌≡◌, ℕ, ◌+◌, List, length, get_or, [], sym, subst, arith}
use Rattle.dwz_takes.specs.Takes.{AreTaken, AreTakes}
use Rattle.dwz_takes.proofs.TakenFacts.{takes_by}
use Rattle.dwz_takes.proofs.taken.takes.Goals as goal

pub returns : goal.returns
returns c =
    let long = c.in_ok-lists.ensures.len in
    let count = c.len.ensures in
    let len : length c.in_ok-lists.lists.items ≡ length c.args.rows.now.unit_tops = omega arith in
    subst (λ (xs : List (List ℕ)). AreTakes c.args.rows.now xs) (sym c.new.ensures)
    (takes_by c.args.rows.now c.in_ok-lists.lists.items len (λ i l.
    let e : 0 + i ≡ i = omega arith in
    subst (λ (n : ℕ). AreTaken c.args.rows.now n (get_or c.in_ok-lists.lists.items i [])) e (c.in_ok-lists.ensures.each i (omega arith))))
