use Rattle.std.proofs.Common.{◌≡◌, ◌+◌, ℕ, Vec, Global, None, get_or, sym, ap, subst, ◌∙◌}
use Rattle.dwz_graph_resolve.specs.declared.operands.ListOperand.{ListOperand}
use Rattle.dwz_encode_sections.proofs.ListLemmas.{no_operand}
use Rattle.dwz_expand_sections.proofs.ListLemmas.{IsKept, none_unless, kept_more, kept_same, numbers_kept, rows_kept}
use Rattle.dwz_expand_sections.proofs.lists.kept_rows.Goals as goal
use Rattle.dwz_expand_sections.proofs.lists.kept_rows.Goals.{in-Some+in_ok-push+in_ok-push-2, in_default}

pub loop-i-preserved : goal.loop-i-preserved
loop-i-preserved c =
    let operands = c.args.operands.now in
    let numbers = c.args.numbers.now in
    let rows = c.loop-i.rows.items in
    let new = c.loop-i.new.items in
    let i = c.loop-i.i in
    elim c.match-numbers-i.branch [
      | in-Some+in_ok-push+in_ok-push-2 w ↦
          kept_more operands numbers rows new i no_operand c.loop-i-test.true c.requires c.loop-i.invariant w.in-Some.number w.in-Some.is c.match-numbers-i.rows.items c.match-numbers-i.new.items
          (ap (λ (v : Vec ListOperand Global). v.items) w.rows-is ∙ w.in_ok-push.ensures.items) (ap (λ (v : Vec ℕ Global). v.items) w.new-is ∙ w.in_ok-push-2.ensures.items)
      | in_default w ↦
          (let none : get_or numbers i None ≡ None = none_unless (get_or numbers i None) w.in_default.not-Some in
          subst (λ (v : Vec ListOperand Global). IsKept operands numbers v.items c.match-numbers-i.new.items (i + 1)) (sym w.rows-is)
          (subst (λ (v : Vec ℕ Global). IsKept operands numbers rows v.items (i + 1)) (sym w.new-is)
          (kept_same operands numbers rows new i no_operand c.loop-i-test.true c.requires c.loop-i.invariant none)))
    ]

pub returns-clause-rows : goal.returns-clause-rows
returns-clause-rows c = rows_kept c.args.operands.now c.args.numbers.now c.loop-i.rows.items c.loop-i.new.items c.loop-i.i c.loop-i-test.false c.loop-i.invariant

pub returns-clause-numbers : goal.returns-clause-numbers
returns-clause-numbers c = numbers_kept c.args.operands.now c.args.numbers.now c.loop-i.rows.items c.loop-i.new.items c.loop-i.i c.loop-i-test.false c.loop-i.invariant
