use Rattle.std.proofs.Common.{◌≡◌, ℕ, Global, List, Vec, length, sym, ap, subst, ◌∙◌}
use Rattle.dwz_def_expand.specs.Output.{new_lists}
use Rattle.dwz_def_reading.proofs.CaseFacts.{if_ok}
use Rattle.dwz_graph_resolve.specs.declared.operands.ListOperand.{ListOperand}
use Rattle.dwz_encode_sections.specs.Numbers.{EndIn, with_numbers}
use Rattle.dwz_expand_sections.specs.Lists.{numbers_of, rows_with}
use Rattle.dwz_expand_sections.proofs.ListLemmas.{as_many_kept, kept_end, lists_new}
use Rattle.dwz_expand_sections.proofs.lists.lists_after.Goals as goal

pub lists-requires-clause-as_many : goal.lists-requires-clause-as_many
lists-requires-clause-as_many c =
    ap length (c.as_slice-2.ensures.value ∙ c.in_ok-rows.ensures.numbers) ∙ as_many_kept c.args.operands.now c.args.numbers.now
    ∙ sym (ap (λ (w : List ListOperand). length w) (c.as_slice.ensures.value ∙ c.in_ok-rows.ensures.rows))

pub lists-requires-clause-within : goal.lists-requires-clause-within
lists-requires-clause-within c =
    subst (EndIn (length c.args.section.now)) (sym (c.as_slice.ensures.value ∙ c.in_ok-rows.ensures.rows))
    (kept_end (length c.args.section.now) c.args.operands.now c.args.numbers.now c.requires.within)

pub returns : goal.returns
returns c f has =
    let section = c.args.section.now in
    let operands = c.args.operands.now in
    let numbers = c.args.numbers.now in
    let rows : c.as_slice.result.now ≡ rows_with operands numbers = c.as_slice.ensures.value ∙ c.in_ok-rows.ensures.rows in
    let new : c.as_slice-2.result.now ≡ numbers_of operands numbers = c.as_slice-2.ensures.value ∙ c.in_ok-rows.ensures.numbers in
    if_ok c.lists.result (λ (out : Vec ℕ Global). out.items ≡ with_numbers c.as_slice.result.now c.as_slice-2.result.now section) (λ (out : Vec ℕ Global). out.items ≡ new_lists f)
    (λ (out : Vec ℕ Global) is. lists_new f section operands numbers has c.requires.within out.items (is ∙ (λ j. with_numbers (rows j) (new j) section))) c.lists.ensures
