use Rattle.std.proofs.Common.{◌∙◌, ◌<◌, ◌==◌, ◌++◌, ◌∷◌, [], not, cond, ℕ, Bool, List, length, get_or, sym, arith}
use Rattle.std.proofs.lemmas.List.Elements.{filter_more}
use Rattle.dwz_layout_items.specs.Chains.{names_at}
use Rattle.dwz_layout_items.proofs.chains.split.Goals as goal

pub loop-top-preserved : goal.loop-top-preserved
loop-top-preserved c =
    let tops : List ℕ = c.args.tops.now in
    let i = c.loop-top.top-index in
    let l : i < length tops = omega arith in
    let top : ℕ = get_or tops i 0 in
    let root : ℕ → Bool = λ t. names_at c.args.of_tops.now t == 0 in
    record {
      unspaced = c.in_ok-push_if.ensures ∙ (λ j. c.loop-top.invariant.unspaced j ++ cond (root top) (top ∷ []) []) ∙ sym (filter_more root tops i 0 l);
      spaced = c.in_ok-push_if-2.ensures ∙ (λ j. c.loop-top.invariant.spaced j ++ cond (not (root top)) (top ∷ []) []) ∙ sym (filter_more (λ t. not (root t)) tops i 0 l);
    }
