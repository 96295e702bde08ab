use Rattle.std.proofs.Common.{◌≡◌, ℕ, ◌<◌, get_or, [], ◌∷◌, ◌++◌, List, Bool, length, ap, sym, subst, ◌∙◌, arith, length-append}
use Rattle.std.proofs.lemmas.List.{take_all}
use Rattle.dwz_nodes.specs.Keys.{key_at}
use Rattle.dwz_nodes.specs.Order.{nodes_of, keys_of, IsNewAt}
use Rattle.dwz_nodes.specs.declared.order.Keyed.{Keyed}
use Rattle.dwz_nodes.proofs.Ordering.{is-new-more, no_row, nodes-more}
use Rattle.dwz_nodes.proofs.order.mark_groups.Goals as goal

pub loop-at-preserved : goal.loop-at-preserved
loop-at-preserved c =
    let rows : List Keyed = c.args.rows.now in
    let i = c.loop-at.invariant in
    let at : ℕ = c.loop-at.at in
    let l : at < length rows = c.loop-at-test.true in
    let news : c.push-in-loop-at.new.self.items ≡ c.loop-at.news.items ++ c.is_new.result ∷ [] = c.in_ok-push-2.ensures.items in
    record {
      len = ap (λ (b : List Bool). length b) news ∙ let e = i.len in omega (arith, length-append c.loop-at.news.items (c.is_new.result ∷ []));
      nodes = c.in_ok-push.ensures.items ∙ (ap (λ (x : List ℕ). x ++ (get_or rows at no_row).node ∷ []) i.nodes ∙ sym (nodes-more rows at l));
      each = λ k m. subst (λ (b : List Bool). IsNewAt (λ j. key_at (keys_of rows) j) b k) (sym news)
          (is-new-more (λ j. key_at (keys_of rows) j) c.loop-at.news.items at c.is_new.result i.len i.each c.is_new.ensures k m);
    }

pub returns : goal.returns
returns c =
    let rows : List Keyed = c.args.rows.now in
    let t = c.loop-at-test.false in
    let e = c.loop-at.auto.at-end in
    let i = c.loop-at.invariant in
    record {
      together = c.requires;
      nodes_are = i.nodes ∙ ap nodes_of (take_all c.loop-at.at rows t);
      len = let l = i.len in omega arith;
      each = λ k l. i.each k (omega arith);
    }
