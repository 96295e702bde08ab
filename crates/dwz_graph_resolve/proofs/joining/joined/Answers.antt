use Rattle.std.proofs.Common.{ℕ, ◌+◌, List, ◌++◌, Option, length, map, refl, ap, ◌∙◌}
use Rattle.std.specs.Option.{option_map}
use Rattle.dwz_graph_resolve.proofs.StretchLemmas.{stretches_both}
use Rattle.dwz_graph_resolve.proofs.joining.joined.Goals as goal

pub returns : goal.returns
returns c = λ s raw file f g. (
    let front = c.args.front in
    let refs = c.in_ok-join_refs.ensures.starts c.if-not-branch.false in
    stretches_both s raw file front c.args.next _ c.if-front-next.false refl refl
    (record {
      ends = refs.0;
      last = refs.1;
      all = c.in_ok-join_refs.ensures.refs c.if-not-branch.false;
      begin = refs.2 ∙ ap (λ (w : List ℕ). refs.0 ++ map (λ k. length front.refs.items + k) w) c.deref.ensures.value;
    })
    (c.in_ok-join_lines.ensures.tables c.if-not-branch-2.false)
    (c.in_ok-join_lines.ensures.lines c.if-not-branch-2.false
    ∙ ap (λ (w : List (Option ℕ)). front.lines.items ++ map (option_map (λ k. length front.tables.items + k)) w) c.deref-2.ensures.value)
    (c.in_ok-join_lists.ensures c.if-not-branch-3.false) f g)
