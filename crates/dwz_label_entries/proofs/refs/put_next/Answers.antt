use Rattle.std.proofs.Common.{ℕ, List, ap, drop, length, sym, subst, take, ◌∙◌}
use Rattle.dwz_graph.specs.Rows.{AreTargets}
use Rattle.dwz_label_entries.proofs.RefLemmas.{counted_targets, take_many, take_targets}
use Rattle.dwz_label_entries.proofs.refs.put_next.Goals as goal

pub returns : goal.returns
returns c = λ raw name places k t many. (
    let left = drop c.args.next c.args.refs.now in
    let is = c.part.ensures.part ∙ ap (λ (n : ℕ). take n left) (sym many) in
    counted_targets name places c.args.count c.args.out.now.items c.put_number.new.out.items c.put_targets.new.out.items many c.in_ok-put_number.ensures
    (c.in_ok-put_targets.ensures raw name places k (subst (λ (w : List ℕ). AreTargets raw w places) (sym is) (take_targets raw left places t))
    (take_many raw left places t ∙ ap (λ (w : List ℕ). length w) (sym is))))
