use Rattle.std.proofs.Common.{◌+◌, sym, ap, subst, ◌∙◌}
use Rattle.dwz_check_index.specs.declared.index.CrossStarts.{CrossStarts}
use Rattle.dwz_check_index.specs.Index.{IsCrossIndex}
use Rattle.dwz_check_index.proofs.BothLemmas.{both_are}
use Rattle.dwz_check_index.proofs.both.CrossIndexes.read.Goals as goal

pub returns : goal.returns
returns c = λ around others beside a b d of_old of_new of_common. (
    let old = c.in_ok-old.old in
    let new = c.in_ok-new.new in
    let common = c.in_ok-common.common in
    let n = c.top_count-2.result in
    let m = c.top_count-3.result in
    both_are a b d
    (record {
      old = old;
      new = new;
      common = common;
      old_lone = n + m + c.common_tops.result;
      new_lone = n + m + c.common_tops.result + c.lone_count.result;
    })
    n m
    (subst (λ (s : CrossStarts). IsCrossIndex s a old) c.from_top.ensures (c.in_ok-old.ensures.names around a of_old))
    c.top_count-2.ensures
    (subst (λ (s : CrossStarts). IsCrossIndex s b new) (c.from_top-2.ensures ∙ ap (λ k. record { top = k; lone = 0 }) (c.top_count.ensures ∙ sym c.top_count-2.ensures))
    (c.in_ok-new.ensures.names others b of_new))
    c.top_count-3.ensures
    (c.in_ok-common.ensures.names beside d of_common)
    (ap (λ k. n + m + k) c.common_tops.ensures)
    (λ j. n + m + c.common_tops.ensures j + c.lone_count.ensures j))
