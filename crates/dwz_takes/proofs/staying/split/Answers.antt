use Rattle.std.proofs.Common.{◌≡◌, ◌+◌, ◌<◌, ◌&&◌, false, Bool, List, length, get_or, sym, ap, subst, ◌∙◌, arith}
use Rattle.dwz_model.proofs.ListFacts.{in_at}
use Rattle.dwz_takes.proofs.BlockFacts.{AreSplitTo, split_one}
use Rattle.dwz_takes.proofs.staying.split.Goals as goal

pub is_in_both-requires-clause-some : goal.is_in_both-requires-clause-some
is_in_both-requires-clause-some c =
    let l : c.loop-number.number-index < length c.args.kin.now = omega arith in
    let low = c.requires.kin (get_or c.args.kin.now c.loop-number.number-index 0) (in_at c.args.kin.now c.loop-number.number-index l) in
    let some = c.in_ok-some.ensures in
    let len = some.len in
    let same = ap (λ (bs : List Bool). length bs) c.as_slice.ensures.value in
    omega arith

pub is_in_both-requires-clause-others : goal.is_in_both-requires-clause-others
is_in_both-requires-clause-others c =
    let l : c.loop-number.number-index < length c.args.kin.now = omega arith in
    let low = c.requires.kin (get_or c.args.kin.now c.loop-number.number-index 0) (in_at c.args.kin.now c.loop-number.number-index l) in
    let others = c.in_ok-others.ensures in
    let len = others.len in
    let same = ap (λ (bs : List Bool). length bs) c.as_slice-in-loop-number.ensures.value in
    omega arith

pub loop-number-preserved : goal.loop-number-preserved
loop-number-preserved c =
    let l : c.loop-number.number-index < length c.args.kin.now = omega arith in
    let k = get_or c.args.kin.now c.loop-number.number-index 0 in
    let told : c.is_in_both.result ≡ (get_or c.in_ok-some.some.items k false && get_or c.in_ok-others.others.items k false) = c.is_in_both.ensures
    ∙ (λ j. get_or (c.as_slice.ensures.value j) k false && get_or (c.as_slice-in-loop-number.ensures.value j) k false) in
    subst (λ (bs : List Bool). AreSplitTo c.args.kin.now c.args.images.now (c.loop-number.number-index + 1) bs) (sym c.in_ok-push.ensures.items)
    (split_one c.args.kin.now c.args.images.now c.loop-number.number-index c.loop-number.split.items c.in_ok-some.some.items c.in_ok-others.others.items c.is_in_both.result l told c.in_ok-some.ensures
    c.in_ok-others.ensures c.loop-number.invariant)
