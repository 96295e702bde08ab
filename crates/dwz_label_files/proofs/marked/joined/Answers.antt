use Rattle.std.proofs.Common.{◌≡◌, ◌+◌, ◌*◌, ℕ, List, ap, arith, length, subst}
use Rattle.dwz_def_reading.proofs.ListFacts.{got_index_or, item_got}
use Rattle.dwz_label.specs.Stretches.{before}
use Rattle.dwz_label_files.specs.Marked.{IsStretch}
use Rattle.dwz_label_files.specs.declared.stretch.Stretch.{Stretch}
use Rattle.dwz_label_files.proofs.MarkedLemmas.{from_none}
use Rattle.dwz_label_files.proofs.marked.joined.Goals as goal

pub loop-part-init : goal.loop-part-init
loop-part-init c = λ units movable len are. record {
  len = (let none = ap (λ (w : List (List ℕ)). length w) c.new-2.ensures in let zero_times : 0 * len ≡ 0 = omega arith in omega arith);
  told = λ flags. from_none units c.new.result 0 c.new-2.result c.new-2.ensures;
}

pub loop-part-preserved : goal.loop-part-preserved
loop-part-preserved c = λ units movable len are. (
    let n = c.loop-part.part-index in
    let parts = c.args.parts.now in
    let part = c.part-item.result in
    let got = item_got parts n part (omega arith) c.part-item.is in
    let own = subst (λ (w : Stretch). IsStretch units movable (before (length movable) len n) (before (length movable) len (n + 1)) w) (got_index_or parts n part part got) (are n part (omega arith)) in
    c.in_ok-all.ensures units movable 0 (before (length movable) len n) (before (length movable) len (n + 1)) (c.loop-part.invariant units movable len are) own)

pub returns : goal.returns
returns c = λ units movable len are. subst (λ (n : ℕ). IsStretch units movable 0 (before (length movable) len n) c.loop-part.all) (let end : c.loop-part.part-index ≡ length c.args.parts.now = omega arith in end)
    (c.loop-part.invariant units movable len are)
