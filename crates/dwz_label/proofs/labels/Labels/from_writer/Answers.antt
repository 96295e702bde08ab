use Rattle.std.proofs.Common.{◌≡◌, ℕ, ◌+◌, ◌-◌, List, length, map, sym, ap, subst, ◌∙◌, arith}
use Rattle.std.specs.List.{range_with_len}
use Rattle.std.proofs.lemmas.List.FromFn.{map-range_with_len_more}
use Rattle.dwz_groups.proofs.PartLemmas.{Parted, parted-more}
use Rattle.dwz_label.proofs.labels.Labels.from_writer.Goals as goal

pub loop-n-preserved : goal.loop-n-preserved
loop-n-preserved g c =
    let label : ℕ → List ℕ = g.W.LabelWriter.label c.args.writer.now in
    let first : ℕ = c.args.first in
    let n : ℕ = c.loop-n.n in
    let low = c.loop-n.auto.n in
    let len : c.len.result ≡ length c.put_label.new.out.items = (let e = c.len.ensures in let s = c.put_label.new.out.ok.0 in omega arith) in
    let step : n + 1 - first ≡ n - first + 1 = omega arith in
    let more = map-range_with_len_more label first (n - first) n (omega arith) in
    subst (λ (ls : List (List ℕ)). Parted ls c.push.new.self.items c.put_label.new.out.items) (sym (ap (λ (k : ℕ). map label (range_with_len first k)) step ∙ more))
    (parted-more (map label (range_with_len first (n - first))) c.loop-n.ends.items c.loop-n.bytes.items c.push.new.self.items c.put_label.new.out.items
    (label n) c.len.result c.in_ok-put_label.ensures len c.in_ok-push.ensures.items c.loop-n.invariant)
