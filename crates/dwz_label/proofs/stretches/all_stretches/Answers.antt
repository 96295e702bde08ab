use Rattle.std.proofs.Common.{◌≡◌, ℕ, ◌+◌, ◌-◌, ◌<◌, ◌≤◌, List, length, sym, ap, subst, ◌∙◌, arith}
use Rattle.std.specs.Prelude.{slice_index_or}
use Rattle.std.specs.Global.{Vec}
use Rattle.std.specs.List.{AllZip, range_with_len}
use Rattle.std.proofs.lemmas.List.FromFn.{length-range_with_len}
use Rattle.std.proofs.lemmas.Slice.Zip.{AllZip-long}
use Rattle.std.proofs.Crossing.{crosses}
use denote.Param.Send.{sendable}
use Rattle.rayon.specs.Numbers.{nat_range}
use Rattle.rayon.proofs.ListFacts.{IfOk-then}
use Rattle.rayon.proofs.ToStd.{nat_range-All}
use Rattle.dwz_label.specs.Stretches.{AreStretchesOf}
use Rattle.dwz_label.proofs.Wholes.{collected_each, numbered_each}
use Rattle.dwz_label.proofs.stretches.all_stretches.Goals as goal

pub collect-requires-clause-ready : goal.collect-requires-clause-ready
collect-requires-clause-ready g c κs within =
    let ends = c.into_par_iter.ensures in
    let few = c.requires.workers in
    let inside = nat_range-All (λ i. (c.args.count ≤ g.W.LabelWriter.count c.args.writer.now) × (i < c.args.workers) × (c.args.workers ≤ 64)) 0 c.args.workers
    (λ i low high. (c.requires.within, high, few)) in
    rw (c.map.ensures.base, c.map.ensures.f, c.with_min_len.ensures.base, ends.0, ends.1) (λ k d lt. ((inside k d lt, (search (sendable, crosses) depth 40, search (sendable, crosses) depth 40)), λ y p. tt))

pub returns-clause-many : goal.returns-clause-many
returns-clause-many g c =
    let f = c.map.result.f in
    let chain = c.in_ok-parts.ensures in
    let ends = c.into_par_iter.ensures in
    let workers = c.args.workers in
    let start = ap (λ b. b.base.start) c.map.ensures.base ∙ ap (λ b. b.start) c.with_min_len.ensures.base ∙ ends.0 in
    let end = ap (λ b. b.base.end) c.map.ensures.base ∙ ap (λ b. b.end) c.with_min_len.ensures.base ∙ ends.1 in
    let whole : workers - 0 ≡ workers = omega arith in
    let places = chain.1.1 ∙ (λ i. nat_range (start i) (end i)) ∙ ap (range_with_len 0) whole in
    let Own : ℕ → Vec (List (List ℕ)) → Type 0 = λ worker parts. AreStretchesOf (g.W.LabelWriter.label f.1.now) f.2.now f.3.now f.4.now worker parts.items in
    IfOk-then c.in_ok-parts.parts _ _ (collected_each (λ v. v.items) Own chain.1.0 c.in_ok-parts.parts chain.0 chain.1.2 chain.2)
    (λ v all. AllZip-long Own chain.1.0 v.items all ∙ ap (λ xs. length xs) places ∙ length-range_with_len 0 workers)

pub returns-clause-each : goal.returns-clause-each
returns-clause-each g c =
    let f = c.map.result.f in
    let chain = c.in_ok-parts.ensures in
    let ends = c.into_par_iter.ensures in
    let workers = c.args.workers in
    let start = ap (λ b. b.base.start) c.map.ensures.base ∙ ap (λ b. b.start) c.with_min_len.ensures.base ∙ ends.0 in
    let end = ap (λ b. b.base.end) c.map.ensures.base ∙ ap (λ b. b.end) c.with_min_len.ensures.base ∙ ends.1 in
    let whole : workers - 0 ≡ workers = omega arith in
    let places = chain.1.1 ∙ (λ i. nat_range (start i) (end i)) ∙ ap (range_with_len 0) whole in
    let Own : ℕ → Vec (List (List ℕ)) → Type 0 = λ worker parts. AreStretchesOf (g.W.LabelWriter.label f.1.now) f.2.now f.3.now f.4.now worker parts.items in
    IfOk-then c.in_ok-parts.parts _ _ (collected_each (λ v. v.items) Own chain.1.0 c.in_ok-parts.parts chain.0 chain.1.2 chain.2)
    (λ v all worker d low.
    let long = AllZip-long Own chain.1.0 v.items all ∙ ap (λ xs. length xs) places ∙ length-range_with_len 0 workers in
    let here : 0 + worker ≡ worker = omega arith in
    let own = numbered_each Own 0 workers v.items (subst (λ xs. AllZip Own xs v.items) places all) worker d (subst (λ n. worker < n) long low) in
    let mine = subst (λ q. AreStretchesOf (g.W.LabelWriter.label q.1.now) q.2.now q.3.now q.4.now (0 + worker) (slice_index_or v.items worker d).items) c.map.ensures.f own in
    subst (λ n. AreStretchesOf (g.W.LabelWriter.label c.args.writer.now) c.args.count c.args.len n worker (slice_index_or v.items worker d).items) (sym long)
    (subst (λ n. AreStretchesOf (g.W.LabelWriter.label c.args.writer.now) c.args.count c.args.len workers n (slice_index_or v.items worker d).items) here mine))
