use Rattle.std.proofs.Common.{◌≡◌, ℕ, ◌+◌, ◌-◌, ◌<◌, length, ap, subst, ◌∙◌, arith}
use Rattle.std.specs.Prelude.{slice_index_or}
use Rattle.std.specs.List.{AllZip, range_with_len}
use Rattle.std.proofs.lemmas.List.FromFn.{length-range_with_len}
use Rattle.std.proofs.lemmas.Slice.Zip.{AllZip-long}
use Rattle.rayon.specs.Numbers.{nat_range}
use Rattle.rayon.proofs.ListFacts.{IfOk-then}
use Rattle.rayon.proofs.ToStd.{nat_range-All}
use Rattle.dwz_def_tops.specs.Spots.{tops_of, units_of}
use Rattle.dwz_graph.specs.Files.{docs_of}
use Rattle.dwz_label.specs.Stretches.{before}
use Rattle.dwz_label.proofs.Wholes.{collected_each, numbered_each}
use Rattle.dwz_label_files.specs.Marked.{IsStretch}
use Rattle.dwz_label_files.specs.Run.{AreReady}
use Rattle.dwz_label_files.specs.declared.stretch.Stretch.{Stretch}
use Rattle.dwz_label_files.proofs.marked.stretches.Goals as goal

pub collect-requires-clause-ready : goal.collect-requires-clause-ready
collect-requires-clause-ready g c κs within =
    let ends = c.into_par_iter.ensures in
    let few = c.requires.workers in
    let run = c.args.run.now in
    let movable = c.args.movable.now in
    let inside = nat_range-All (λ i. AreReady run c.args.rows.now × (length movable ≡ length (tops_of (units_of (docs_of run.graph.now.given)))) × (i < 64)) 0 c.args.workers
    (λ i low high. (c.requires.ready, c.requires.movable, (let z : i < 64 = omega arith in z))) in
    rw (c.map.ensures.base, c.map.ensures.f, c.with_min_len.ensures.base, ends.0, ends.1) (λ k d lt. (inside k d lt, λ y p. tt))

pub returns-clause-many : goal.returns-clause-many
returns-clause-many g c =
    let f = c.map.result.f in
    let chain = c.in_ok-parts.ensures in
    let ends = c.into_par_iter.ensures in
    let workers = c.args.workers in
    let start = ap (λ b. b.base.start) c.map.ensures.base ∙ ap (λ b. b.start) c.with_min_len.ensures.base ∙ ends.0 in
    let end = ap (λ b. b.base.end) c.map.ensures.base ∙ ap (λ b. b.end) c.with_min_len.ensures.base ∙ ends.1 in
    let whole : workers - 0 ≡ workers = omega arith in
    let places = chain.1.1 ∙ (λ i. nat_range (start i) (end i)) ∙ ap (range_with_len 0) whole in
    let Own : ℕ → Stretch → Type 0 =
    λ worker part. IsStretch (units_of (docs_of f.0.now.graph.now.given)) f.2.now (before (length f.2.now) f.3.now worker) (before (length f.2.now) f.3.now (worker + 1)) part in
    IfOk-then c.in_ok-parts.parts _ _ (collected_each (λ v. v.items) Own chain.1.0 c.in_ok-parts.parts chain.0 chain.1.2 chain.2)
    (λ v all. AllZip-long Own chain.1.0 v.items all ∙ ap (λ xs. length xs) places ∙ length-range_with_len 0 workers)

pub returns-clause-each : goal.returns-clause-each
returns-clause-each g c =
    let f = c.map.result.f in
    let chain = c.in_ok-parts.ensures in
    let ends = c.into_par_iter.ensures in
    let workers = c.args.workers in
    let start = ap (λ b. b.base.start) c.map.ensures.base ∙ ap (λ b. b.start) c.with_min_len.ensures.base ∙ ends.0 in
    let end = ap (λ b. b.base.end) c.map.ensures.base ∙ ap (λ b. b.end) c.with_min_len.ensures.base ∙ ends.1 in
    let whole : workers - 0 ≡ workers = omega arith in
    let places = chain.1.1 ∙ (λ i. nat_range (start i) (end i)) ∙ ap (range_with_len 0) whole in
    let Own : ℕ → Stretch → Type 0 =
    λ worker part. IsStretch (units_of (docs_of f.0.now.graph.now.given)) f.2.now (before (length f.2.now) f.3.now worker) (before (length f.2.now) f.3.now (worker + 1)) part in
    IfOk-then c.in_ok-parts.parts _ _ (collected_each (λ v. v.items) Own chain.1.0 c.in_ok-parts.parts chain.0 chain.1.2 chain.2)
    (λ v all worker d low.
    let long = AllZip-long Own chain.1.0 v.items all ∙ ap (λ xs. length xs) places ∙ length-range_with_len 0 workers in
    let here : 0 + worker ≡ worker = omega arith in
    let own = numbered_each Own 0 workers v.items (subst (λ xs. AllZip Own xs v.items) places all) worker d (subst (λ n. worker < n) long low) in
    let mine = subst
    (λ q. IsStretch (units_of (docs_of q.0.now.graph.now.given)) q.2.now (before (length q.2.now) q.3.now (0 + worker)) (before (length q.2.now) q.3.now (0 + worker + 1)) (slice_index_or v.items worker d))
    c.map.ensures.f own in
    subst
    (λ n. IsStretch (units_of (docs_of c.args.run.now.graph.now.given)) c.args.movable.now (before (length c.args.movable.now) c.args.len n) (before (length c.args.movable.now) c.args.len (n + 1)) (slice_index_or v.items worker d))
    here mine)
