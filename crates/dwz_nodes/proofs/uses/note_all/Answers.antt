use Rattle.std.proofs.Common.{◌≡◌, ℕ, ◌+◌, ◌<◌, ◌≤◌, List, length, get_or, set, ap, sym, subst, arith}
use Rattle.std.specs.Prelude.{slice_index}
use Rattle.dwz_nodes.specs.declared.back.Span.{Span}
use Rattle.dwz_nodes.specs.declared.uses.Use.{Use}
use Rattle.dwz_nodes.specs.Graph.{targets_at}
use Rattle.dwz_nodes.specs.Rooms.{span_at}
use Rattle.dwz_nodes.specs.UseRooms.{AreNoted, grown}
use Rattle.dwz_nodes.proofs.UseFilling.{noted-end, noted-more, noted-place, noted-skip, targets-few}
use Rattle.dwz_nodes.proofs.uses.note_all.Goals as goal
use Rattle.dwz_nodes.proofs.uses.note_all.Goals.{then-target-spans, else-target-spans}

pub overflow_cast-place : goal.overflow_cast-place
overflow_cast-place c =
    let e = ap (λ (xs : List ℕ). length xs) c.targets-targets.ensures in
    omega (arith, e, targets-few c.args.nodes.now c.args.source c.requires.source)

pub note-requires : goal.note-requires
note-requires c =
    let g = c.args.nodes.now in
    let n = c.args.source in
    let j = c.loop-position.position in
    let is : c.targets-targets.result.now ≡ targets_at g n = c.targets-targets.ensures in
    let inside : j < length (targets_at g n) = let t = c.loop-position-test.true in let e = ap length is in omega arith in
    let at : get_or c.targets-targets.result.now j 0 ≡ slice_index (targets_at g n) j = ap (λ l. get_or l j 0) is in
    let node' : slice_index (targets_at g n) j < length g = let t = c.if-target-spans.true in omega (arith, at, c.loop-position.invariant.len) in
    subst (λ (t : ℕ). (span_at c.loop-position.spans t).end < length c.loop-position.row) (sym at)
    (noted-place g n c.requires.source j inside c.loop-position.spans c.loop-position.row c.loop-position.invariant node')

pub loop-position-preserved : goal.loop-position-preserved
loop-position-preserved c =
    let g = c.args.nodes.now in
    let n = c.args.source in
    let j = c.loop-position.position in
    let spans : List Span = c.loop-position.spans in
    let row : List Use = c.loop-position.row in
    let is : c.targets-targets.result.now ≡ targets_at g n = c.targets-targets.ensures in
    let inside : j < length (targets_at g n) = let t = c.loop-position-test.true in let e = ap length is in omega arith in
    let at : get_or c.targets-targets.result.now j 0 ≡ slice_index (targets_at g n) j = ap (λ l. get_or l j 0) is in
    elim c.if-target-spans.branch [
      | then-target-spans w ↦
          let node' : slice_index (targets_at g n) j < length g = let t = w.if-target-spans.true in omega (arith, at, c.loop-position.invariant.len) in
          rw (w.spans-is, w.row-is, w.note.ensures.span, w.note.ensures.row)
          (subst (λ (t : ℕ). AreNoted g n (j + 1) (set spans t (grown (span_at spans t))) (set row (span_at spans t).end (record { source = n; position = j }))) (sym at)
          (noted-more g n c.requires.source j inside spans row c.loop-position.invariant node'))
      | else-target-spans w ↦
          rw (w.spans-is, w.row-is) (noted-skip g n c.requires.source j inside spans row c.loop-position.invariant
          (let t = w.if-target-spans.false in omega (arith, at, c.loop-position.invariant.len)))
    ]

pub returns : goal.returns
returns c =
    let long : length (targets_at c.args.nodes.now c.args.source) ≤ c.loop-position.position = let t = c.loop-position-test.false in let e = ap length c.targets-targets.ensures in omega arith in
    noted-end c.args.nodes.now c.args.source c.requires.source c.loop-position.position c.loop-position.spans c.loop-position.row long c.loop-position.invariant
