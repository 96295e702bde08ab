use Rattle.std.proofs.Common.{◌≡◌, ◌⊎◌, inl, inr, ◌+◌, length, refl, sym, ◌∙◌, arith}
use Rattle.dwz_encode.specs.Pages.{units_page}
use Rattle.dwz_encode.specs.declared.stretches.Stretch.{Stretch}
use Rattle.dwz_encode.proofs.StretchLemmas.{stretch_step, stretches_done}
use Rattle.dwz_encode.proofs.stretches.stretches.Goals.{then-loop-left-test+else-not-is_empty, else-loop-left-test}
use Rattle.dwz_encode.proofs.stretches.stretches.Goals as goal

pub loop-left-preserved : goal.loop-left-preserved
loop-left-preserved c = λ k places roots.
    let these = c.split_at.result.0 in
    let these_laid = c.split_at-in-loop-left.result.0 in
    let here = c.loop-left.here in
    let s : Stretch = record { first = here; units = these; laid = these_laid; room = c.room-reserved.result } in
    let same : length these.now ≡ length these_laid.now = c.split_at.ensures.front_len ∙ sym c.split_at-in-loop-left.ensures.front_len in
    let next : c.in_ok-here.here ≡ here + length these.now = omega (arith, c.in_ok-here.ensures, c.split_at.ensures.front_len) in
    stretch_step k places roots c.loop-left.stretches.items c.push.new.self.items s here c.in_ok-here.here
    c.loop-left.left.now c.split_at.result.1.now c.loop-left.left_laid.now c.split_at-in-loop-left.result.1.now
    (units_page k places roots c.args.first c.args.units.now c.args.laid.now)
    c.in_ok-push.ensures.items refl c.split_at.ensures.by_index.0 c.split_at-in-loop-left.ensures.by_index.0 same next
    (c.loop-left.invariant k places roots)

pub returns : goal.returns
returns c = λ k places roots.
    let left = c.loop-left.left.now in
    let laid = c.loop-left.left_laid.now in
    let none : (length left ≡ 0) ⊎ (length laid ≡ 0) = elim c.loop-left-test.branch [
      | then-loop-left-test+else-not-is_empty w ↦ inr (let h = w in grind arith)
      | else-loop-left-test w ↦ inl (let h = w in grind arith)
    ] in
    stretches_done k places roots c.loop-left.stretches.items c.loop-left.here left laid
    (units_page k places roots c.args.first c.args.units.now c.args.laid.now) none (c.loop-left.invariant k places roots)
