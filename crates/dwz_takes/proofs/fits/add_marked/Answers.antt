use Rattle.std.proofs.Common.{ℕ, ◌+◌, ◌<◌, List, Vec, Global, length, get_or, take, sym, ap, subst, ◌∙◌, arith}
use Rattle.std.proofs.lemmas.Bool.{false≢true}
use Rattle.std.proofs.lemmas.List.{take_all}
use Rattle.dwz_model.proofs.ListFacts.{in_at}
use Rattle.dwz_takes.specs.Steps.{IsMarkedWhole}
use Rattle.dwz_takes.proofs.FitFacts.{Adds, adds_one, adds_skip}
use Rattle.dwz_takes.proofs.fits.add_marked.Goals as goal
use Rattle.dwz_takes.proofs.fits.add_marked.Goals.{then-is_marked_whole+in_ok-push, else-is_marked_whole}

pub is_marked_whole-requires-clause-part : goal.is_marked_whole-requires-clause-part
is_marked_whole-requires-clause-part c =
    let l : c.loop-part.part-index < length c.args.parts.now = omega arith in
    c.requires.parts (get_or c.args.parts.now c.loop-part.part-index 0) (in_at c.args.parts.now c.loop-part.part-index l)

pub loop-part-preserved : goal.loop-part-preserved
loop-part-preserved c =
    let W : ℕ → Type 0 = IsMarkedWhole c.args.rows.now c.args.classes.now c.args.names.now in
    let i = c.loop-part.part-index in
    let l : i < length c.args.parts.now = omega arith in
    elim c.if-is_marked_whole.branch [
      | then-is_marked_whole+in_ok-push w ↦ subst (λ (xs : List ℕ). Adds W c.args.fits.now.items (take (i + 1) c.args.parts.now) xs) (sym (ap (λ (v : Vec ℕ Global). v.items) w.fits-is ∙ w.in_ok-push.ensures.items))
          (adds_one W c.args.fits.now.items c.args.parts.now c.loop-part.fits.items i l (c.is_marked_whole.ensures.0 w.if-is_marked_whole.true) c.loop-part.invariant)
      | else-is_marked_whole w ↦ subst (λ (xs : List ℕ). Adds W c.args.fits.now.items (take (i + 1) c.args.parts.now) xs) (sym (ap (λ (v : Vec ℕ Global). v.items) w.fits-is))
          (adds_skip W c.args.fits.now.items c.args.parts.now c.loop-part.fits.items i l (λ h. false≢true (sym w.if-is_marked_whole.false ∙ c.is_marked_whole.ensures.1 h)) c.loop-part.invariant)
    ]

pub returns : goal.returns
returns c = subst (λ (xs : List ℕ). Adds (IsMarkedWhole c.args.rows.now c.args.classes.now c.args.names.now) c.args.fits.now.items xs c.loop-part.fits.items)
    (take_all c.loop-part.part-index c.args.parts.now (omega arith)) c.loop-part.invariant
