use Rattle.std.proofs.Common.{◌≡◌, ℕ, ◌+◌, ◌<◌, Bool, List, Vec, Global, length, get_or, take, sym, ap, subst, ◌∙◌, arith}
use Rattle.std.proofs.lemmas.Bool.{false≢true}
use Rattle.std.proofs.lemmas.List.{take_all}
use Rattle.dwz_model.specs.Lists.{In}
use Rattle.dwz_model.proofs.ListFacts.{in_at}
use Rattle.dwz_takes.proofs.MissFacts.{AreDropped, dropped_all, dropped_init, dropped_one, dropped_skip}
use Rattle.dwz_takes.proofs.missing.drop_first.Goals as goal
use Rattle.dwz_takes.proofs.missing.drop_first.Goals.{then-not-has_all+in_ok-push, else-not-has_all}

pub loop-part-init : goal.loop-part-init
loop-part-init c = subst (λ (xs : List ℕ). AreDropped c.args.rows.now c.args.fits.now (take 0 c.args.fits.now) c.args.flags.now c.args.flags.now xs) (sym c.new-work.ensures.items)
    (dropped_init c.args.rows.now c.args.fits.now c.args.flags.now)

pub get-requires : goal.get-requires
get-requires c =
    let l : c.loop-part.part-index < length c.args.fits.now = omega arith in
    let low = c.requires.below (get_or c.args.fits.now c.loop-part.part-index 0) (in_at c.args.fits.now c.loop-part.part-index l) in
    let same = c.requires.rows.targets in
    omega arith

pub has_all-requires : goal.has_all-requires
has_all-requires c n i =
    let low = c.requires.rows.part_targets (get_or c.args.fits.now c.loop-part.part-index 0) n (subst (λ (xs : List ℕ). In n xs) c.get.ensures i) in
    let same = c.requires.len in
    omega arith

-- the same where both lists are told
dropped_as : (P : List Bool → List ℕ → Type 0) (flags flags' : List Bool) (work work' : List ℕ) → flags' ≡ flags → work' ≡ work → P flags work → P flags' work'
dropped_as P flags flags' work work' e f h = subst (λ (xs : List ℕ). P flags' xs) (sym f) (subst (λ (bs : List Bool). P bs work) (sym e) h)

pub loop-part-preserved : goal.loop-part-preserved
loop-part-preserved c =
    let i = c.loop-part.part-index in
    let fits : List ℕ = c.args.fits.now in
    let l : i < length fits = omega arith in
    let P : List Bool → List ℕ → Type 0 = λ flags work. AreDropped c.args.rows.now fits (take (i + 1) fits) c.args.flags.now flags work in
    elim c.if-not-has_all.branch [
      | then-not-has_all+in_ok-push w ↦
          let low = c.requires.below (get_or fits i 0) (in_at fits i l) in
          let same = c.requires.len in
          dropped_as P _ c.if-not-has_all.flags _ c.if-not-has_all.work.items w.flags-is (ap (λ (v : Vec ℕ Global). v.items) w.work-is ∙ w.in_ok-push.ensures.items)
          (dropped_one c.args.rows.now fits i c.args.flags.now c.loop-part.flags c.loop-part.work.items l (omega arith)
          (λ all. false≢true (sym w.if-not-has_all.true ∙ c.has_all.ensures.1 (λ q r. all q (subst (λ (xs : List ℕ). In q xs) c.get.ensures r)))) c.loop-part.invariant)
      | else-not-has_all w ↦
          dropped_as P _ c.if-not-has_all.flags _ c.if-not-has_all.work.items w.flags-is (ap (λ (v : Vec ℕ Global). v.items) w.work-is)
          (dropped_skip c.args.rows.now fits i c.args.flags.now c.loop-part.flags c.loop-part.work.items l
          (λ q r. c.has_all.ensures.0 w.if-not-has_all.false q (subst (λ (xs : List ℕ). In q xs) (sym c.get.ensures) r)) c.loop-part.invariant)
    ]

pub returns-clause-drops : goal.returns-clause-drops
returns-clause-drops c u f = dropped_all c.args.rows.now u c.args.fits.now c.args.flags.now c.loop-part.flags c.loop-part.work.items
    (subst (λ (xs : List ℕ). AreDropped c.args.rows.now c.args.fits.now xs c.args.flags.now c.loop-part.flags c.loop-part.work.items) (take_all c.loop-part.part-index c.args.fits.now (omega arith))
    c.loop-part.invariant) f
