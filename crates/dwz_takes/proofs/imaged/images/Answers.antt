use Rattle.std.proofs.Common.{◌≡◌, ℕ, ◌+◌, ◌<◌, List, Option, length, sym, ap, subst, ◌∙◌, arith}
use Rattle.std.proofs.lemmas.List.{with_items_is}
use Rattle.dwz_takes.specs.Images.{AreImages, choice_at}
use Rattle.dwz_takes.specs.Takes.{AreTaken}
use Rattle.dwz_takes.proofs.ImageFacts.{AreImagesTo, images_all, images_step}
use Rattle.dwz_takes.proofs.TakenFacts.{taken_at}
use Rattle.dwz_takes.proofs.imaged.images.Goals as goal

pub put_unit-requires-clause-parts : goal.put_unit-requires-clause-parts
put_unit-requires-clause-parts c =
    let l : c.loop-unit.unit < length c.args.takes.now = omega arith in
    subst (λ (xs : List ℕ). AreTaken c.args.rows.now c.loop-unit.unit xs) (sym c.as_slice.ensures)
    (taken_at c.args.rows.now c.args.takes.now c.loop-unit.unit c.index-takes-unit.result c.requires.takes l c.index-takes-unit.is)

-- the same where the lists are told
as_told : (P : List (Option ℕ) → List (Option ℕ) → Type 0) (a a' b b' : List (Option ℕ)) → a' ≡ a → b' ≡ b → P a b → P a' b'
as_told P a a' b b' e f h = subst (λ (x : List (Option ℕ)). P x b') (sym e) (subst (λ (x : List (Option ℕ)). P a x) (sym f) h)

pub loop-unit-preserved : goal.loop-unit-preserved
loop-unit-preserved c =
    let images = ap (λ (os : List (Option ℕ)). length os) c.as_mut_slice.ensures.value in
    let firsts = ap (λ (os : List (Option ℕ)). length os) c.as_mut_slice-in-loop-unit.ensures.value in
    let step : AreImagesTo c.args.rows.now (c.loop-unit.unit + 1) c.put_unit.new.images c.put_unit.new.firsts =
    images_step c.args.rows.now c.loop-unit.unit c.loop-unit.images.items c.loop-unit.firsts.items c.put_unit.new.images c.put_unit.new.firsts c.requires.apart c.loop-unit.invariant (omega arith)
    (omega arith) c.put_unit.ensures.none c.put_unit.ensures.images
    (λ t out. c.put_unit.ensures.kept t out ∙ ap (λ (os : List (Option ℕ)). choice_at os t) c.as_mut_slice.ensures.value) in
    as_told (λ a b. AreImagesTo c.args.rows.now (c.loop-unit.unit + 1) a b) _ _ _ _ (with_items_is c.loop-unit.images c.put_unit.new.images (omega arith))
    (with_items_is c.loop-unit.firsts c.put_unit.new.firsts (omega arith)) step

pub returns : goal.returns
returns c =
    let len = c.requires.takes.len in
    subst (λ (os : List (Option ℕ)). AreImages c.args.rows.now os) (sym c.new.ensures)
    (images_all c.args.rows.now c.loop-unit.unit c.loop-unit.images.items c.loop-unit.firsts.items (omega arith) c.loop-unit.invariant)
