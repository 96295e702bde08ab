use Rattle.std.proofs.Common.{ℕ, ◌<◌, List, Option, MatchOption, length, get_or, sym, ap, subst, ◌∙◌, arith}
use Rattle.dwz_model.specs.Lists.{In}
use Rattle.dwz_takes.specs.Images.{IsImageOf, StandsFor, choice_at}
use Rattle.dwz_takes.specs.Takes.{class_of}
use Rattle.dwz_takes.proofs.ImageFacts.{images_by, seen_none}
use Rattle.dwz_takes.proofs.MissFacts.{takes_fits}
use Rattle.dwz_takes.proofs.TakenFacts.{fits_low}
use Rattle.dwz_takes.proofs.WatchFacts.{class_low}
use Rattle.dwz_takes.proofs.imaged.put_unit.Goals as goal

pub see_parts-requires-clause-parts : goal.see_parts-requires-clause-parts
see_parts-requires-clause-parts c p i = fits_low c.args.rows.now c.args.unit p (takes_fits c.args.rows.now c.args.unit p ((c.requires.parts.each p).0 i))

pub put-requires-clause-tops : goal.put-requires-clause-tops
put-requires-clause-tops c t i =
    subst (λ (ks : List ℕ). t < length ks) (sym c.as_slice-classes.ensures) (c.requires.rows.unit_tops c.args.unit t (subst (λ (xs : List ℕ). In t xs) c.get-tops.ensures i))

pub put-requires-clause-classes : goal.put-requires-clause-classes
put-requires-clause-classes c t i =
    let low = class_low c.args.rows.now c.requires.rows t (c.requires.rows.unit_tops c.args.unit t (subst (λ (xs : List ℕ). In t xs) c.get-tops.ensures i)) in
    let same = c.requires.len in
    subst (λ (ks : List ℕ). get_or ks t 0 < length c.see_parts.new.firsts) (sym c.as_slice-classes.ensures) (omega arith)

pub forget-requires-clause-tops : goal.forget-requires-clause-tops
forget-requires-clause-tops c t i =
    subst (λ (ks : List ℕ). t < length ks) (sym c.as_slice-classes.ensures) (c.requires.rows.unit_tops c.args.unit t (subst (λ (xs : List ℕ). In t xs) c.get-tops.ensures i))

pub forget-requires-clause-classes : goal.forget-requires-clause-classes
forget-requires-clause-classes c t i =
    let low = class_low c.args.rows.now c.requires.rows t (c.requires.rows.unit_tops c.args.unit t (subst (λ (xs : List ℕ). In t xs) c.get-tops.ensures i)) in
    let same = c.requires.len in
    subst (λ (ks : List ℕ). get_or ks t 0 < length c.see_parts.new.firsts) (sym c.as_slice-classes.ensures) (omega arith)

pub forget-requires-clause-only : goal.forget-requires-clause-only
forget-requires-clause-only c k out = seen_none c.args.rows.now c.args.unit k c.args.parts.now (choice_at c.see_parts.new.firsts k) c.requires.parts (c.see_parts.ensures k)
    (λ t i e. out t (subst (λ (xs : List ℕ). In t xs) (sym c.get-tops.ensures) i) (ap (λ (ks : List ℕ). get_or ks t 0) c.as_slice-classes.ensures ∙ e))

pub returns-clause-images : goal.returns-clause-images
returns-clause-images c t i =
    let given = c.put.ensures.put t (subst (λ (xs : List ℕ). In t xs) (sym c.get-tops.ensures) i) ∙ ap (λ (ks : List ℕ). choice_at c.see_parts.new.firsts (get_or ks t 0)) c.as_slice-classes.ensures in
    let k = class_of c.args.rows.now t in
    subst (λ (o : Option ℕ). MatchOption o ((n : ℕ) → StandsFor c.args.rows.now c.args.unit k n → ⊥) (IsImageOf c.args.rows.now c.args.unit k)) (sym given)
    (images_by c.args.rows.now c.args.unit k c.args.parts.now (choice_at c.see_parts.new.firsts k) c.requires.parts (c.see_parts.ensures k))
