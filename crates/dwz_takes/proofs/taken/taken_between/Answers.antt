use Rattle.std.proofs.Common.{◌≡◌, ℕ, ◌+◌, Bool, List, length, sym, ap, subst, arith}
use Rattle.std.proofs.lemmas.List.{with_items_is}
use Rattle.dwz_takes.proofs.TakenFacts.{AreTakenFrom, taken_step}
use Rattle.dwz_takes.proofs.taken.taken_between.Goals as goal

-- the same where the lists are told
as_told : (P : List Bool → List Bool → List Bool → Type 0) (a a' b b' d d' : List Bool) → a' ≡ a → b' ≡ b → d' ≡ d → P a b d → P a' b' d'
as_told P a a' b b' d d' e f g h = subst (λ (x : List Bool). P x b' d') (sym e) (subst (λ (x : List Bool). P a x d') (sym f) (subst (λ (x : List Bool). P a b x) (sym g) h))

pub loop-unit-preserved : goal.loop-unit-preserved
loop-unit-preserved c =
    let classes = ap (λ (bs : List Bool). length bs) c.as_mut_slice.ensures.value in
    let names = ap (λ (bs : List Bool). length bs) c.as_mut_slice-in-loop-unit.ensures.value in
    let parts = ap (λ (bs : List Bool). length bs) c.as_mut_slice-in-loop-unit-2.ensures.value in
    let P : List Bool → List Bool → List Bool → List (List ℕ) → Type 0 = λ a b d lists. AreTakenFrom c.args.rows.now c.args.from (c.loop-unit.unit + 1) a b d lists in
    let step : P c.taken_by.new.classes c.taken_by.new.names c.taken_by.new.parts c.push.new.self.items =
    subst (λ (lists : List (List ℕ)). P c.taken_by.new.classes c.taken_by.new.names c.taken_by.new.parts lists) (sym c.in_ok-push.ensures.items)
    (taken_step c.args.rows.now c.args.from c.loop-unit.unit c.loop-unit.classes.items c.loop-unit.names.items c.loop-unit.parts.items c.taken_by.new.classes c.taken_by.new.names c.taken_by.new.parts
    c.loop-unit.lists.items c.in_ok-taken.taken c.loop-unit.invariant (omega arith) (omega arith) (omega arith) c.in_ok-taken.ensures.classes c.in_ok-taken.ensures.names c.in_ok-taken.ensures.parts
    c.in_ok-taken.ensures.taken) in
    as_told (λ a b d. P a b d c.push.new.self.items) _ _ _ _ _ _ (with_items_is c.loop-unit.classes c.taken_by.new.classes (omega arith)) (with_items_is c.loop-unit.names c.taken_by.new.names (omega arith))
    (with_items_is c.loop-unit.parts c.taken_by.new.parts (omega arith)) step
