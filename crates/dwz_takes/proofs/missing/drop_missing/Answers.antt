use Rattle.std.proofs.Common.{◌≡◌, ℕ, List, [], ◌∷◌, length, refl, sym, subst, inl, arith}
use Rattle.dwz_model.specs.Lists.{In}
use Rattle.dwz_model.proofs.ListFacts.{in_right}
use Rattle.dwz_takes.specs.Steps.{Drops}
use Rattle.dwz_takes.proofs.MissFacts.{IsMissing, missing_done, missing_step, sources_below}
use Rattle.dwz_takes.proofs.missing.drop_missing.Goals as goal

nil_of : (xs : List ℕ) → length xs ≡ 0 → xs ≡ []
nil_of [] e = refl
nil_of (x ∷ xs) e = absurd (omega arith)

pub work-init : goal.work-init
work-init c = let h = c.in_ok-work.ensures in record {
  len = (let e : length c.drop_first.new.flags ≡ length c.args.flags.now = omega arith in e);
  only = h.only;
  low = λ p i. c.requires.below p (h.below p i);
  drops = h.drops;
}

pub get-requires : goal.get-requires
get-requires c =
    let low = c.work.invariant.low c.in-Some.part (subst (λ (xs : List ℕ). In c.in-Some.part xs) (sym c.in-Some.ensures.items) (in_right c.in-Some.part c.pop.new.self.items (c.in-Some.part ∷ []) (inl refl))) in
    let same = c.requires.sources.len in
    omega arith

pub drop_all-requires : goal.drop_all-requires
drop_all-requires c n i =
    let low = sources_below c.args.rows.now c.args.sources.now c.in-Some.part n c.requires.rows.targets c.requires.sources (subst (λ (xs : List ℕ). In n xs) c.get.ensures i) in
    let len = c.work.invariant.len in
    let same = c.requires.len in
    omega arith

pub work-preserved : goal.work-preserved
work-preserved c =
    missing_step c.args.rows.now c.args.fits.now c.args.sources.now c.args.flags.now c.work.flags c.drop_all.new.flags c.work.work.items c.pop.new.self.items c.drop_all.new.work.items c.in-Some.part
    c.requires.sources (λ p i. sources_below c.args.rows.now c.args.sources.now c.in-Some.part p c.requires.rows.targets c.requires.sources i) c.in-Some.ensures.items c.work.invariant
    (subst (λ (xs : List ℕ). Drops xs c.work.flags c.pop.new.self.items c.drop_all.new.flags c.drop_all.new.work.items) c.get.ensures c.in_ok-drop_all.ensures)

pub returns-clause-taken : goal.returns-clause-taken
returns-clause-taken c u f = missing_done c.args.rows.now u c.args.fits.now c.args.flags.now c.work.flags
    (subst (λ (xs : List ℕ). IsMissing c.args.rows.now c.args.fits.now c.args.flags.now c.work.flags xs) (nil_of c.work.work.items (let e = c.in_default.ensures.cases in omega arith)) c.work.invariant) f
