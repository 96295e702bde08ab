use Rattle.std.proofs.Common.{◌≡◌, ℕ, ◌∷◌, [], Bool, List, length, get_or, refl, sym, ap, subst, arith}
use Rattle.std.proofs.lemmas.List.{with_items_is}
use Rattle.dwz_model.specs.Lists.{In}
use Rattle.dwz_groups.specs.Spreading.{Marks}
use Rattle.dwz_groups.proofs.SpreadLemmas.{Spreading, spreading_done, spreading_step, work_inside}
use Rattle.dwz_groups.proofs.marks.spread.Goals as goal

pub get-requires : goal.get-requires
get-requires c =
    let low = work_inside c.args.sources.now c.args.seeds.now c.work.marks.items c.work.work.items c.pop.new.self.items c.in-Some.n c.in-Some.ensures.items c.work.invariant in
    let len = c.requires.len in
    omega arith

pub mark-requires : goal.mark-requires
mark-requires c n i =
    let low = c.requires.inside c.in-Some.n n (subst (λ (xs : List ℕ). In n xs) c.get.ensures i) in
    let len = c.requires.len in
    let same = c.work.invariant.len in
    let e : length c.as_mut_slice.result.now ≡ length c.work.marks.items = ap (λ (bs : List Bool). length bs) c.as_mut_slice.ensures.value in
    omega arith

pub work-preserved : goal.work-preserved
work-preserved c =
    let e : c.as_mut_slice.result.now ≡ c.work.marks.items = c.as_mut_slice.ensures.value in
    let l = ap (λ (bs : List Bool). length bs) e in
    let m : Marks (get_or c.args.sources.now c.in-Some.n []) c.work.marks.items c.pop.new.self.items c.mark.new.marks c.mark.new.work.items =
    subst (λ (xs : List ℕ). Marks xs c.work.marks.items c.pop.new.self.items c.mark.new.marks c.mark.new.work.items) c.get.ensures
    (subst (λ (bs : List Bool). Marks c.get.result.now bs c.pop.new.self.items c.mark.new.marks c.mark.new.work.items) e c.in_ok-mark.ensures) in
    let len = m.len in
    subst (λ (bs : List Bool). Spreading c.args.sources.now c.args.seeds.now bs c.mark.new.work.items) (sym (with_items_is c.work.marks c.mark.new.marks (omega arith)))
    (spreading_step c.args.sources.now c.args.seeds.now c.work.marks.items c.work.work.items c.pop.new.self.items c.in-Some.n c.mark.new.marks c.mark.new.work.items c.in-Some.ensures.items
    c.work.invariant m)

nil_of : (xs : List ℕ) → length xs ≡ 0 → xs ≡ []
nil_of [] e = refl
nil_of (x ∷ xs) e = absurd (omega arith)

pub returns : goal.returns
returns c = spreading_done c.args.sources.now c.args.seeds.now c.work.marks.items
    (subst (λ (xs : List ℕ). Spreading c.args.sources.now c.args.seeds.now c.work.marks.items xs) (nil_of c.work.work.items (let e = c.in_default.ensures.cases in omega arith)) c.work.invariant)
