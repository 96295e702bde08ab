use Rattle.std.proofs.Common.{List, ℕ, Contains, subst, sym}
use Rattle.std.proofs.lemmas.List.Filters.{dedup_is}
use Rattle.std.proofs.lemmas.List.Kept.{Contains-dedup_nat, Contains-from_dedup}
use Rattle.std.proofs.lemmas.List.Sorted.{Contains-permutation, IsPermutation-sym}
use Rattle.std.proofs.lemmas.Map.Keys.{IsStrictlyIncreasing-dedup}
use Rattle.dwz_strs.proofs.pruning.sort_uses.Goals as goal

pub returns : goal.returns
returns c =
    let is = dedup_is _ _ _ c.dedup.ensures.filtered in
    let moved = c.sort_unstable.ensures.permutation in
    let copied = c.in_ok-sorted.ensures.items_if_clones_equal (λ x y e. e) in
    record {
      rises = rw is (IsStrictlyIncreasing-dedup _ c.sort_unstable.ensures.sorted);
      keeps = λ used h. rw is (Contains-dedup_nat _ used (Contains-permutation _ _ used moved (subst (λ (xs : List ℕ). Contains xs used) (sym copied) h)));
      adds_none = λ used h. subst (λ (xs : List ℕ). Contains xs used) copied (Contains-permutation _ _ used (IsPermutation-sym _ _ moved) (Contains-from_dedup _ _ used (rw is at h)));
    }
