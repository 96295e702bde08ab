use Rattle.std.proofs.lemmas.List.Filters.{dedup_is}
use Rattle.std.proofs.lemmas.List.Kept.{Contains-dedup_nat, Contains-from_dedup}
use Rattle.std.proofs.lemmas.List.Sorted.{Contains-permutation, IsPermutation-sym}
use Rattle.std.proofs.lemmas.Map.Keys.{IsStrictlyIncreasing-dedup}
use Rattle.dwz_takes.proofs.OrderFacts.{contains_in, in_contains, rising_by}
use Rattle.dwz_takes.proofs.fits.in_order.Goals as goal

pub returns : goal.returns
returns c =
    let is = dedup_is _ _ _ c.dedup.ensures.filtered in
    let moved = c.sort_unstable.ensures.permutation in
    record {
      each = λ n. (
        λ i. contains_in _ n (Contains-permutation _ _ n (IsPermutation-sym _ _ moved) (Contains-from_dedup _ _ n (rw is at (in_contains _ n i)))),
        λ i. contains_in _ n (rw is (Contains-dedup_nat _ n (Contains-permutation _ _ n moved (in_contains _ n i)))),
      );
      rising = rising_by _ (rw is (IsStrictlyIncreasing-dedup _ c.sort_unstable.ensures.sorted));
    }
