-- The partial units of the common file in a move, by their numbers, and who takes them.
use Rattle.std.proofs.Common.{◌≡◌, ℕ, suc, ◌+◌, ◌<◌, ◌≤◌, ◌==◌, Bool, true, false, List, [], ◌∷◌, ◌++◌, length, eqb-true, refl, sym, ap, subst, ◌∙◌, inl, inr, arith}
use Rattle.std.proofs.lemmas.Bool.{cases_lt}
use Rattle.std.specs.Prelude.{if◌then◌else◌}
use Rattle.dwz_def_reading.specs.Lists.{In}
use Rattle.dwz_def_reading.specs.Rows.{has}
use Rattle.dwz_def_reading.proofs.HasLemmas.{in_has}
use Rattle.dwz_def_tops.specs.Lists.{Nth}
use Rattle.dwz_def_tops.proofs.Members.{in_filter, in_filter_from, nth_from}
use Rattle.dwz_def_tops.specs.Spots.{EntryName, FileUnit}
use Rattle.dwz_def_images.specs.Homes.{numbers_from}
use Rattle.dwz_def_images.specs.Plan.{PartialUnit, partials}
use Rattle.dwz_def_images.proofs.UserLemmas.{in_numbers}
use Rattle.dwz_def_taken.specs.declared.fixed.Fixed.{Fixed}
use Rattle.dwz_def_taken.specs.Beside.{Reused}
use Rattle.dwz_def_taken.specs.Laws.{TakersLaw}
use Rattle.dwz_def_taken.specs.Over.{common_part, common_parts, takers}
use Rattle.dwz_def_taken.specs.Takes.{IsFixed, Takes, free_rule, takes_of}
use Rattle.dwz_def_tops.proofs.FiledTops.{nth_cases}

pub has_in : (n : ℕ) (ms : List ℕ) → has n ms ≡ true → In n ms
unfolding has
has_in n [] e = absurd cc
has_in n (m ∷ ms) e = go (m == n) refl (has_in n ms) e where
  go : (b : Bool) → (m == n) ≡ b → (has n ms ≡ true → In n ms) → (if b then true else has n ms) ≡ true → In n (m ∷ ms)
  go true q more h = inl (eqb-true m n q)
  go false q more h = inr (more h)

-- ---- the partial units of the common file, by their numbers

pub common_nth : (r : Reused) (fixed : Fixed) (s : ℕ) (commons : List (FileUnit EntryName)) (n : ℕ) (part : PartialUnit) → Nth s (common_parts r fixed s commons) n part
    → (f : FileUnit EntryName) × Nth s commons n f × (part ≡ common_part r fixed n)
unfolding common_parts
common_nth r fixed s [] n part h = absurd h
common_nth r fixed s (f ∷ commons) n part (inl e) = (f, inl (e.0, refl), sym e.1 ∙ ap (common_part r fixed) e.0)
common_nth r fixed s (f ∷ commons) n part (inr h) = let o = common_nth r fixed (suc s) commons n part h in (o.0, inr o.1, o.2)

pub nth_common : (r : Reused) (fixed : Fixed) (s : ℕ) (commons : List (FileUnit EntryName)) (n : ℕ) (f : FileUnit EntryName) → Nth s commons n f
    → Nth s (common_parts r fixed s commons) n (common_part r fixed n)
unfolding common_parts
nth_common r fixed s [] n f h = absurd h
nth_common r fixed s (g ∷ commons) n f (inl e) = inl (e.0, ap (common_part r fixed) e.0)
nth_common r fixed s (g ∷ commons) n f (inr h) = inr (nth_common r fixed (suc s) commons n f h)

pub length-common : (r : Reused) (fixed : Fixed) (s : ℕ) (commons : List (FileUnit EntryName)) → length (common_parts r fixed s commons) ≡ length commons
unfolding common_parts
length-common r fixed s [] = refl
length-common r fixed s (f ∷ commons) = ap suc (length-common r fixed (suc s) commons)

-- ---- who takes one

pub taker : (r : Reused) (fixed : Fixed) → IsFixed r fixed → (i n : ℕ) → In i (takers fixed r.units n) → Takes r i n
taker r fixed fx i n is =
    let o = in_filter_from (λ u. has n (takes_of fixed u)) i (numbers_from 0 r.units) is in
    (fx.takes i n).0 (has_in n (takes_of fixed i) o.1)

at_place : {X : Type 0} (s : ℕ) (xs : List X) (n : ℕ) → s ≤ n → n < s + length xs → (x : X) × Nth s xs n x
at_place s [] n low high = absurd (omega (arith, low, high))
at_place s (x ∷ xs) n low high = elim (cases_lt s n) [
  | inl less ↦ (let o = at_place (suc s) xs n less (omega (arith, high)) in (o.0, inr o.1))
  | inr most ↦ (x, inl (omega (arith, low, most), refl))
]

pub in_takers : (r : Reused) (fixed : Fixed) → IsFixed r fixed → (i n : ℕ) → Takes r i n → In i (takers fixed r.units n)
in_takers r fixed fx i n takes =
    let at = at_place 0 r.units i (omega arith) (let h = takes.unit in omega arith) in
    in_filter (λ u. has n (takes_of fixed u)) i (numbers_from 0 r.units) (in_numbers 0 r.units i at.0 at.1) (in_has n (takes_of fixed i) ((fx.takes i n).1 takes))

pub takers_law : TakersLaw
takers_law r fixed files fx p low part nth u =
    let is = first nth in (
      λ user. taker r fixed fx u p (subst (λ (w : PartialUnit). In u w.users) is user),
      λ takes. subst (λ (w : PartialUnit). In u w.users) (sym is) (in_takers r fixed fx u p takes),
    )
  where
    first : Nth 0 (common_parts r fixed 0 r.commons ++ partials (free_rule r fixed) r.units files) p part → part ≡ common_part r fixed p
    first h = elim (nth_cases 0 (common_parts r fixed 0 r.commons) (partials (free_rule r fixed) r.units files) p part h) [
      | inl a ↦ (common_nth r fixed 0 r.commons p part a).2
      | inr b ↦ (let k = nth_from (0 + length (common_parts r fixed 0 r.commons)) (partials (free_rule r fixed) r.units files) p part b in
          absurd (omega (arith, k, low, length-common r fixed 0 r.commons)))
    ]
