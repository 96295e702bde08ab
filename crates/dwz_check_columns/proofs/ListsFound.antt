-- The list that a number stands for: where numbers are those of lists, each stands for its own list, and for another number another.
use Rattle.std.proofs.Common.{◌≡◌, ℕ, ◌≤◌, ◌^◌, ◌==◌, Bool, true, false, cond, List, [], ◌∷◌, refl, sym, subst, ◌∙◌, inl, inr, eq-eqb, eqb-true}
use Rattle.std.specs.Prelude.{slice_index}
use Rattle.std.proofs.lemmas.Bool.{false≢true}
use Rattle.dwz_model.specs.Lists.{In}
use Rattle.dwz_def_cross.specs.CrossSame.{EachTwo}
use Rattle.dwz_check_rows.specs.UnitRows.{IsNumbering}
use Rattle.dwz_check_sides.specs.declared.lists.NameLists.{NameLists}
use Rattle.dwz_check_sides.specs.Names.{AreApart, IsListNumber}
use Rattle.dwz_check_sides.proofs.ListNumbers.{list_numbers}
use Rattle.dwz_check_columns.proofs.TwoLists.{Gives, gives_self, gives_two, two_within}

-- the first of these lists whose number that is
pub first_list : List ℕ → List (List (List ℕ)) → ℕ → List (List ℕ)
first_list [] lists n = []
first_list (m ∷ numbers) [] n = []
first_list (m ∷ numbers) (names ∷ lists) n = cond (m == n) names (first_list numbers lists n)

module _ (known : NameLists) (bound : ℕ) (few : bound ≤ 2 ^ 32) (apart : AreApart known bound) where
  found : (lists : List (List (List ℕ))) (numbers : List ℕ) (n : ℕ) → EachTwo (IsListNumber known) lists numbers → In n numbers → IsListNumber known (first_list numbers lists n) n
  unfolding first_list
  found [] [] n h is = absurd is
  found (names ∷ lists) (m ∷ numbers) n h is = by (m == n) refl is (found lists numbers n h.1) where
    by : (b : Bool) → (m == n) ≡ b → In n (m ∷ numbers) → (In n numbers → IsListNumber known (first_list numbers lists n) n) → IsListNumber known (cond b names (first_list numbers lists n)) n
    by true e i more = subst (λ (k : ℕ). IsListNumber known names k) (eqb-true m n e) h.0
    by false e (inl same) more = absurd (false≢true (sym e ∙ eq-eqb m n same))
    by false e (inr r) more = more r
  found [] (m ∷ numbers) n h is = absurd h
  found (names ∷ lists) [] n h is = absurd h

  module _ (lists : List (List (List ℕ))) (numbers : List ℕ) (numbered : EachTwo (IsListNumber known) lists numbers) where
    pub numbering : IsNumbering numbers (first_list numbers lists)
    numbering m n is js e =
        (list_numbers known bound few apart (first_list numbers lists m) (first_list numbers lists n) m n (found lists numbers m numbered is) (found lists numbers n numbered js)).1 e

    -- each number stands for its list
    pub stand_for : Gives (λ k. first_list numbers lists (slice_index numbers k)) 0 lists
    stand_for =
        gives_two (first_list numbers lists) (λ k. slice_index numbers k) 0 lists numbers
        (two_within (IsListNumber known) (λ names n. first_list numbers lists n ≡ names) lists numbers
        (λ names n is h. (list_numbers known bound few apart (first_list numbers lists n) names n n (found lists numbers n numbered is) h).0 refl) numbered)
        (gives_self numbers 0)
