-- Used in proofs alone: tops under the numbers of their name lists, which are numbered as they come.
use Rattle.std.specs.Prelude.{◌≡◌, ℕ, ◌<◌, All, List, [], ◌∷◌, length, map}
use Rattle.dwz_groups.specs.declared.groups.Edge.{Edge}
use Rattle.dwz_plan.specs.Steps.{lists_of, numbered}
use Rattle.dwz_layout_items.specs.declared.partial.TopSpaces.{TopSpaces}

abbrev pub one_list : TopSpaces → List ℕ
one_list x = x.names ∷ []

-- for each top a list with the number of its name list alone
abbrev pub one_lists : List TopSpaces → List (List ℕ)
one_lists of_tops = map one_list of_tops

pub record IsNumbered (of_tops : List TopSpaces) (tops : List ℕ) (count : ℕ) (pairs : List Edge) : Type 0 where
  pub many : count ≡ length (lists_of (one_lists of_tops) tops)
  pub pairs_are : pairs ≡ numbered (one_lists of_tops) tops
  pub low : All (λ p. p.key < count) pairs
