-- The tops of the partial units of a common file, by number.
use Rattle.std.specs.Prelude.{◌≡◌, ◌↔◌, ℕ, ◌+◌, ◌-◌, List, [], ◌∷◌, length, map}
use Rattle.std.specs.List.{range_with_len}
use Rattle.dwz_def_reading.specs.Documents.{Doc}
use Rattle.dwz_def_reading.specs.Lists.{In}
use Rattle.dwz_def_tops.specs.Spots.{Top}
use Rattle.dwz_def_check.specs.CrossLists.{numbered_units}
use Rattle.dwz_def_check.specs.CrossNames.{cross_tops}
use Rattle.dwz_def_taken.specs.Beside.{Reused, own_tops, reused_of}
use Rattle.dwz_def_taken.specs.Takes.{InPart}
use Rattle.dwz_groups.specs.declared.groups.Edge.{Edge}
use Rattle.dwz_match.specs.Partial.{ArePartial}
use Rattle.dwz_takes.specs.Takes.{list_at}

-- of each partial unit just its tops
pub record HavePartTops (r : Reused) (tops : List (List ℕ)) : Type 0 where
  pub len : length tops ≡ length r.commons
  pub each : (p c : ℕ) → In c (list_at tops p) ↔ ((top : Top) × InPart r p top × (top.number ≡ c))

-- of the partial units of the common file where the tops of each begin, and where all end
pub record AreStarts (docs : List (Doc ℕ)) (common : Doc ℕ) (starts : List ℕ) (end : ℕ) : Type 0 where
  pub partial : ArePartial common.units
  pub starts_are : starts ≡ map (λ x. x.top) (numbered_units (own_tops (reused_of docs common)) 0 common.units)
  pub end_is : end ≡ own_tops (reused_of docs common) + length (cross_tops common.units)

-- ---- the steps

abbrev pub edge_to : ℕ → ℕ → Edge
edge_to part top = record { key = part; value = top }

-- where the tops of the first of these units begin, or where all end
abbrev pub start_in : ℕ → List ℕ → ℕ
start_in end [] = end
start_in end (s ∷ starts) = s

-- the numbers of the tops of each unit: up to where those of the next begin
abbrev pub spans : ℕ → List ℕ → List (List ℕ)
spans end [] = []
spans end (s ∷ starts) = range_with_len s (start_in end starts - s) ∷ spans end starts
