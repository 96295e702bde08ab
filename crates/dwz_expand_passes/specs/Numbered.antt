-- The copies of a file without its partial units by their numbers.
use Rattle.std.specs.Prelude.{◌≡◌, ℕ, suc, ◌+◌, List, [], ◌∷◌, ◌++◌, get_or, length, map, take, Some, slice_get}
use Rattle.std.specs.List.{sum_by}
use Rattle.dwz_def_cross.specs.Tops.{WithCommon}
use Rattle.dwz_def_expand.specs.Source.{Copy, copy, source_places}
use Rattle.dwz_expand_sources.specs.Imports.{same}

-- those of units in order, of which the first has that number
unfoldable pub copies_from : ℕ → List (List ℕ) → List (Copy ℕ)
copies_from n [] = []
copies_from n (places ∷ units) = map (copy n) places ++ copies_from (suc n) units

-- the copy with a number; behind the last one, one in no unit
abbrev pub key_in : WithCommon ℕ → ℕ → Copy ℕ
key_in w number = get_or (copies_from 0 (source_places same w)) number (copy (length (source_places same w)) 0)

-- The number of a source's copy in a unit, as it is counted: as many copies stand before it as the units before its own have, and as many
-- as stand before it in its own.
abbrev pub NumbersLaw : Type 0
NumbersLaw =
    (w : WithCommon ℕ) (unit source before : ℕ) → slice_get (get_or (source_places same w) unit []) before ≡ Some source
    → key_in w (sum_by (λ (places : List ℕ). length places) (take unit (source_places same w)) + before) ≡ copy unit source
