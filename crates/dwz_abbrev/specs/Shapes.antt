-- Which codes the declarations of one shape have.
use Rattle.std.specs.Prelude.{◌≡◌, ◌⊎◌, ℕ, ◌+◌, ◌≤◌, List, [], ◌∷◌, ◌++◌, length, Option, Some, None}
use Rattle.dwz_model.specs.Lists.{In}
use Rattle.dwz_def_reading.specs.Abbrevs.{Declaration, EntryShape, with_code}

-- a declaration of the shape has the code
abbrev pub HasCode : List Declaration → EntryShape → ℕ → Type 0
HasCode table shape code = In (with_code shape code) table

-- the least of their codes; none, where there is no such declaration
abbrev pub IsLeastCode : List Declaration → EntryShape → Option ℕ → Type 0
IsLeastCode table shape None = (code : ℕ) → HasCode table shape code → ⊥
IsLeastCode table shape (Some code) = HasCode table shape code × ((other : ℕ) → HasCode table shape other → code ≤ other)

-- A declaration of the shape is there, and this is the least code of one; or there was none, and it stands behind the others under the next
-- code.
abbrev pub IsAdded : List Declaration → List Declaration → EntryShape → ℕ → Type 0
IsAdded old new shape code =
    ((new ≡ old) × IsLeastCode old shape (Some code))
    ⊎ ((new ≡ old ++ with_code shape code ∷ []) × IsLeastCode old shape None × (code ≡ length old + 1))
