-- Names that have numbers among others.
use Rattle.std.specs.Prelude.{◌≡◌, ℕ, List, Option, Some, None, slice_get}
use Rattle.dwz_def_reading.specs.TextRows.{text_number}

-- that is the number of these bytes
abbrev pub IsNumberOf : List (List ℕ) → List ℕ → Option ℕ → Type 0
IsNumberOf names bytes (Some n) = text_number names bytes ≡ Some n
IsNumberOf names bytes None = ⊥

-- of each of the names, by its number, the number that it has among others
abbrev pub AreNumbersIn : List (List ℕ) → List (List ℕ) → List ℕ → Type 0
AreNumbersIn names others numbers =
    (bytes : List ℕ) (n : ℕ) → text_number names bytes ≡ Some n → IsNumberOf others bytes (slice_get numbers n)
