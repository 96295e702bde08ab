-- A section of texts of which some are used: what stays of it, and where the texts then stand.
use Rattle.std.specs.Prelude.{ℕ, ◌+◌, List, [], ◌∷◌, length, take, Bool, ◌&&◌, nat_le, nat_lt, if◌then◌else◌, Option, Some, None}
use Rattle.std.specs.List.{list_any}
use Rattle.dwz_def_reading.specs.Texts.{text_at}

-- how many bytes a text has with the zero byte that ends it
abbrev pub ended_length : Option (List ℕ) → ℕ
ended_length None = 0
ended_length (Some text) = length text + 1

-- where the range of a use ends: it goes from the use up to and including the next zero byte
unfoldable pub range_end : List ℕ → ℕ → ℕ
range_end section used = used + ended_length (text_at section used)

-- whether a place lies in the range of a use
abbrev pub is_in_range : List ℕ → ℕ → ℕ → Bool
is_in_range section at used = nat_le used at && nat_lt at (range_end section used)

-- whether it lies in the range of one of the uses
unfoldable pub is_kept : List ℕ → List ℕ → ℕ → Bool
is_kept section uses at = list_any (is_in_range section at) uses

-- of bytes from a place on those whose places pass a test, in their order
unfoldable pub bytes_kept : (ℕ → Bool) → ℕ → List ℕ → List ℕ
bytes_kept keep at [] = []
bytes_kept keep at (b ∷ bytes) = if keep at then b ∷ bytes_kept keep (at + 1) bytes else bytes_kept keep (at + 1) bytes

-- the new section: the bytes that lie in a range of a use, in old order, closed up
abbrev pub pruned : List ℕ → List ℕ → List ℕ
pruned section uses = bytes_kept (is_kept section uses) 0 section

-- the new number of a use: how many bytes before it stay
abbrev pub new_number : List ℕ → List ℕ → ℕ → ℕ
new_number section uses used = length (bytes_kept (is_kept section uses) 0 (take used section))
