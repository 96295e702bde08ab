-- Inner: no length depends on numbers, and no key has two places.
use Rattle.std.specs.Prelude.{◌≡◌, ℕ, List, length}
use Rattle.dwz_def_tops.specs.Spots.{EntryName}
use Rattle.dwz_def_encoding.specs.Writing.{Numbering}

-- what is written under numbers, in a unit that begins at a place, has the same length under any others, and at any place
abbrev pub SameLength : (Numbering EntryName → ℕ → List ℕ) → Type 0
SameLength bytes = (m n : Numbering EntryName) (p q : ℕ) → length (bytes m p) ≡ length (bytes n q)
