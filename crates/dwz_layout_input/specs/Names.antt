-- The names of spaces, and their numbers.
use Rattle.std.specs.Prelude.{◌≡◌, ◌⊎◌, ℕ, ◌+◌, ◌<◌, List, length, Option, Some, None, if◌then◌else◌, slice_get, slice_index}
use Rattle.std.specs.BTreeMap.{BTreeMap, get_by}
use Rattle.std.specs.Cmp.Lexicographic.{slice_cmp}
use Rattle.std.specs.Ordering.{nat_cmp}
use Rattle.std.specs.Str.{bytes_eq}
use denote.Ref.{Bor}
use Rattle.dwz_def_reading.specs.Units.{RawUnit}
use Rattle.dwz_def_reading.specs.Documents.{Node}
use Rattle.dwz_def_reading.specs.Meanings.{Around, MeansNode, scope_of}
use Rattle.dwz_graph.specs.declared.index.SpaceEntry.{SpaceEntry}
use Rattle.dwz_graph.specs.Here.{Here}
use Rattle.dwz_graph.specs.Resolved.{IsHere}
use Rattle.dwz_def_tops.specs.Spaces.{space_text}
use Rattle.dwz_unit.specs.Rows.{EntryRow, rows_of}

-- ---- names, as they are read

-- what was looked at last is kept of a unit
abbrev pub WasHere : List RawUnit → Option Here → Type 0
WasHere raw None = Unit {0}
WasHere raw (Some h) = (u : RawUnit) × IsHere raw u h

-- the entry with that number means a space with that name
pub record IsSpaceNamed (raw : List RawUnit) (around : Around ℕ) (e : ℕ) (text : List ℕ) : Type 0 where
  pub u : RawUnit
  pub row : EntryRow
  pub d : Node ℕ
  pub found : slice_get (rows_of raw) e ≡ Some row
  pub is_unit : slice_get raw row.unit ≡ Some u
  pub means : MeansNode (scope_of around u) row.entry d
  pub is_space : space_text d ≡ Some text

-- each of these spaces has the name of its number, where the first has that number
abbrev pub Reads : List RawUnit → Around ℕ → (ℕ → List ℕ) → ℕ → List SpaceEntry → Type 0
Reads raw around names first spaces = (j : ℕ) (x : SpaceEntry) → slice_get spaces j ≡ Some x
    → IsSpaceNamed raw around x.entry (names (first + j))

-- ---- numbers

-- what is under a text
abbrev pub look : BTreeMap (Bor (List ℕ)) ℕ → List ℕ → Option ℕ
look m text = get_by (λ k. slice_cmp nat_cmp text k.now) m

-- the text had the number, and nothing changed; or it is new, and has this number now
abbrev pub IsFound : (List ℕ → Option ℕ) → (List ℕ → Option ℕ) → List ℕ → ℕ → ℕ → Type 0
IsFound old after text new number =
    ((old text ≡ Some number) × ((q : List ℕ) → after q ≡ old q))
    ⊎ ((old text ≡ None) × (number ≡ new) × ((q : List ℕ) → after q ≡ (if bytes_eq text q then Some new else old q)))

-- each name is found under its number, which is that of a space with that name
pub record HaveNumbers (names : ℕ → List ℕ) (texts : List ℕ) (found : List ℕ → Option ℕ) : Type 0 where
  pub under : (j : ℕ) → j < length texts → found (names j) ≡ Some (slice_index texts j)
  pub own : (text : List ℕ) (n : ℕ) → found text ≡ Some n → (n < length texts) × (names n ≡ text)
