-- The spaces that a top stands in.
use Rattle.std.specs.Prelude.{◌≡◌, ℕ, suc, ◌+◌, ◌<◌, List, [], ◌∷◌, Some, reverse, slice_get}
use Rattle.dwz_def_reading.specs.Units.{RawUnit}
use Rattle.dwz_def_reading.specs.Documents.{Node}
use Rattle.dwz_def_reading.specs.Meanings.{Around, MeansNode, scope_of}
use Rattle.dwz_def_tops.specs.Spaces.{space_text}
use Rattle.dwz_def_tops.specs.Spots.{SpaceName, Top, name_of}
use Rattle.dwz_unit.specs.Rows.{EntryRow, rows_of}
use Rattle.dwz_graph.specs.declared.index.SpaceEntry.{SpaceEntry}
use Rattle.dwz_graph.specs.declared.index.Starts.{Starts}
use Rattle.dwz_graph.specs.declared.index.TopEntry.{TopEntry}

-- out from the space before the number k, up to one in a root, the entries of these spaces, each space before the one that it is around;
-- the first space of all has that number
abbrev pub IsOut : ℕ → List SpaceEntry → ℕ → List ℕ → Type 0
IsOut first spaces k [] = k ≡ 0
IsOut first spaces k (e ∷ entries) = (j : ℕ) × (x : SpaceEntry) × (k ≡ suc (first + j)) × (slice_get spaces j ≡ Some x) × (x.entry ≡ e)
    × (x.outer < k) × IsOut first spaces x.outer entries

-- the entry with a number, in the unit with the number n, means a space with that name
pub record IsSpaceAt (raw : List RawUnit) (around : Around ℕ) (n e : ℕ) (name : SpaceName) : Type 0 where
  pub u : RawUnit
  pub row : EntryRow
  pub d : Node ℕ
  pub text : List ℕ
  pub is_unit : slice_get raw n ≡ Some u
  pub found : slice_get (rows_of raw) e ≡ Some row
  pub of_unit : row.unit ≡ n
  pub means : MeansNode (scope_of around u) row.entry d
  pub is_space : space_text d ≡ Some text
  pub is_name : name ≡ name_of text d

abbrev pub AreSpacesAt : List RawUnit → Around ℕ → ℕ → List SpaceName → List ℕ → Type 0
AreSpacesAt raw around n [] [] = Unit {0}
AreSpacesAt raw around n (name ∷ names) (e ∷ entries) = IsSpaceAt raw around n e name × AreSpacesAt raw around n names entries
AreSpacesAt raw around n _ _ = ⊥

-- what is kept of a top leads to the spaces that the top stands in, in its unit, whose number in its file is n
pub record LeadsOut (raw : List RawUnit) (around : Around ℕ) (starts : Starts) (spaces : List SpaceEntry) (x : TopEntry) (t : Top) : Type
    0 where
  pub n : ℕ
  pub number : t.unit ≡ starts.unit + n
  pub entries : List ℕ
  pub out : IsOut starts.space spaces x.inner entries
  pub named : AreSpacesAt raw around n (reverse t.spaces) entries
