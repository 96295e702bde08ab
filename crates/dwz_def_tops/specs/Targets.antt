-- The tops that the references of a top go into.
use Rattle.std.specs.Prelude.{ℕ, List, [], ◌∷◌, ◌++◌}
use Rattle.std.specs.List.{flat_map}
use Rattle.dwz_def_reading.specs.Documents.{Attr, Entries}
use Rattle.dwz_def_reading.specs.Trees.{End, Entry}
use Rattle.dwz_def_tops.specs.Spots.{EntryName, Top, Within}

-- the numbers of the tops that these are in, without those that are in none
abbrev pub refs_into : List EntryName → List ℕ
refs_into [] = []
refs_into (Within t path ∷ refs) = t ∷ refs_into refs
refs_into (s ∷ refs) = refs_into refs

abbrev pub attrs_into : List (Attr EntryName) → List ℕ
attrs_into attrs = flat_map (λ a. refs_into a.value.refs) attrs

unfoldable pub entries_into : Entries EntryName → List ℕ
entries_into End = []
entries_into (Entry e children next) = attrs_into e.attrs ++ (entries_into children ++ entries_into next)

-- one for each reference into a top: entries in preorder, and in each the attributes in order
abbrev pub targets_of : Top → List ℕ
targets_of t = attrs_into t.node.attrs ++ entries_into t.below
