-- The name lists of the spaces of the units of all files.
use Rattle.std.specs.Prelude.{◌≡◌, ℕ, ◌<◌, List, Ok, Some, length, slice_get}
use Rattle.dwz_def_reading.specs.Documents.{DwUnit}
use Rattle.dwz_def_reading.specs.Lists.{In}
use Rattle.dwz_def_reading.specs.Meanings.{Around}
use Rattle.dwz_def_reading.specs.Meant.{units_meaning}
use Rattle.dwz_def_taken.specs.Takes.{HasSpace}
use Rattle.dwz_def_tops.specs.Lists.{Nth}
use Rattle.dwz_def_tops.specs.Spots.{EntryName, FileUnit}
use Rattle.dwz_check_index.specs.Both.{from_top}
use Rattle.dwz_check_index.specs.Index.{CrossIndex, IsCrossIndex}
use Rattle.dwz_check_sides.specs.declared.lists.NameLists.{NameLists}
use Rattle.dwz_check_sides.specs.Names.{IsListNumber}
use Rattle.dwz_graph.specs.declared.file.File.{File}
use Rattle.dwz_groups.specs.declared.groups.Edge.{Edge}
use Rattle.dwz_unit.specs.Rows.{units_of}
use Rattle.dwz_reuse.specs.Spaces.{IsNoType, space_edge}

-- so many files have an index each, with numbers from 0 on
pub record HaveIndexes (files : List File) (n : ℕ) (indexes : List CrossIndex) : Type 0 where
  pub long : length indexes ≡ n
  pub each : (k : ℕ) (f : File) (x : CrossIndex) → slice_get files k ≡ Some f → slice_get indexes k ≡ Some x → (around : Around ℕ)
      (said : List (DwUnit ℕ))
      → units_meaning around (units_of f.units) ≡ Ok said → IsCrossIndex (from_top 0) said x

-- a unit has a space whose name list has that number
pub record IsUnitSpace (known : NameLists) (units : List (FileUnit EntryName)) (e : Edge) : Type 0 where
  pub names : List (List ℕ)
  pub space : HasSpace units e.key names
  pub number : IsListNumber known names e.value

-- of the units before that number these are the numbers of the name lists of all spaces, where they are no type units
pub record AreUnitSpaces (known : NameLists) (units : List (FileUnit EntryName)) (before : ℕ) (edges : List Edge) : Type 0 where
  pub from : (e : Edge) → In e edges → IsUnitSpace known units e
  pub found : (u : ℕ) (f : FileUnit EntryName) (names : List (List ℕ)) → u < before → Nth 0 units u f → IsNoType f.unit.kind
      → HasSpace units u names
      → (k : ℕ) × IsListNumber known names k × In (space_edge u k) edges
