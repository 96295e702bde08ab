-- The name lists of the spaces of units of files, and of those of a finished common file, each under one number.
use Rattle.std.specs.Prelude.{◌≡◌, ℕ, List}
use Rattle.dwz_def_reading.specs.Lists.{In}
use Rattle.dwz_def_taken.specs.Beside.{Reused}
use Rattle.dwz_def_taken.specs.Takes.{HasSpace}
use Rattle.dwz_def_tops.specs.Lists.{Nth}
use Rattle.dwz_def_tops.specs.Spots.{EntryName, FileUnit}
use Rattle.dwz_takes.specs.Takes.{list_at}
use Rattle.dwz_reuse.specs.Spaces.{IsNoType}

-- each unit has the numbers of the name lists of its spaces, where it is no type unit
pub record ShowLists (units : List (FileUnit EntryName)) (name : ℕ → List (List ℕ)) (lists : List (List ℕ)) : Type 0 where
  pub only : (u n : ℕ) → In n (list_at lists u) → HasSpace units u (name n)
  pub found : (u n : ℕ) (f : FileUnit EntryName) → Nth 0 units u f → IsNoType f.unit.kind → HasSpace units u (name n) → In n (list_at lists u)

-- so have the units of files and the partial units of the common file, and each name list of a partial unit has a number
pub record ShowNames (r : Reused) (units parts : List (List ℕ)) : Type 0 where
  pub name : ℕ → List (List ℕ)
  pub unit_names : ShowLists r.units name units
  pub part_names : ShowLists r.commons name parts
  pub named : (p : ℕ) (names : List (List ℕ)) → HasSpace r.commons p names → (n : ℕ) × (name n ≡ names)
