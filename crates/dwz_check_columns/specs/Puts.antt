-- Inner: what is put of the nodes of one file behind those of others.
use Rattle.std.specs.Prelude.{◌≡◌, ℕ, List, ◌++◌, length}
use Rattle.dwz_def_reading.specs.Documents.{DwUnit}
use Rattle.dwz_def_tops.specs.Lists.{NoneTwice}
use Rattle.dwz_def_tops.specs.Shown.{units_keys}
use Rattle.dwz_def_cross.specs.CrossSame.{EachTwo}
use Rattle.dwz_def_check.specs.CrossNodes.{lone_entries}
use Rattle.dwz_check_sides.specs.declared.lists.NameLists.{NameLists}
use Rattle.dwz_check_sides.specs.Names.{IsListNumber}
use Rattle.dwz_check_columns.specs.Drawn.{lone_lists}

-- the numbers of these name lists were put
abbrev pub PutsLists : NameLists → List (List (List ℕ)) → List ℕ → List ℕ → Type 0
PutsLists known lists old new = (put : List ℕ) × (new ≡ old ++ put) × EachTwo (IsListNumber known) lists put

-- those of the roots and spaces of units were put, in order: as many as these, and those of their name lists, where no place stands twice
pub record PutsLone (known : NameLists) (said : List (DwUnit ℕ)) (old new : List ℕ) : Type 0 where
  pub put : List ℕ
  pub new_are : new ≡ old ++ put
  pub many : length put ≡ length (lone_entries said)
  pub are : NoneTwice (units_keys said) → EachTwo (IsListNumber known) (lone_lists said) put
