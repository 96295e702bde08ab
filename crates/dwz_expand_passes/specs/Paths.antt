-- Rows of a line table by their paths, as they are kept.
use Rattle.std.specs.Prelude.{◌≡◌, ℕ, List, [], ◌∷◌, ◌++◌, Option, Some, None}
use Rattle.std.specs.BTreeMap.{BTreeMap, get_by}
use Rattle.std.specs.Cmp.Lexicographic.{slice_cmp}
use Rattle.std.specs.Global.{Vec}
use Rattle.std.specs.Option.{is_some}
use Rattle.std.specs.Ordering.{nat_cmp}
use Rattle.dwz_def_expand.specs.Chosen.{row_of_path}
use Rattle.dwz_expand_passes.specs.declared.paths.TablePaths.{TablePaths}

-- the row that is kept for a path
abbrev pub kept_row : BTreeMap (Vec ℕ) ℕ → List ℕ → Option ℕ
kept_row rows path = get_by (λ k. slice_cmp nat_cmp path k.items) rows

-- of each path the least row is kept
abbrev pub AreRowsOf : List (List ℕ) → BTreeMap (Vec ℕ) ℕ → Type 0
AreRowsOf paths rows = (path : List ℕ) → kept_row rows path ≡ row_of_path 0 paths path

-- of a table that may not be there
abbrev pub row_in : Option (List (List ℕ)) → List ℕ → Option ℕ
row_in None path = None
row_in (Some paths) path = row_of_path 0 paths path

-- the rows of the line table of a unit, if it has one
pub record IsPathsOf (paths : Option (List (List ℕ))) (t : TablePaths) : Type 0 where
  pub place : is_some t.place ≡ is_some paths
  pub rows : (path : List ℕ) → kept_row t.rows path ≡ row_in paths path

abbrev pub rows_before : List (List ℕ) → List ℕ → List (List ℕ)
rows_before paths path = paths ++ path ∷ []
