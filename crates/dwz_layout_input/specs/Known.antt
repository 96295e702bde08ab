-- What is known of the spaces of all files.
use Rattle.std.specs.Prelude.{◌≡◌, ℕ, ◌+◌, ◌<◌, ◌≤◌, ◌^◌, All, List, length, map}
use Rattle.dwz_def_reading.specs.Documents.{Doc}
use Rattle.dwz_def_tops.specs.Spots.{tops_of, units_of}
use Rattle.dwz_graph.specs.Index.{Index}
use Rattle.dwz_layout_items.specs.Chains.{IsRising}
use Rattle.dwz_layout_order.specs.Lists.{all_spaces, all_tops, rows_from, spaces_at}
use Rattle.dwz_layout_order.specs.Shown.{KnowsSpaces}
use Rattle.dwz_layout_order.specs.Spaces.{spaces_of}
use Rattle.dwz_layout_input.specs.declared.spaces.Spaces.{Spaces}

-- There is a row for each space, and for each top the spaces that it stands in, by the numbers of names and of name lists. A space stands
-- behind the one that it stands in, and each top in spaces that there are.
pub record AreSpaces (docs : List (Doc ℕ)) (indexes : List Index) (s : Spaces) : Type 0 where
  pub texts : List ℕ
  pub lists : List ℕ
  pub rows_are : s.rows.items ≡ rows_from 0 (all_spaces indexes)
  pub of_tops_are : s.of_tops.items ≡ map (spaces_at lists) (all_tops indexes)
  pub knows : KnowsSpaces (units_of docs) s.rows.items texts lists (all_tops indexes)
  pub rising : IsRising s.rows.items
  pub within : All (λ x. x.inner ≤ length s.rows.items) s.of_tops.items
  pub few : length s.rows.items + 2 < 2 ^ 32
  pub many : length s.rows.items ≡ length (spaces_of (units_of docs))
  pub many_tops : length s.of_tops.items ≡ length (tops_of (units_of docs))
