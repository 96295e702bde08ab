-- A common file that stands behind files: its entries and tops are counted behind theirs.
use Rattle.std.specs.Prelude.{ℕ, ◌+◌, ◌<◌, ◌≤◌, ◌^◌, ◌++◌, All, List, length, map}
use Rattle.dwz_def_reading.specs.Documents.{Doc, DwUnit}
use Rattle.dwz_def_reading.specs.Lists.{In}
use Rattle.dwz_def_tops.specs.Seen.{IsPartial}
use Rattle.dwz_def_taken.specs.Beside.{own_tops, reused_of}
use Rattle.dwz_check_index.specs.Both.{from_top}
use Rattle.dwz_check_index.specs.Index.{CrossIndex, IsCrossIndex}
use Rattle.dwz_graph.specs.declared.file.File.{File}
use Rattle.dwz_graph.specs.Index.{Index}
use Rattle.dwz_graph.specs.EntryCounts.{entry_count, tops_from}
use Rattle.dwz_plan.specs.Planned.{Planned}
use Rattle.dwz_layout_input.specs.Needs.{IsFit}

-- the index is that of a common file, all of whose units are partial; its tops have the numbers behind those of the files
pub record IsBehind (docs : List (Doc ℕ)) (common : Doc ℕ) (x : CrossIndex) : Type 0 where
  pub partial : (u : DwUnit ℕ) → In u common.units → IsPartial u.kind
  pub index : IsCrossIndex (from_top (own_tops (reused_of docs common))) common.units x
  pub few : length x.steps ≤ 2 ^ 28

-- the entries of the tops of files, and of the common file behind them
abbrev pub tops_behind : List Index → CrossIndex → List ℕ
tops_behind indexes x = tops_from 0 indexes ++ map (λ t. entry_count indexes + t.entry) x.tops

-- the plan has an answer for each of these tops, and there are fewer than 2 ^ 32 entries of both
pub record IsFitOver (files : List File) (indexes : List Index) (plan : Planned) (x : CrossIndex) : Type 0 where
  pub fit : IsFit files indexes plan (length (tops_behind indexes x))
  pub few : entry_count indexes + length x.steps < 2 ^ 32
  pub inside : All (λ t. t.entry < length x.steps) x.tops
