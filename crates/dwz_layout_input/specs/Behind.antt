-- Inner: no public clause cites what follows. The tops of a common file behind those of files.
use Rattle.std.specs.Prelude.{◌≡◌, ℕ, suc, ◌-◌, ◌≤◌, ◌^◌, List, [], ◌∷◌, ◌++◌, length, replicate, Ok}
use Rattle.dwz_def_reading.specs.Documents.{Doc, DwUnit}
use Rattle.dwz_def_reading.specs.Lists.{In}
use Rattle.dwz_def_reading.specs.Meanings.{Around}
use Rattle.dwz_def_reading.specs.Meant.{units_meaning}
use Rattle.dwz_def_reading.specs.Units.{entries_in}
use Rattle.dwz_def_tops.specs.Seen.{IsPartial}
use Rattle.dwz_def_taken.specs.Beside.{own_tops, reused_of}
use Rattle.dwz_unit.specs.Rows.{units_of as raw_units}
use Rattle.dwz_graph.specs.declared.file.File.{File}
use Rattle.dwz_check_index.specs.Both.{from_top}
use Rattle.dwz_check_index.specs.Index.{CrossIndex, IsCrossIndex}
use Rattle.dwz_groups.specs.declared.tops.Tops.{Tops}
use Rattle.dwz_match.specs.Parts.{start_in}
use Rattle.dwz_move_files.specs.Outlines.{IsOutline}

-- of units, the first of which has that number, the number of each once for each of its tops: up to where those of the next begin
abbrev pub units_from : (end unit : ℕ) → List ℕ → List ℕ
units_from end unit [] = []
units_from end unit (s ∷ starts) = replicate (start_in end starts - s) unit ++ units_from end (suc unit) starts

-- an outline of files, and the index of a common file, which numbers its tops behind those of the files
pub record StandBehind (docs : List (Doc ℕ)) (doc : Doc ℕ) (own : Tops) (common : File) (index : CrossIndex) : Type 0 where
  pub outline : IsOutline docs own
  pub files : own.files ≡ length docs
  pub few_rows : length own.rows ≤ 2 ^ 29
  pub few_units : length own.files_of_units ≤ 2 ^ 29
  pub around : Around ℕ
  pub means : units_meaning around (raw_units common.units) ≡ Ok doc.units
  pub few : entries_in (raw_units common.units) ≤ 2 ^ 28
  pub partial : (u : DwUnit ℕ) → In u doc.units → IsPartial u.kind
  pub index_is : IsCrossIndex (from_top (own_tops (reused_of docs doc))) doc.units index
