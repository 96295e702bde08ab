-- Files over a finished common file: what is known of both, the tops of both, and their plan.
use Rattle.std.specs.Prelude.{◌≡◌, ℕ, ◌<◌, ◌≤◌, ◌^◌, false, All, List, [], ◌∷◌, ◌++◌, length, map, replicate, Ok}
use Rattle.dwz_def_reading.specs.Documents.{Doc, DwUnit}
use Rattle.dwz_def_reading.specs.Lists.{In}
use Rattle.dwz_def_reading.specs.Meanings.{Around}
use Rattle.dwz_def_reading.specs.Meant.{units_meaning}
use Rattle.dwz_def_reading.specs.Units.{entries_in}
use Rattle.dwz_def_tops.specs.Seen.{IsPartial}
use Rattle.dwz_def_tops.specs.Spots.{file_numbers, tops_of, units_of}
use Rattle.dwz_def_taken.specs.declared.fixed.Fixed.{Fixed}
use Rattle.dwz_def_taken.specs.Beside.{compile_doc, own_tops, reused_of, together}
use Rattle.dwz_def_taken.specs.Laws.{ArePlacedOver}
use Rattle.dwz_def_taken.specs.Over.{move_over}
use Rattle.dwz_def_taken.specs.Takes.{IsFixed}
use Rattle.dwz_unit.specs.Rows.{units_of as raw_units}
use Rattle.dwz_graph.specs.declared.file.File.{File}
use Rattle.dwz_check_index.specs.Both.{from_top}
use Rattle.dwz_check_index.specs.Index.{CrossIndex, IsCrossIndex}
use Rattle.dwz_groups.specs.declared.tops.TopRow.{TopRow}
use Rattle.dwz_groups.specs.declared.tops.Tops.{Tops}
use Rattle.dwz_move_files.specs.Outlines.{IsOutline}
use Rattle.dwz_plan.specs.declared.plan.Partial.{Partial}
use Rattle.dwz_plan.specs.OverLaws.{ShowsAllOver, common_tops}
use Rattle.dwz_plan.specs.Planned.{Planned}
use Rattle.dwz_layout_numbers.specs.Images.{ShowsStandIns}
use Rattle.dwz_layout_input.specs.declared.planned.PlannedFiles.{PlannedFiles}

-- A finished common file says this document, of partial units, and has few entries; its index numbers its tops behind those of the files. No
-- two units or entries of a file have one place. What is taken from it is fixed.
pub record IsTakenFrom (docs : List (Doc ℕ)) (common : File) (index : CrossIndex) (fixed : Fixed) (doc : Doc ℕ) : Type 0 where
  pub around : Around ℕ
  pub means : units_meaning around (raw_units common.units) ≡ Ok doc.units
  pub few : entries_in (raw_units common.units) ≤ 2 ^ 28
  pub partial : (u : DwUnit ℕ) → In u doc.units → IsPartial u.kind
  pub index_is : IsCrossIndex (from_top (own_tops (reused_of docs doc))) doc.units index
  pub placed : ArePlacedOver docs doc
  pub roots : length fixed.roots ≡ length doc.units
  pub fixed_is : IsFixed (reused_of docs doc) fixed

-- The first rows are the outline of the files. Behind them is one for each top of the common file: it may not move, and refers to none. Its
-- units stand behind those of the files, and its number is that of files.
pub record IsOutlineOver (docs : List (Doc ℕ)) (common : Doc ℕ) (tops : Tops) : Type 0 where
  pub own : Tops
  pub outline : IsOutline docs own
  pub own_files : own.files ≡ length docs
  pub rows_behind : List TopRow
  pub rows : tops.rows ≡ own.rows ++ rows_behind
  pub units_behind : map (λ row. row.unit) rows_behind ≡ map (λ t. t.unit) (common_tops (reused_of docs common))
  pub still : All (λ row. row.movable ≡ false) rows_behind
  pub targets : tops.targets ≡ own.targets ++ replicate (length rows_behind) []
  pub files_of_units : tops.files_of_units ≡ own.files_of_units ++ replicate (length common.units) (length docs)
  pub files : tops.files ≡ length docs

-- There is a row for each top of both, and the plan has an answer for each of these and for each unit of both. Its partial units are those of
-- the common file, and then such of one file each. Their users are units of the files. The former hold tops of both, and the latter tops of the
-- files. There are few of all these.
pub record FitsOver (docs : List (Doc ℕ)) (common : Doc ℕ) (tops : Tops) (plan : Planned) : Type 0 where
  pub rows : length tops.rows ≡ length (tops_of (together (reused_of docs common)))
  pub few_rows : length tops.rows < 2 ^ 32
  pub few_units : length (together (reused_of docs common)) < 2 ^ 32
  pub files : tops.files ≡ length docs
  pub homes : length plan.homes ≡ length (tops_of (together (reused_of docs common)))
  pub stand_ins : length plan.stand_ins ≡ length (tops_of (together (reused_of docs common)))
  pub kept : length plan.kept ≡ length (together (reused_of docs common))
  pub imports : length plan.imports ≡ length (together (reused_of docs common))
  pub standing : List Partial
  pub local : List Partial
  pub parts : plan.partials ≡ standing ++ local
  pub many_standing : length standing ≡ length common.units
  pub of_common : All (λ part. part.file ≡ length docs) standing
  pub many_local : length local ≤ length (tops_of (units_of docs))
  pub of_files : All (λ part. part.file < length docs) local
  pub few_parts : length plan.partials < 2 ^ 32
  pub few_tops : All (λ part. length part.tops < 2 ^ 32) plan.partials
  pub users : All (λ part. All (λ u. u < length (units_of docs)) part.users) plan.partials
  pub standing_tops : All (λ part. All (λ t. t < length (tops_of (together (reused_of docs common)))) part.tops) standing
  pub local_tops : All (λ part. All (λ t. t < length (tops_of (units_of docs))) part.tops) local

-- the tops of both, and the plan by which tops of the files move over the common file
pub record ArePlannedOver (docs : List (Doc ℕ)) (common : Doc ℕ) (fixed : Fixed) (p : PlannedFiles) : Type 0 where
  pub outline : IsOutlineOver docs common p.tops
  pub shows : ShowsAllOver (reused_of docs common) (move_over (reused_of docs common) fixed (file_numbers 0 docs)) (length docs) p.plan
  pub stand_ins : ShowsStandIns (docs ++ compile_doc common ∷ []) (move_over (reused_of docs common) fixed (file_numbers 0 docs)) p.plan
  pub fits : FitsOver docs common p.tops p.plan
