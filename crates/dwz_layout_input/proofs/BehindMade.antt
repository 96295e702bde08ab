-- The tops of files, and behind them those of a common file, as they are put together.
use Rattle.std.proofs.Common.{◌≡◌, ℕ, ◌+◌, ◌<◌, ◌≤◌, ◌^◌, false, All, List, [], ◌++◌, length, map, sym, ap, ◌∙◌, arith}
use Rattle.std.specs.Prelude.{replicate}
use Rattle.std.proofs.lemmas.List.{length-map}
use Rattle.dwz_def_reading.specs.Documents.{Doc}
use Rattle.dwz_def_reading.specs.Units.{entries_in}
use Rattle.dwz_def_tops.specs.Spots.{Top, units_of}
use Rattle.dwz_def_taken.specs.Beside.{own_tops, reused_of}
use Rattle.dwz_unit.specs.Rows.{units_of as raw_units}
use Rattle.dwz_unit.proofs.ShownLemmas.{units_few}
use Rattle.dwz_graph.specs.declared.file.File.{File}
use Rattle.dwz_check_index.specs.declared.index.CrossStarts.{CrossStarts}
use Rattle.dwz_check_index.specs.declared.index.UnitStart.{UnitStart}
use Rattle.dwz_check_index.specs.Both.{from_top}
use Rattle.dwz_check_index.specs.Index.{CrossIndex, start_of}
use Rattle.dwz_def_check.specs.CrossLists.{numbered_units}
use Rattle.dwz_groups.specs.declared.tops.TopRow.{TopRow}
use Rattle.dwz_groups.specs.declared.tops.Tops.{Tops}
use Rattle.dwz_plan.specs.OverLaws.{common_tops}
use Rattle.dwz_layout_input.specs.Behind.{StandBehind, units_from}
use Rattle.dwz_layout_input.specs.PlannedOver.{IsOutlineOver}
use Rattle.dwz_layout_input.proofs.BehindTops as Behind
use Rattle.dwz_layout_input.proofs.BehindUnits.{behind_many, behind_units, starts_many}
use Rattle.dwz_layout_input.proofs.OutlineNeeds.{rows_many, targets_rows, units_many}

module _ (docs : List (Doc ℕ)) (doc : Doc ℕ) (own : Tops) (common : File) (index : CrossIndex) (s : StandBehind docs doc own common index) where
  first_is : length own.files_of_units ≡ length (units_of docs)
  first_is = units_many docs own s.outline

  -- ---- few

  pub top_few : index.starts.top ≤ 2 ^ 29
  top_few = let top = ap (λ (w : CrossStarts). w.top) s.index_is.starts_are in (let rows = s.few_rows in omega (arith, top, rows, rows_many docs own s.outline))

  pub tops_few : length index.tops ≤ 2 ^ 28
  tops_few = let few = s.few in omega (arith, few, Behind.tops_few s.around (raw_units common.units) doc.units s.means (from_top (own_tops (reused_of docs doc))) index s.index_is)

  pub units_long : length index.units ≤ 2 ^ 28
  units_long =
      let many = ap (λ (w : List UnitStart). length w) s.index_is.units in
      let few = s.few in
      omega (
        arith,
        many,
        few,
        length-map (numbered_units (own_tops (reused_of docs doc)) 0 doc.units) start_of,
        starts_many (own_tops (reused_of docs doc)) 0 doc.units,
        Behind.units_many s.around (raw_units common.units) doc.units s.means (from_top (own_tops (reused_of docs doc))) index s.index_is,
        units_few (raw_units common.units),
      )

  pub targets_few : length own.targets ≤ 2 ^ 29
  targets_few = let few = s.few_rows in omega (arith, few, targets_rows docs own s.outline)

  pub entries_low : All (λ t. t.entry < entries_in (raw_units common.units)) index.tops
  entries_low = Behind.entries_low s.around (raw_units common.units) doc.units s.means (from_top (own_tops (reused_of docs doc))) index s.index_is

  -- ---- as many

  module _ (units : List ℕ) (are : units ≡ units_from (index.starts.top + length index.tops) (length own.files_of_units) (map (λ s. s.top) index.units)) where
    units_are : units ≡ map (λ (t : Top). t.unit) (common_tops (reused_of docs doc))
    units_are =
        are ∙ ap (λ (n : ℕ). units_from (index.starts.top + length index.tops) n (map (λ (w : UnitStart). w.top) index.units)) first_is
        ∙ sym (behind_units docs doc index (index.starts.top + length index.tops) s.partial s.index_is (λ i. index.starts.top + length index.tops))

    pub count_is : length units ≡ length index.tops
    count_is =
        ap (λ (w : List ℕ). length w) units_are ∙ length-map (common_tops (reused_of docs doc)) (λ (t : Top). t.unit) ∙ behind_many docs doc index s.partial s.index_is

    pub outline_of : (behind : List TopRow) → map (λ row. row.unit) behind ≡ units → All (λ row. row.movable ≡ false) behind → (tops : Tops) → tops.rows ≡ own.rows ++ behind
        → tops.targets ≡ own.targets ++ replicate (length index.tops) [] → tops.files_of_units ≡ own.files_of_units ++ replicate (length (raw_units common.units)) own.files
        → tops.files ≡ own.files → IsOutlineOver docs doc tops
    outline_of behind of_units still tops rows targets files_of_units files =
        let many : length index.tops ≡ length behind = sym count_is ∙ ap (λ (w : List ℕ). length w) (sym of_units) ∙ length-map behind (λ (row : TopRow). row.unit) in
        let count = Behind.units_many s.around (raw_units common.units) doc.units s.means (from_top (own_tops (reused_of docs doc))) index s.index_is in
        record {
          own = own;
          outline = s.outline;
          own_files = s.files;
          rows_behind = behind;
          rows = rows;
          units_behind = of_units ∙ units_are;
          still = still;
          targets = targets ∙ ap (λ (n : ℕ). own.targets ++ replicate n []) many;
          files_of_units = files_of_units ∙ (λ i. own.files_of_units ++ replicate (count i) (s.files i));
          files = files ∙ s.files;
        }
