-- What is planned over a common file, by what is known of the common file and of what was found of the files.
use Rattle.std.proofs.Common.{◌≡◌, ℕ, ◌+◌, ◌-◌, ◌≤◌, ◌^◌, List, ◌++◌, length, ap, ◌∙◌, arith}
use Rattle.std.specs.List.{range_with_len}
use Rattle.std.proofs.lemmas.List.{length-append, length-map}
use Rattle.dwz_def_reading.specs.Documents.{Doc}
use Rattle.dwz_def_tops.specs.Spots.{Top, tops_of, units_of}
use Rattle.dwz_def_taken.specs.declared.fixed.Fixed.{Fixed}
use Rattle.dwz_unit.specs.Rows.{units_of as raw_units}
use Rattle.dwz_unit.proofs.ShownLemmas.{units_few}
use Rattle.dwz_graph.specs.declared.file.File.{File}
use Rattle.dwz_check_index.specs.Both.{from_top}
use Rattle.dwz_check_index.specs.Index.{CrossIndex}
use Rattle.dwz_def_taken.specs.Beside.{own_tops, reused_of}
use Rattle.dwz_groups.specs.declared.tops.TopRow.{TopRow}
use Rattle.dwz_groups.specs.declared.tops.Tops.{Tops}
use Rattle.dwz_label.specs.Nodes.{AreLeast}
use Rattle.dwz_move_files.specs.Outlines.{IsOutline}
use Rattle.dwz_plan.specs.OverLaws.{common_tops}
use Rattle.dwz_layout_input.specs.Behind.{StandBehind}
use Rattle.dwz_layout_input.specs.PlannedOver.{IsOutlineOver, IsTakenFrom}
use Rattle.dwz_layout_input.proofs.BehindTops as Behind
use Rattle.dwz_layout_input.proofs.BehindUnits.{behind_many}
use Rattle.dwz_layout_input.proofs.OutlineNeeds.{rows_many, units_many}
use Rattle.dwz_layout_input.proofs.OverMade.{IsMadeOver}

module _ (docs : List (Doc ℕ)) (doc : Doc ℕ) (common : File) (index : CrossIndex) (fixed : Fixed) (t : IsTakenFrom docs common index fixed doc) where
  pub stand_of : (own : Tops) → IsOutline docs own → own.files ≡ length docs → length own.rows ≤ 2 ^ 29 → length own.files_of_units ≤ 2 ^ 29 → StandBehind docs doc own common index
  stand_of own outline files rows units = record {
    outline = outline;
    files = files;
    few_rows = rows;
    few_units = units;
    around = t.around;
    means = t.means;
    few = t.few;
    partial = t.partial;
    index_is = t.index_is;
  }

  -- the common file has few tops
  pub behind_few : length (common_tops (reused_of docs doc)) ≤ 2 ^ 28
  behind_few =
      let few = t.few in
      omega (arith, behind_many docs doc index t.partial t.index_is, Behind.tops_few t.around (raw_units common.units) doc.units t.means (from_top (own_tops (reused_of docs doc))) index t.index_is, few)

-- there is a row for each top of both
pub rows_in : (docs : List (Doc ℕ)) (doc : Doc ℕ) (tops : Tops) → IsOutlineOver docs doc tops → length tops.rows ≡ length (tops_of (units_of docs)) + length (common_tops (reused_of docs doc))
rows_in docs doc tops o =
    let rows = ap (λ (w : List TopRow). length w) o.rows in
    let units = ap (λ (w : List ℕ). length w) o.units_behind in
    omega (
      arith,
      rows,
      length-append o.own.rows o.rows_behind,
      rows_many docs o.own o.outline,
      units,
      length-map o.rows_behind (λ (row : TopRow). row.unit),
      length-map (common_tops (reused_of docs doc)) (λ (t : Top). t.unit),
    )

-- what was found of the files, and what is put together from it and from the common file
pub record IsFound (docs : List (Doc ℕ)) (common : File) (index : CrossIndex) (own tops : Tops) (found least : List ℕ) : Type 0 where
  pub outline : IsOutline docs own
  pub files : own.files ≡ length docs
  pub few_rows : length own.rows ≤ 2 ^ 29
  pub few_units : length own.files_of_units ≤ 2 ^ 29
  pub over : (some : List (Doc ℕ)) (doc : Doc ℕ) → StandBehind some doc own common index → IsOutlineOver some doc tops
  pub are : AreLeast (units_of docs) found
  pub least_is : least ≡ found ++ range_with_len (length found) (length tops.rows - length found)

-- the least alike ones were put together so
pub found_of : (docs : List (Doc ℕ)) (common : File) (index : CrossIndex) (own : Tops) → IsOutline docs own → own.files ≡ length docs → length own.rows ≤ 2 ^ 29 → length own.files_of_units ≤ 2 ^ 29
    → (tops : Tops) → ((some : List (Doc ℕ)) (doc : Doc ℕ) → StandBehind some doc own common index → IsOutlineOver some doc tops) → (found : List ℕ) → AreLeast (units_of docs) found
    → (first least : List ℕ) (count : ℕ) → first ≡ found → count ≡ length tops.rows → least ≡ first ++ range_with_len (length first) (count - length first)
    → IsFound docs common index own tops found least
found_of docs common index own outline files rows units tops over found are first least count same all is = record {
  outline = outline;
  files = files;
  few_rows = rows;
  few_units = units;
  over = over;
  are = are;
  least_is = is ∙ (λ i. same i ++ range_with_len (length (same i)) (all i - length (same i)));
}

pub made_of : (docs : List (Doc ℕ)) (doc : Doc ℕ) (common : File) (index : CrossIndex) (fixed : Fixed) (t : IsTakenFrom docs common index fixed doc) (own tops : Tops) (found least : List ℕ)
    → IsFound docs common index own tops found least → IsMadeOver docs doc fixed tops found least
made_of docs doc common index fixed t own tops found least f =
    let raw = raw_units common.units in
    let rows = f.few_rows in
    let units = f.few_units in
    let few = t.few in
    record {
      outline = f.over docs doc (stand_of docs doc common index fixed t own f.outline f.files f.few_rows f.few_units);
      placed = t.placed;
      roots = t.roots;
      fixed_is = t.fixed_is;
      few_tops = omega (arith, rows, rows_many docs own f.outline);
      few_units = omega (arith, units, units_many docs own f.outline);
      few_behind = behind_few docs doc common index fixed t;
      few_commons = omega (arith, Behind.units_many t.around raw doc.units t.means (from_top (own_tops (reused_of docs doc))) index t.index_is, units_few raw, few);
      are = f.are;
      least_is = f.least_is;
    }
