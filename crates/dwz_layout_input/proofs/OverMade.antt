-- Rows of files with those of a common file behind them, which are planned over it, show the tops of both.
use Rattle.std.proofs.Common.{◌≡◌, ℕ, ◌+◌, ◌-◌, ◌≤◌, ◌^◌, List, [], ◌++◌, length, map, sym, ap, ◌∙◌, arith}
use Rattle.std.specs.Prelude.{replicate}
use Rattle.std.specs.List.{range_with_len}
use Rattle.std.proofs.lemmas.List.{length-append, length-map, length-replicate}
use Rattle.std.proofs.lemmas.List.FromFn.{length-map-range_with_len}
use Rattle.dwz_def_reading.specs.Documents.{Doc, unit_map}
use Rattle.dwz_def_tops.specs.Spots.{EntryName, FileUnit, Top, in_file, tops_of, units_of}
use Rattle.dwz_def_taken.specs.declared.fixed.Fixed.{Fixed}
use Rattle.dwz_def_taken.specs.Beside.{Reused, as_compile, reused_of, together}
use Rattle.dwz_def_taken.specs.Laws.{ArePlacedOver, IsReused}
use Rattle.dwz_def_taken.specs.Takes.{IsFixed}
use Rattle.dwz_def_taken.proofs.NamesOver.{named_over}
use Rattle.dwz_groups.specs.declared.tops.TopRow.{TopRow}
use Rattle.dwz_groups.specs.declared.tops.Tops.{Tops}
use Rattle.dwz_label.specs.Nodes.{AreLeast}
use Rattle.dwz_label_files.proofs.PlanLemmas.{decides_apart}
use Rattle.dwz_match.proofs.CommonTops.{commons_are, spot_of}
use Rattle.dwz_plan.specs.OverLaws.{ShowsOver, common_tops}
use Rattle.dwz_plan.proofs.OverParts.{all_tops}
use Rattle.dwz_layout_input.specs.PlannedOver.{IsOutlineOver}
use Rattle.dwz_layout_input.proofs.OutlineNeeds.{rows_many, units_many}

range_long : (s n : ℕ) → length (range_with_len s n) ≡ n
range_long s n = sym (length-map (range_with_len s n) (λ (k : ℕ). k)) ∙ length-map-range_with_len (λ (k : ℕ). k) s n

-- there are as many units of the common file as it says
pub commons_many : (docs : List (Doc ℕ)) (doc : Doc ℕ) → length (reused_of docs doc).commons ≡ length doc.units
commons_many docs doc =
    ap (λ (w : List (FileUnit EntryName)). length w) (commons_are docs doc) ∙ length-map (map (unit_map (spot_of docs doc)) (map as_compile doc.units)) (in_file (length docs))
    ∙ length-map (map as_compile doc.units) (unit_map (spot_of docs doc)) ∙ length-map doc.units as_compile

-- What is planned: few tops of both, of which those of the files have their least alike ones, and the others themselves. What is taken is fixed.
pub record IsMadeOver (docs : List (Doc ℕ)) (doc : Doc ℕ) (fixed : Fixed) (tops : Tops) (found least : List ℕ) : Type 0 where
  pub outline : IsOutlineOver docs doc tops
  pub placed : ArePlacedOver docs doc
  pub roots : length fixed.roots ≡ length doc.units
  pub fixed_is : IsFixed (reused_of docs doc) fixed
  pub few_tops : length (tops_of (units_of docs)) ≤ 2 ^ 29
  pub few_units : length (units_of docs) ≤ 2 ^ 29
  pub few_behind : length (common_tops (reused_of docs doc)) ≤ 2 ^ 28
  pub few_commons : length doc.units ≤ 2 ^ 28
  pub are : AreLeast (units_of docs) found
  pub least_is : least ≡ found ++ range_with_len (length found) (length tops.rows - length found)

module _ (docs : List (Doc ℕ)) (doc : Doc ℕ) (fixed : Fixed) (tops : Tops) (found least : List ℕ) (made : IsMadeOver docs doc fixed tops found least) where
  abbrev r : Reused
  r = reused_of docs doc

  abbrev own : Tops
  own = made.outline.own

  pub reused_is : IsReused (reused_of docs doc)
  reused_is = named_over docs doc made.placed

  abbrev pub shown : ShowsOver (reused_of docs doc) fixed tops least
  shown =
      let o = made.outline in
      record {
        own = o.own;
        own_least = found;
        shows = o.outline.shows;
        decides = decides_apart (units_of docs) o.own found o.outline.shows o.outline.movable made.are;
        files = o.files ∙ sym o.own_files;
        rows_behind = o.rows_behind;
        rows = o.rows;
        units_behind = o.units_behind;
        least_behind = range_with_len (length found) (length tops.rows - length found);
        least_is = made.least_is;
        targets_behind = replicate (length o.rows_behind) [];
        targets = o.targets;
        files_behind = replicate (length doc.units) (length docs);
        files_of_units = o.files_of_units;
        many_behind = length-replicate (length doc.units) (length docs) ∙ sym (commons_many docs doc);
        roots = made.roots ∙ sym (commons_many docs doc);
      }

  -- ---- how many there are

  pub own_many : length made.outline.own.rows ≡ length (tops_of (units_of docs))
  own_many = rows_many docs own made.outline.outline

  pub behind_many : length made.outline.rows_behind ≡ length (common_tops (reused_of docs doc))
  behind_many =
      sym (length-map made.outline.rows_behind (λ (row : TopRow). row.unit)) ∙ ap (λ (w : List ℕ). length w) made.outline.units_behind
      ∙ length-map (common_tops r) (λ (t : Top). t.unit)

  pub both_many : length tops.rows ≡ length (tops_of (units_of docs)) + length (common_tops (reused_of docs doc))
  both_many = let rows = ap (λ (w : List TopRow). length w) made.outline.rows in omega (arith, rows, length-append own.rows made.outline.rows_behind, own_many, behind_many)

  pub all_many : length tops.rows ≡ length (tops_of (together (reused_of docs doc)))
  all_many =
      let all = ap (λ (w : List Top). length w) (all_tops r fixed tops least made.fixed_is shown) in
      omega (arith, both_many, all, length-append (tops_of r.units) (common_tops r))

  pub units_long : length tops.files_of_units ≡ length (units_of docs) + length doc.units
  units_long =
      let files = ap (λ (w : List ℕ). length w) made.outline.files_of_units in
      omega (arith, files, length-append own.files_of_units (replicate (length doc.units) (length docs)), units_many docs own made.outline.outline, length-replicate (length doc.units) (length docs))

  pub units_all : length tops.files_of_units ≡ length (together (reused_of docs doc))
  units_all = omega (arith, units_long, length-append r.units r.commons, commons_many docs doc)

  pub found_many : length found ≡ length (tops_of (units_of docs))
  found_many = made.are.len

  pub least_long : length least ≡ length tops.rows
  least_long =
      let long = ap (λ (w : List ℕ). length w) made.least_is in
      let rest = range_long (length found) (length tops.rows - length found) in
      omega (arith, long, length-append found (range_with_len (length found) (length tops.rows - length found)), rest, found_many, both_many)
