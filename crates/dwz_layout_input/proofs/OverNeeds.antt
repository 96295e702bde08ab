-- What a plan over a common file needs of the rows of both.
use Rattle.std.proofs.Common.{◌≡◌, ℕ, ◌+◌, ◌-◌, ◌<◌, ◌≤◌, ◌^◌, All, List, [], get_or, length, map, take, Option, None, Some, MatchOption, sym, ap, subst, ◌∙◌, arith}
use Rattle.std.specs.Prelude.{replicate}
use Rattle.std.specs.List.{range_with_len}
use Rattle.std.proofs.lemmas.List.{get_or_default, length-append, length-replicate, take-append-le, take_all}
use Rattle.std.proofs.lemmas.List.Elements.{All-append, All-weaker}
use Rattle.std.proofs.lemmas.Option.{get_or_from_slice_get}
use Rattle.dwz_model.proofs.ListFacts.{got_map, in_map}
use Rattle.dwz_model.proofs.Members.{in_map_from, nth_below}
use Rattle.dwz_def_reading.specs.Documents.{Doc}
use Rattle.dwz_def_reading.specs.Lists.{In}
use Rattle.dwz_def_tops.specs.Spots.{Top, tops_of}
use Rattle.dwz_def_tops.proofs.RowLemmas.{top_of}
use Rattle.dwz_def_tops.proofs.TopNumbers.{number_below, top_at, top_there, tops_numbers}
use Rattle.dwz_def_taken.specs.declared.fixed.Fixed.{Fixed}
use Rattle.dwz_def_taken.specs.Beside.{Reused, own_tops, reused_of, together}
use Rattle.dwz_def_taken.specs.Takes.{IsImage, IsTaken, image_at, takes_of}
use Rattle.dwz_groups.specs.declared.tops.TopRow.{TopRow}
use Rattle.dwz_groups.specs.declared.tops.Tops.{Tops}
use Rattle.dwz_plan.specs.Over.{IsImageRow, own_units}
use Rattle.dwz_plan.specs.OverLaws.{common_tops}
use Rattle.dwz_plan.proofs.ListFacts.{all_from_in, in_range}
use Rattle.dwz_plan.proofs.OverParts.{units_are}
use Rattle.dwz_plan.proofs.OverRows.{own_units_is}
use Rattle.dwz_layout_input.proofs.OutlineNeeds.{least_in_rows, rows_low, targets_rows, units_many}
use Rattle.dwz_layout_input.proofs.OverMade.{IsMadeOver, all_many, both_many, commons_many, found_many, own_many, shown, units_all, units_long}

module _ (docs : List (Doc ℕ)) (doc : Doc ℕ) (fixed : Fixed) (tops : Tops) (found least : List ℕ) (made : IsMadeOver docs doc fixed tops found least) where
  abbrev r : Reused
  r = reused_of docs doc

  abbrev own : Tops
  own = made.outline.own

  -- ---- few

  pub room : length fixed.roots + length tops.rows < 2 ^ 32
  room = omega (arith, made.roots, made.few_commons, both_many docs doc fixed tops found least made, made.few_tops, made.few_behind)

  pub few_all : length tops.files_of_units < 2 ^ 32
  few_all = omega (arith, units_long docs doc fixed tops found least made, made.few_units, made.few_commons)

  pub parts_few : length fixed.roots ≤ length tops.files_of_units
  parts_few = omega (arith, made.roots, units_long docs doc fixed tops found least made)

  -- ---- the least

  pub least_inside : All (λ n. n < length tops.rows) least
  least_inside =
      let count = both_many docs doc fixed tops found least made in
      let many = own_many docs doc fixed tops found least made in
      let same = found_many docs doc fixed tops found least made in
      subst (λ (w : List ℕ). All (λ n. n < length tops.rows) w) (sym made.least_is)
      (All-append (λ n. n < length tops.rows) found (range_with_len (length found) (length tops.rows - length found))
      (All-weaker (λ n. n < length own.rows) (λ n. n < length tops.rows) (λ n low. omega (arith, low, count, many)) found (least_in_rows docs own found made.outline.outline made.are))
      (all_from_in (λ n. n < length tops.rows) (range_with_len (length found) (length tops.rows - length found))
      (λ n is. omega (arith, in_range n (length found) (length tops.rows - length found) is, same, count))))

  -- ---- units

  behind_low : (row : TopRow) → In row made.outline.rows_behind → row.unit < length tops.files_of_units
  behind_low row is =
      let o = in_map_from (λ (t : Top). t.unit) row.unit (common_tops r)
      (subst (λ (w : List ℕ). In row.unit w) made.outline.units_behind (in_map (λ (w : TopRow). w.unit) row made.outline.rows_behind is)) in
      let u = top_of (length r.units) (own_tops r) r.commons o.source o.there in
      let low = nth_below (length r.units) r.commons o.source.unit u.unit u.nth in
      omega (arith, low, o.is, units_long docs doc fixed tops found least made, commons_many docs doc)

  pub units_inside : All (λ row. row.unit < length tops.files_of_units) tops.rows
  units_inside =
      let many = units_many docs own made.outline.outline in
      let all = units_long docs doc fixed tops found least made in
      subst (λ (w : List TopRow). All (λ row. row.unit < length tops.files_of_units) w) (sym made.outline.rows)
      (All-append (λ (row : TopRow). row.unit < length tops.files_of_units) own.rows made.outline.rows_behind
      (All-weaker (λ (row : TopRow). row.unit < length own.files_of_units) (λ (row : TopRow). row.unit < length tops.files_of_units) (λ row low. omega (arith, low, many, all)) own.rows
      (rows_low docs own made.outline.outline))
      (all_from_in (λ (row : TopRow). row.unit < length tops.files_of_units) made.outline.rows_behind behind_low))

  pub files_inside : All (λ file. file < tops.files) (take (own_units tops fixed) tops.files_of_units)
  files_inside =
      let many = units_many docs own made.outline.outline in
      let first : own_units tops fixed ≡ length own.files_of_units = omega (arith, many, units_long docs doc fixed tops found least made, made.roots) in
      let behind = replicate (length doc.units) (length docs) in
      let same : take (own_units tops fixed) tops.files_of_units ≡ own.files_of_units =
      (λ i. take (first i) (made.outline.files_of_units i)) ∙ take-append-le (length own.files_of_units) own.files_of_units behind (omega arith) ∙ take_all (length own.files_of_units) own.files_of_units (omega arith) in
      let count : tops.files ≡ own.files = made.outline.files ∙ sym made.outline.own_files in
      subst (λ (w : List ℕ). All (λ file. file < tops.files) w) (sym same)
      (All-weaker (λ file. file < own.files) (λ file. file < tops.files) (λ file low. omega (arith, low, count)) own.files_of_units made.outline.outline.shows.files)

  pub targets_long : length tops.targets ≡ length tops.rows
  targets_long =
      let all = ap (λ (w : List (List ℕ)). length w) made.outline.targets in
      let own_long = targets_rows docs own made.outline.outline in
      let rows = ap (λ (w : List TopRow). length w) made.outline.rows in
      omega (
        arith,
        all,
        own_long,
        rows,
        length-append own.targets (replicate (length made.outline.rows_behind) []),
        length-append own.rows made.outline.rows_behind,
        length-replicate {A = List ℕ} (length made.outline.rows_behind) [],
      )

  -- ---- what is taken

  pub takes_long : length fixed.takes ≡ length tops.files_of_units
  takes_long = made.fixed_is.units ∙ sym (units_all docs doc fixed tops found least made)

  pub takes_inside : All (λ parts. All (λ p. p < length fixed.roots) parts) fixed.takes
  takes_inside u d l =
      subst (λ (w : List ℕ). All (λ p. p < length fixed.roots) w) (get_or_default fixed.takes u [] d l)
      (all_from_in (λ p. p < length fixed.roots) (takes_of fixed u) (λ p is. (
      let low = ((made.fixed_is.takes u p).0 is).part in
      omega (arith, low, commons_many docs doc, made.roots))))

  pub images_long : length fixed.images ≡ length tops.rows
  images_long = made.fixed_is.tops ∙ sym (all_many docs doc fixed tops found least made)

  pub blocked_long : length fixed.blocked ≡ length tops.rows
  blocked_long = made.fixed_is.flags ∙ sym (all_many docs doc fixed tops found least made)

  unit_is : (t : Top) → In t (tops_of (together r)) → get_or (map (λ (row : TopRow). row.unit) tops.rows) t.number 0 ≡ t.unit
  unit_is t there =
      let all = tops_of (together r) in
      ap (λ (w : List ℕ). get_or w t.number 0) (units_are r fixed tops least made.fixed_is (shown docs doc fixed tops found least made))
      ∙ get_or_from_slice_get (map (λ (u : Top). u.unit) all) t.number t.unit 0 (got_map (λ (u : Top). u.unit) all t.number t (top_there (together r) t there))

  image_row : (t : Top) → In t (tops_of (together r)) → (o : Option ℕ) → MatchOption o (IsTaken r t → ⊥) (IsImage r t) → IsImageRow tops fixed o
  image_row t there None h = tt
  image_row t there (Some c) h =
      let all = tops_of (together r) in
      let part = h.taken.in_part in
      let many = all_many docs doc fixed tops found least made in
      let low = number_below 0 all h.top (tops_numbers (together r)) part.0 in
      let unit = ap (λ (n : ℕ). get_or (map (λ (row : TopRow). row.unit) tops.rows) n 0) (sym h.number) ∙ unit_is h.top part.0 in
      let first = own_units_is r fixed tops least (shown docs doc fixed tops found least made) in
      (omega (arith, low, many, h.number), omega (arith, first, unit, part.1))

  pub images_inside : All (IsImageRow tops fixed) fixed.images
  images_inside k d l =
      let all = tops_of (together r) in
      let many = made.fixed_is.tops in
      let t = top_at 0 all k (tops_numbers (together r)) (omega arith) (omega (arith, many, l)) in
      let at : image_at fixed t.0.number ≡ get_or fixed.images k d = ap (image_at fixed) t.2 ∙ get_or_default fixed.images k None d l in
      subst (IsImageRow tops fixed) at (image_row t.0 t.1 (image_at fixed t.0.number) (made.fixed_is.images t.0 t.1))
