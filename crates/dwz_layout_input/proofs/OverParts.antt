-- The plan of files over a common file fits the files.
use Rattle.std.proofs.Common.{◌≡◌, ◌≢◌, ℕ, suc, ◌+◌, ◌<◌, ◌≤◌, ◌^◌, ◌==◌, All, Bool, true, false, cond, List, [], ◌∷◌, ◌++◌, length, take, refl, sym, ap, subst, ◌∙◌, arith}
use Rattle.std.specs.List.{range_with_len}
use Rattle.std.proofs.lemmas.List.{length-append, length-take-le}
use Rattle.std.proofs.lemmas.List.Elements.{All-append, All-cons, All-nil, All-weaker}
use Rattle.dwz_def_reading.specs.Documents.{Doc}
use Rattle.dwz_def_reading.specs.Lists.{In}
use Rattle.dwz_def_tops.specs.Spots.{tops_of, units_of}
use Rattle.dwz_def_images.specs.Homes.{Common}
use Rattle.dwz_def_images.specs.Plan.{PartialUnit, partials}
use Rattle.dwz_def_taken.specs.declared.fixed.Fixed.{Fixed}
use Rattle.dwz_def_taken.specs.Beside.{Reused, reused_of, together}
use Rattle.dwz_def_taken.specs.Takes.{free_rule}
use Rattle.dwz_def_taken.proofs.CommonUnits.{not_shared}
use Rattle.dwz_groups.specs.declared.tops.TopRow.{TopRow}
use Rattle.dwz_groups.specs.declared.tops.Tops.{Tops}
use Rattle.dwz_plan.specs.declared.plan.Partial.{Partial}
use Rattle.dwz_plan.specs.declared.plan.Scope.TheVariants.{Each}
use Rattle.dwz_plan.specs.Over.{IsPlanOver, free_tops, own_count, own_units, planned_over, standing_part, standing_parts, tops_in}
use Rattle.dwz_plan.specs.OverLaws.{IsWholeOver}
use Rattle.dwz_plan.specs.Planned.{Planned}
use Rattle.dwz_plan.specs.Shows.{ShowsPlan}
use Rattle.dwz_plan.proofs.BridgeLemmas.{file_numbers_are}
use Rattle.dwz_plan.proofs.ListFacts.{all_from_in}
use Rattle.dwz_plan.proofs.OverBounds.{free_count, free_units, length-standing, standing_in, takers_low}
use Rattle.dwz_plan.proofs.OverRows.{free_shows, own_count_is, own_units_is}
use Rattle.dwz_plan.proofs.ShownOver.{whole_over}
use Rattle.dwz_layout_input.specs.PlannedOver.{FitsOver}
use Rattle.dwz_layout_input.proofs.OverMade.{IsMadeOver, all_many, both_many, least_long, own_many, shown, units_all, units_long}
use Rattle.dwz_layout_input.proofs.PartHomes.{own_files_by}
use Rattle.dwz_layout_input.proofs.PartsFew.{held_few, parts_few, tops_low, users_low}

-- ---- tops of a unit

tops_below : (unit n : ℕ) (rows : List TopRow) → All (λ t. t < n + length rows) (tops_in unit n rows)
unfolding tops_in
tops_below unit n [] = All-nil (λ t. t < n + 0)
tops_below unit n (row ∷ rows) = by (row.unit == unit) (All-weaker (λ t. t < suc n + length rows) (λ t. t < n + suc (length rows)) (λ t l. omega (arith, l)) (tops_in unit (suc n) rows) (tops_below unit (suc n) rows)) where
  by : (b : Bool) → All (λ t. t < n + suc (length rows)) (tops_in unit (suc n) rows) → All (λ t. t < n + suc (length rows)) (cond b (n ∷ tops_in unit (suc n) rows) (tops_in unit (suc n) rows))
  by true more = All-cons (λ t. t < n + suc (length rows)) n (tops_in unit (suc n) rows) (omega arith) more
  by false more = more

tops_few : (unit n : ℕ) (rows : List TopRow) → length (tops_in unit n rows) ≤ length rows
unfolding tops_in
tops_few unit n [] = omega arith
tops_few unit n (row ∷ rows) = by (row.unit == unit) (tops_few unit (suc n) rows) where
  by : (b : Bool) → length (tops_in unit (suc n) rows) ≤ length rows → length (cond b (n ∷ tops_in unit (suc n) rows) (tops_in unit (suc n) rows)) ≤ suc (length rows)
  by true l = omega (arith, l)
  by false l = omega (arith, l)

module _ (docs : List (Doc ℕ)) (doc : Doc ℕ) (fixed : Fixed) (tops : Tops) (found least : List ℕ) (made : IsMadeOver docs doc fixed tops found least) (plan : Planned)
    (is : IsPlanOver tops least fixed plan) where
  abbrev r : Reused
  r = reused_of docs doc

  abbrev free : Planned
  free = is.0

  abbrev own : Tops
  own = free_tops tops fixed

  abbrev low : List ℕ
  low = take (own_count tops fixed) least

  whole : IsWholeOver tops plan
  whole = subst (λ (p : Planned). IsWholeOver tops p) (sym is.2) (whole_over tops least fixed is.0)

  parts_are : plan.partials ≡ standing_parts tops fixed ++ free.partials
  unfolding planned_over
  parts_are = ap (λ (p : Planned). p.partials) is.2

  -- ---- those of the files

  count_is : own_count tops fixed ≡ length (tops_of (units_of docs))
  count_is = own_count_is r fixed tops least (shown docs doc fixed tops found least made) ∙ own_many docs doc fixed tops found least made

  units_is : own_units tops fixed ≡ length (units_of docs)
  units_is = own_units_is r fixed tops least (shown docs doc fixed tops found least made)

  rows_count : length own.rows ≡ length (tops_of (units_of docs))
  rows_count = free_count tops fixed (free_tops tops fixed) refl ∙ count_is

  units_count : length own.files_of_units ≡ length (units_of docs)
  units_count = free_units tops fixed (free_tops tops fixed) refl ∙ units_is

  low_long : length low ≡ length own.rows
  low_long =
      length-take-le (own_count tops fixed) least (omega (arith, count_is, least_long docs doc fixed tops found least made, both_many docs doc fixed tops found least made)) ∙ count_is ∙ sym rows_count

  local_shown : ShowsPlan (free_rule r fixed) r.units (length docs) free
  local_shown =
      subst (λ (n : ℕ). ShowsPlan (free_rule r fixed) r.units n free) made.outline.own_files (free_shows r fixed tops least (shown docs doc fixed tops found least made) free is.1)

  local_homes : (part : PartialUnit) → In part (partials (free_rule r fixed) r.units (range_with_len 0 (length docs))) → part.home ≢ Common
  local_homes part there =
      not_shared docs doc fixed made.placed made.fixed_is part
      (subst (λ (fs : List ℕ). In part (partials (free_rule r fixed) r.units fs)) (sym (file_numbers_are 0 docs)) there)

  -- ---- those of the common file

  standing_all : (P : Partial → Type 0) → ((n : ℕ) → P (standing_part tops fixed n)) → All P (standing_parts tops fixed)
  standing_all P each = all_from_in P (standing_parts tops fixed) (λ part there. (let o = standing_in tops fixed part there in subst P o.1 (each o.0)))

  taken_long : length (take (own_units tops fixed) fixed.takes) ≡ own_units tops fixed
  taken_long =
      length-take-le (own_units tops fixed) fixed.takes (omega (arith, units_is, made.fixed_is.units, units_all docs doc fixed tops found least made, units_long docs doc fixed tops found least made))

  -- ---- both

  both_all : (P : Partial → Type 0) → All P (standing_parts tops fixed) → All P free.partials → All P plan.partials
  both_all P a b = subst (All P) (sym parts_are) (All-append P (standing_parts tops fixed) free.partials a b)

  rows_few : length tops.rows < 2 ^ 32
  rows_few = omega (arith, both_many docs doc fixed tops found least made, made.few_tops, made.few_behind)

  pub fits_over : FitsOver docs doc tops plan
  fits_over =
      let many = all_many docs doc fixed tops found least made in
      let units = units_all docs doc fixed tops found least made in
      let standing_many = length-standing tops fixed ∙ made.roots in
      let local_many : length free.partials ≤ length (tops_of (units_of docs)) = (let few = parts_few Each own low low_long free is.1 in omega (arith, few, rows_count)) in
      record {
        rows = many;
        few_rows = rows_few;
        few_units = omega (arith, units, units_long docs doc fixed tops found least made, made.few_units, made.few_commons);
        files = made.outline.files;
        homes = whole.homes ∙ many;
        stand_ins = whole.stand_ins ∙ many;
        kept = whole.kept ∙ units;
        imports = whole.imports ∙ units;
        standing = standing_parts tops fixed;
        local = free.partials;
        parts = parts_are;
        many_standing = standing_many;
        of_common = standing_all (λ part. part.file ≡ length docs) (λ n. made.outline.files);
        many_local = local_many;
        of_files = own_files_by (free_rule r fixed) r.units (length docs) free local_homes local_shown;
        few_parts =
            (let all = ap (λ (ps : List Partial). length ps) parts_are in
            omega (arith, all, length-append (standing_parts tops fixed) free.partials, standing_many, local_many, made.few_commons, made.few_tops));
        few_tops = both_all (λ part. length part.tops < 2 ^ 32)
            (standing_all (λ part. length part.tops < 2 ^ 32) (λ n. omega (arith, tops_few (own_units tops fixed + n) 0 tops.rows, rows_few)))
            (All-weaker (λ (part : Partial). length part.tops ≤ length own.rows) (λ (part : Partial). length part.tops < 2 ^ 32) (λ part l. omega (arith, l, rows_count, made.few_tops)) free.partials
            (held_few Each own low low_long free is.1));
        users = both_all (λ part. All (λ u. u < length (units_of docs)) part.users)
            (standing_all (λ part. All (λ u. u < length (units_of docs)) part.users)
            (λ n. takers_low n 0 (length (units_of docs)) (take (own_units tops fixed) fixed.takes) (omega (arith, taken_long, units_is))))
            (subst (λ (k : ℕ). All (λ (part : Partial). All (λ u. u < k) part.users) free.partials) units_count (users_low Each own low low_long free is.1));
        standing_tops = standing_all (λ part. All (λ t. t < length (tops_of (together r))) part.tops) (λ n.
            subst (λ (k : ℕ). All (λ t. t < k) (tops_in (own_units tops fixed + n) 0 tops.rows)) (let z : 0 + length tops.rows ≡ length (tops_of (together r)) = omega (arith, many) in z)
            (tops_below (own_units tops fixed + n) 0 tops.rows));
        local_tops = subst (λ (k : ℕ). All (λ (part : Partial). All (λ t. t < k) part.tops) free.partials) rows_count (tops_low Each own low low_long free is.1);
      }
