-- Over a common file the rows of the files stand first, and those of the common file stay.
use Rattle.std.proofs.Common.{◌≡◌, ◌⊎◌, ℕ, suc, ◌+◌, ◌<◌, ◌≤◌, All, List, [], ◌∷◌, ◌++◌, length, replicate, sym, ap, subst, ◌∙◌, inl, inr, arith}
use Rattle.std.specs.Prelude.{slice_index_or}
use Rattle.std.proofs.lemmas.List.{length-append, length-map}
use Rattle.dwz_def_reading.specs.Documents.{Doc}
use Rattle.dwz_def_reading.specs.Lists.{In}
use Rattle.dwz_def_reading.specs.Rows.{has}
use Rattle.dwz_def_reading.proofs.ListFacts.{all_more, got_below, in_cases}
use Rattle.dwz_def_tops.specs.Spots.{Top, file_numbers, tops_of, units_of}
use Rattle.dwz_def_tops.proofs.Members.{in_filter_from, in_nth, nth_get}
use Rattle.dwz_def_tops.proofs.TopNumbers.{from_numbered, top_at}
use Rattle.dwz_def_images.specs.Homes.{Common, Local, numbers_from}
use Rattle.dwz_def_images.specs.Moves.{Move}
use Rattle.dwz_def_images.specs.Plan.{PartialUnit, partials}
use Rattle.dwz_def_images.proofs.UserLemmas.{numbers_in}
use Rattle.dwz_def_taken.specs.declared.fixed.Fixed.{Fixed}
use Rattle.dwz_def_taken.specs.Beside.{Reused, own_tops, reused_of}
use Rattle.dwz_def_taken.specs.Over.{common_parts, move_over}
use Rattle.dwz_def_taken.specs.Takes.{free_rule, takes_of}
use Rattle.dwz_def_taken.proofs.CommonParts.{common_nth}
use Rattle.dwz_groups.specs.declared.tops.TopRow.{TopRow}
use Rattle.dwz_layout_order.specs.Behind.{ArePlannedFirst}
use Rattle.dwz_layout_order.proofs.BehindLemmas.{homes_low, nothing_at, users_low}
use Rattle.dwz_plan.specs.OverLaws.{common_tops}
use Rattle.dwz_plan.specs.declared.plan.Home.TheVariants.{Stay as InUnit}
use Rattle.dwz_plan.specs.declared.plan.Partial.{Partial}
use Rattle.dwz_layout_input.specs.declared.planned.PlannedFiles.{PlannedFiles}
use Rattle.dwz_layout_input.specs.PlannedOver.{ArePlannedOver}
use Rattle.dwz_layout_input.proofs.OutlineNeeds.{rows_many}
use Rattle.dwz_layout_input.specs.Parts.{HoldSome}

module _ (docs : List (Doc ℕ)) (common : Doc ℕ) (fixed : Fixed) (p : PlannedFiles) (h : ArePlannedOver docs common fixed p) where
  abbrev r : Reused
  r = reused_of docs common

  abbrev files : List ℕ
  files = file_numbers 0 docs

  abbrev m : Move
  m = move_over (reused_of docs common) fixed (file_numbers 0 docs)

  abbrev standing : List PartialUnit
  standing = common_parts (reused_of docs common) fixed 0 (reused_of docs common).commons

  abbrev local : List PartialUnit
  local = partials (free_rule (reused_of docs common) fixed) (units_of docs) (file_numbers 0 docs)

  -- ---- rows behind stay

  own_long : length h.outline.own.rows ≡ own_tops (reused_of docs common)
  own_long = rows_many docs h.outline.own h.outline.outline

  homes_long : length p.plan.homes ≡ own_tops (reused_of docs common) + length (common_tops (reused_of docs common))
  homes_long =
      let all = h.fits.homes ∙ sym h.fits.rows ∙ ap (λ (w : List TopRow). length w) h.outline.rows ∙ length-append h.outline.own.rows h.outline.rows_behind in
      let behind : length h.outline.rows_behind ≡ length (common_tops (reused_of docs common)) =
      sym (length-map h.outline.rows_behind (λ (row : TopRow). row.unit)) ∙ ap (λ (w : List ℕ). length w) h.outline.units_behind
      ∙ length-map (common_tops (reused_of docs common)) (λ (t : Top). t.unit) in
      let own = own_long in
      omega arith

  stays : (n : ℕ) → length h.outline.own.rows ≤ n → slice_index_or p.plan.homes n InUnit ≡ InUnit
  stays n le = by (cases n (length p.plan.homes)) where
    cases : (n m : ℕ) → (n < m) ⊎ (m ≤ n)
    cases n m = grind arith

    by : (n < length p.plan.homes) ⊎ (length p.plan.homes ≤ n) → slice_index_or p.plan.homes n InUnit ≡ InUnit
    by (inl low) =
        let own = own_long in
        let long = homes_long in
        let t = top_at (own_tops r) (common_tops r) n (from_numbered (length (units_of docs)) (own_tops r) r.commons) (omega arith) (omega arith) in
        ap (λ (k : ℕ). slice_index_or p.plan.homes k InUnit) (sym t.2) ∙ h.shows.homes t.0 t.1
    by (inr high) = nothing_at p.plan.homes n InUnit high

  -- ---- partial units

  abbrev IsStanding : PartialUnit → Type 0
  IsStanding part = (part.home ≡ Common) × ((u : ℕ) → In u part.users → u < length (units_of docs))

  is_standing : (part : PartialUnit) → In part (common_parts (reused_of docs common) fixed 0 (reused_of docs common).commons) → IsStanding part
  is_standing part there =
      let n = in_nth 0 standing part there in
      let o = common_nth r fixed 0 r.commons n.number part n.nth in (
        ap (λ (w : PartialUnit). w.home) o.2,
        λ u is. (
            let listed = in_filter_from (λ k. has n.number (takes_of fixed k)) u (numbers_from 0 (units_of docs)) (subst (In u) (ap (λ (w : PartialUnit). w.users) o.2) is) in
            let at = numbers_in 0 (units_of docs) u listed.0 in
            got_below (units_of docs) u at.one (nth_get 0 (units_of docs) u u at.one at.nth (omega arith))),
      )

  homes : (part : PartialUnit) → In part (move_over (reused_of docs common) fixed (file_numbers 0 docs)).parts
      → (part.home ≡ Common) ⊎ ((file : ℕ) × (file < length docs) × (part.home ≡ Local file))
  homes part there = elim (in_cases part standing local there) [
    | inl a ↦ inl (is_standing part a).0
    | inr b ↦ homes_low (free_rule r fixed) docs part b
  ]

  users : (part : PartialUnit) → In part (move_over (reused_of docs common) fixed (file_numbers 0 docs)).parts → (u : ℕ) → In u part.users → u < length (units_of docs)
  users part there u is = elim (in_cases part standing local there) [
    | inl a ↦ (is_standing part a).1 u is
    | inr b ↦ users_low (free_rule r fixed) (units_of docs) files part b u is
  ]

  pub first_over : ArePlannedFirst (move_over (reused_of docs common) fixed (file_numbers 0 docs)) (units_of docs) (length docs) p.tops p.plan
  first_over = record {
    rows = record {
      own = h.outline.own;
      shows = h.outline.outline.shows;
      rows_behind = h.outline.rows_behind;
      rows = h.outline.rows;
      files_behind = replicate (length common.units) (length docs);
      files_of_units = h.outline.files_of_units;
    };
    moves = h.shows.own;
    stay = stays;
    homes = homes;
    users = users;
  }

  -- ---- those of files hold tops of files

  all_both : (P : Partial → Type 0) (xs ys : List Partial) → All P xs → All P ys → All P (xs ++ ys)
  all_both P [] ys a b = b
  all_both P (x ∷ xs) ys a b = all_more P x (xs ++ ys) (a 0 x (omega arith)) (all_both P xs ys (λ k d lt. a (suc k) d (omega arith)) b)

  abbrev Inside : Partial → Type 0
  Inside part = part.file < length docs → All (λ t. t < length (tops_of (units_of docs))) part.tops

  pub hold_over : HoldSome (length docs) (length (tops_of (units_of docs))) p.plan.partials
  hold_over =
      let fits = h.fits in
      record {
        few = fits.few_parts;
        few_tops = fits.few_tops;
        inside = subst (λ (w : List Partial). All (λ part. Inside part) w) (sym fits.parts)
            (all_both (λ part. Inside part) fits.standing fits.local (λ k d lt low. (let is = fits.of_common k d lt in absurd (omega arith))) (λ k d lt low. fits.local_tops k d lt));
      }
