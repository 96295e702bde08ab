-- Where rows show the tops of files with those of a common file behind them, their plan shows the move.
use Rattle.std.proofs.Common.{◌≡◌, ℕ, suc, ◌+◌, ◌-◌, ◌<◌, ◌≤◌, ◌==◌, ◌&&◌, ◌||◌, Option, Some, None, inl, inr, not, Bool, List, [], ◌∷◌, ◌++◌, length, map, filter, get_or, refl, sym, ap, subst}
use Rattle.std.proofs.Common.{◌∙◌, arith}
use Rattle.std.specs.Prelude.{MatchOption, slice_get, unwrap_or}
use Rattle.std.specs.List.{range_with_len}
use Rattle.std.specs.Option.{is_some}
use Rattle.std.proofs.lemmas.Bool.{cases_lt, eq-eqb, ne_eqb}
use Rattle.std.proofs.lemmas.List.{append-nil, get_or_default, get_or_past, length-map, map-append}
use Rattle.std.proofs.lemmas.List.Elements.{filter-append}
use Rattle.std.proofs.lemmas.List.FromFn.{get_or-map-range_with_len, length-map-range_with_len}
use Rattle.std.proofs.lemmas.Option.{get_or_from_slice_get}
use Rattle.dwz_model.proofs.ListFacts.{get_first, got_map}
use Rattle.dwz_def_reading.specs.Lists.{In}
use Rattle.dwz_def_reading.proofs.ListFacts.{in_cases, in_left, in_map, in_right}
use Rattle.dwz_def_tops.specs.Lists.{Nth}
use Rattle.dwz_def_tops.specs.Spots.{EntryName, FileUnit, Top, row_tops, tops_of}
use Rattle.dwz_def_tops.proofs.Members.{in_filter, in_map_from, nth_get}
use Rattle.dwz_def_tops.proofs.TopNumbers.{number_below, number_from, from_numbered, tops_numbers, top_there}
use Rattle.dwz_def_tops.proofs.TopOrder.{later_unit}
use Rattle.dwz_def_plan.specs.Homes.{Common, Home, Local, Rule, moves}
use Rattle.dwz_def_plan.specs.Moves.{Move, plan}
use Rattle.dwz_def_plan.specs.Plan.{PartialUnit, is_pinned, partials, stand_in}
use Rattle.dwz_def_plan.proofs.UserLemmas.{stay_fixed}
use Rattle.dwz_def_taken.specs.declared.fixed.Fixed.{Fixed}
use Rattle.dwz_def_taken.specs.Beside.{Reused, own_tops, together}
use Rattle.dwz_def_taken.specs.Laws.{IsReused}
use Rattle.dwz_def_taken.specs.Over.{common_part, common_parts, common_row, move_over}
use Rattle.dwz_def_taken.specs.Takes.{IsFixed, IsImage, IsTaken, free_rule, image_at}
use Rattle.dwz_def_taken.proofs.CommonParts.{length-common, nth_common}
use Rattle.dwz_def_taken.proofs.OverLemmas.{image_is, moves_none}
use Rattle.dwz_groups.specs.declared.tops.TopRow.{TopRow}
use Rattle.dwz_groups.specs.declared.tops.Tops.{Tops}
use Rattle.dwz_plan.specs.declared.plan.Home.{Home as Place}
use Rattle.dwz_plan.specs.declared.plan.Home.TheVariants.{Common as InCommon, Local as InFile, Stay as InUnit}
use Rattle.dwz_plan.specs.declared.plan.Partial.{Partial}
use Rattle.dwz_plan.specs.Gained.{IsPlanOf, kept_by, staying_by}
use Rattle.dwz_plan.specs.Over.{all_rows, given_free, own_units, place_behind, place_by, place_over, planned_over, stand_over, standing_parts, unit_at}
use Rattle.dwz_plan.specs.OverLaws.{IsWholeOver, ShowsAllOver, ShowsOver, common_tops}
use Rattle.dwz_plan.specs.Planned.{Planned, imports_from, numbers}
use Rattle.dwz_plan.specs.Rows.{TopFacts, row_of, rows_from}
use Rattle.dwz_plan.specs.Shows.{import_row, shown_part}
use Rattle.dwz_plan.specs.ShowsMove.{HoldsAt, IsPlaceIn, ShowsMove, kept_in, staying_in}
use Rattle.dwz_plan.specs.Steps.{is_in_unit}
use Rattle.dwz_plan.proofs.BridgeLemmas.{imports_shown}
use Rattle.dwz_plan.proofs.ListFacts.{filter_no}
use Rattle.dwz_plan.proofs.OnePlan.{whole_plan}
use Rattle.dwz_plan.proofs.OverParts.{all_tops, numbers_are, parts_are, units_are}
use Rattle.dwz_plan.proofs.OverRows.{all_units, free_many, free_shows, many_rows, own_units_is}
use Rattle.dwz_plan.proofs.ShownLemmas.{SameRows, filter_shown, numbers_shown, rows_shown, tops_counted}
use Rattle.dwz_plan.proofs.ShownMoves.{plan_moves}

-- ---- lists one behind the other

got_later : {X : Type 0} (xs ys : List X) (k : ℕ) (x : X) → slice_get ys k ≡ Some x → slice_get (xs ++ ys) (length xs + k) ≡ Some x
got_later {X} [] ys k x e = let z : k ≡ 0 + k = omega arith in subst (λ i. slice_get ys i ≡ Some x) z e
got_later {X} (z ∷ xs) ys k x e = let one : suc (length xs + k) ≡ suc (length xs) + k = omega arith in subst (λ i. slice_get (z ∷ xs ++ ys) i ≡ Some x) one (got_later xs ys k x e)

rows_append : (files : List ℕ) (n : ℕ) (xs ys : List TopRow) (ls ms : List ℕ) → length ls ≡ length xs → rows_from files n (xs ++ ys) (ls ++ ms) ≡ rows_from files n xs ls ++ rows_from files (n + length xs) ys ms
unfolding rows_from
rows_append files n [] ys [] ms e = let z : n ≡ n + 0 = omega arith in ap (λ k. rows_from files k ys ms) z
rows_append files n [] ys (l ∷ ls) ms e = absurd (omega (arith, e))
rows_append files n (x ∷ xs) ys [] ms e = absurd (omega (arith, e))
rows_append files n (x ∷ xs) ys (l ∷ ls) ms e =
    let one : suc n + length xs ≡ n + suc (length xs) = omega arith in
    ap (λ (more : List TopFacts). row_of files n x l ∷ more) (rows_append files (suc n) xs ys ls ms (omega (arith, e)) ∙ ap (λ k. rows_from files (suc n) xs ls ++ rows_from files k ys ms) one)

row_unit : (files : List ℕ) (n : ℕ) (rows : List TopRow) (least : List ℕ) (a : TopFacts) → In a (rows_from files n rows least) → In a.unit (map (λ (row : TopRow). row.unit) rows)
unfolding rows_from
row_unit files n [] least a is = absurd is
row_unit files n (r ∷ rows) [] a is = absurd is
row_unit files n (r ∷ rows) (l ∷ least) a (inl e) = inl (ap (λ (w : TopFacts). w.unit) e)
row_unit files n (r ∷ rows) (l ∷ least) a (inr is) = inr (row_unit files (suc n) rows least a is)

nth_at : {X : Type 0} (s : ℕ) (xs : List X) (n : ℕ) → s ≤ n → n < s + length xs → (x : X) × Nth s xs n x
nth_at s [] n l h = absurd (omega (arith, l, h))
nth_at s (x ∷ xs) n l h = elim (cases_lt s n) [
  | inl less ↦ (let o = nth_at (suc s) xs n less (omega (arith, h)) in (o.0, inr o.1))
  | inr most ↦ (x, inl (omega (arith, l, most), refl))
]

-- the top that a row shows
same_top : (units : List (FileUnit EntryName)) (rows : List TopFacts) (tops : List Top) → SameRows units rows tops → (a : TopFacts) → In a rows → (t : Top) × In t tops × (a.number ≡ t.number)
same_top units [] tops h a is = absurd is
same_top units (b ∷ rows) [] h a is = absurd h
same_top units (b ∷ rows) (t ∷ tops) h a (inl e) = (t, inl refl, ap (λ (w : TopFacts). w.number) (sym e) ∙ h.0.number)
same_top units (b ∷ rows) (t ∷ tops) h a (inr is) = let o = same_top units rows tops h.1 a is in (o.0, inr o.1, o.2)

-- what a place says of leaving
place_gone : (m : Move) (n : ℕ) (p : Place) → IsPlaceIn m n p → is_in_unit p ≡ not (m.gone n)
place_gone m n (InCommon p) is = ap not (sym is.0)
place_gone m n (InFile p) is = ap not (sym is.1)
place_gone m n InUnit is = ap not (sym is)

module _ (r : Reused) (fixed : Fixed) (tops : Tops) (least : List ℕ) (re : IsReused r) (fx : IsFixed r fixed) (sh : ShowsOver r fixed tops least) (free : Planned)
    (is_free : IsPlanOf (given_free tops least fixed) free) where
  abbrev files : List ℕ
  files = range_with_len 0 tops.files

  abbrev rule : Rule
  rule = free_rule r fixed

  abbrev m : Move
  m = move_over r fixed files

  abbrev standing : List PartialUnit
  standing = common_parts r fixed 0 r.commons

  abbrev all : List Top
  all = tops_of (together r)

  inner : ShowsMove (plan rule r.units files) r.units tops.files free
  inner = subst (λ (n : ℕ). ShowsMove (plan rule r.units (range_with_len 0 n)) r.units n free) (sym sh.files)
      (plan_moves rule r.units sh.own.files free (free_shows r fixed tops least sh free is_free))

  -- ---- numbers

  many : length tops.rows ≡ length all
  many =
      let units = ap (λ (ns : List ℕ). length ns) (units_are r fixed tops least fx sh) in
      sym (length-map tops.rows (λ (row : TopRow). row.unit)) ∙ (units ∙ length-map all (λ (t : Top). t.unit))

  low : (t : Top) → In t all → t.number < length tops.rows
  low t there = let h = number_below 0 all t (tops_numbers (together r)) there in omega (arith, h, many)

  own_all : (t : Top) → In t (tops_of r.units) → In t all
  own_all t there = subst (In t) (sym (all_tops r fixed tops least fx sh)) (in_left t (tops_of r.units) (common_tops r) there)

  common_all : (t : Top) → In t (common_tops r) → In t all
  common_all t there = subst (In t) (sym (all_tops r fixed tops least fx sh)) (in_right t (tops_of r.units) (common_tops r) there)

  unit_is : (t : Top) → In t all → unit_at tops.rows t.number ≡ t.unit
  unit_is t there =
      ap (λ (ns : List ℕ). get_or ns t.number 0) (units_are r fixed tops least fx sh)
      ∙ get_or_from_slice_get (map (λ (u : Top). u.unit) all) t.number t.unit 0 (got_map (λ (u : Top). u.unit) all t.number t (top_there (together r) t there))

  own_many : length free.homes ≡ length (tops_of r.units)
  own_many = (whole_plan (given_free tops least fixed) free is_free).homes ∙ (free_many r fixed tops least sh ∙ many_rows r fixed tops least sh)

  stands_many : length free.stand_ins ≡ length (tops_of r.units)
  stands_many = (whole_plan (given_free tops least fixed) free is_free).stand_ins ∙ (free_many r fixed tops least sh ∙ many_rows r fixed tops least sh)

  -- ---- where tops go

  later : (p : ℕ) (h : Home) (top : ℕ) → HoldsAt (partials rule r.units files) p h top → HoldsAt m.parts (length fixed.roots + p) h top
  later p h top at = record {
    part = at.part;
    there = subst (λ (n : ℕ). slice_get m.parts (n + p) ≡ Some at.part) (length-common r fixed 0 r.commons ∙ sym sh.roots) (got_later standing (partials rule r.units files) p at.part at.there);
    home = at.home;
    holds = at.holds;
  }

  taken_place : (t : Top) → In t (tops_of r.units) → (c : ℕ) → image_at fixed t.number ≡ Some c → IsPlaceIn m t.number (InCommon (unit_at tops.rows c - own_units tops fixed))
  taken_place t there c q =
      let image = image_is r fixed files re fx t there c q in
      let taken = image.taken in
      let part : ℕ = taken.part in
      let f = nth_at 0 r.commons part (omega arith) (let l = taken.takes.part in omega arith) in
      let number : unit_at tops.rows c - own_units tops fixed ≡ part =
      (let e = ap (unit_at tops.rows) (sym image.number) ∙ unit_is image.top taken.in_part.0 in omega (arith, e, taken.in_part.1, own_units_is r fixed tops least sh)) in
      let at : HoldsAt m.parts part Common (m.stand t.number) = record {
        part = common_part r fixed part;
        there = get_first standing (partials rule r.units files) part (common_part r fixed part)
            (nth_get 0 standing part part (common_part r fixed part) (nth_common r fixed 0 r.commons part f.0 f.1) (omega arith));
        home = refl;
        holds = subst (λ (k : ℕ). In k (map (λ (u : Top). u.number) (row_tops (common_row r part)))) (image.number ∙ sym (ap (λ (o : Option ℕ). unwrap_or o (stand_in rule r.units t.number)) q))
            (subst (λ (ns : List ℕ). In image.top.number ns) (sym (numbers_are r fixed tops least fx sh part))
            (in_map (λ (u : Top). u.number) image.top (filter (λ u. u.unit == length r.units + part) all)
            (in_filter (λ u. u.unit == length r.units + part) image.top all taken.in_part.0 (eq-eqb image.top.unit (length r.units + part) taken.in_part.1))));
      } in
      subst (λ (k : ℕ). IsPlaceIn m t.number (InCommon k)) (sym number) (ap (λ (o : Option ℕ). is_some o || moves rule r.units t.number) q, at)

  left_gone : (n : ℕ) → image_at fixed n ≡ None → m.gone n ≡ moves rule r.units n
  left_gone n q = ap (λ (o : Option ℕ). is_some o || moves rule r.units n) q

  left_holds : (n : ℕ) → image_at fixed n ≡ None → (p : ℕ) (h : Home) → HoldsAt (partials rule r.units files) p h (stand_in rule r.units n)
      → HoldsAt m.parts (length fixed.roots + p) h (m.stand n)
  left_holds n q p h at = subst (λ (k : ℕ). HoldsAt m.parts (length fixed.roots + p) h k) (sym (ap (λ (o : Option ℕ). unwrap_or o (stand_in rule r.units n)) q)) (later p h (stand_in rule r.units n) at)

  left_place : (n : ℕ) → image_at fixed n ≡ None → (h : Place) → IsPlaceIn (plan rule r.units files) n h → IsPlaceIn m n (place_behind (length fixed.roots) h)
  left_place n q (InCommon p) is = (left_gone n q ∙ is.0, left_holds n q p Common is.1)
  left_place n q (InFile p) is = (is.0, left_gone n q ∙ is.1, left_holds n q p (Local is.0) is.2)
  left_place n q InUnit is = left_gone n q ∙ is

  place_is : (t : Top) → In t (tops_of r.units) → IsPlaceIn m t.number (place_over tops fixed free.homes t.number)
  unfolding place_over
  place_is t there = go (image_at fixed t.number) refl where
    go : (o : Option ℕ) → image_at fixed t.number ≡ o → IsPlaceIn m t.number (place_by tops fixed free.homes o t.number)
    go (Some c) q = taken_place t there c q
    go None q = left_place t.number q (get_or free.homes t.number InUnit) (inner.homes t there)

  -- a top of the common file stays
  common_low : (t : Top) → In t (common_tops r) → own_tops r ≤ t.number
  common_low t there = number_from (own_tops r) (common_tops r) t (from_numbered (length r.units) (own_tops r) r.commons) there

  no_image : (t : Top) → In t (common_tops r) → image_at fixed t.number ≡ None
  no_image t there = go (image_at fixed t.number) refl (fx.images t (common_all t there)) where
    go : (o : Option ℕ) → image_at fixed t.number ≡ o → MatchOption o (IsTaken r t → ⊥) (IsImage r t) → image_at fixed t.number ≡ None
    go None q none = q
    go (Some c) q image = absurd (let l = later_unit (length r.units) (own_tops r) r.commons t there in let k = image.taken.takes.unit in omega arith)

  common_place : (t : Top) → In t (common_tops r) → place_over tops fixed free.homes t.number ≡ InUnit
  unfolding place_over
  common_place t there =
      ap (λ (o : Option ℕ). place_by tops fixed free.homes o t.number) (no_image t there)
      ∙ ap (place_behind (length fixed.roots)) (get_or_past free.homes t.number InUnit (omega (arith, own_many, common_low t there)))

  -- ---- what stands for them

  stand_planned : (t : Top) → In t all → get_or free.stand_ins t.number t.number ≡ stand_in rule r.units t.number
  stand_planned t there = elim (in_cases t (tops_of r.units) (common_tops r) (subst (In t) (all_tops r fixed tops least fx sh) there)) [
    | inl own ↦
        let h = number_below 0 (tops_of r.units) t (tops_numbers r.units) own in
        get_or_default free.stand_ins t.number t.number 0 (omega (arith, h, stands_many)) ∙ inner.stand_ins t own
    | inr common ↦
        get_or_past free.stand_ins t.number t.number (omega (arith, stands_many, common_low t common))
        ∙ sym (stay_fixed r.units rule t.number (moves_none r fixed files re fx t.number (common_low t common)))
  ]

  stand_is : (t : Top) → In t all → stand_over fixed free.stand_ins t.number ≡ m.stand t.number
  unfolding stand_over
  stand_is t there = ap (unwrap_or (image_at fixed t.number)) (stand_planned t there)

  -- ---- what is kept

  abbrev h : TopFacts → Place
  h a = place_over tops fixed free.homes a.number

  abbrev own_rows : List TopFacts
  own_rows = rows_from tops.files_of_units 0 sh.own.rows sh.own_least

  abbrev behind_rows : List TopFacts
  behind_rows = rows_from tops.files_of_units (0 + length sh.own.rows) sh.rows_behind sh.least_behind

  rows_are : all_rows tops least ≡ own_rows ++ behind_rows
  rows_are = (λ i. rows_from tops.files_of_units 0 (sh.rows i) (sh.least_is i)) ∙ rows_append tops.files_of_units 0 sh.own.rows sh.rows_behind sh.own_least sh.least_behind sh.decides.len

  own_same : SameRows r.units own_rows (tops_of r.units)
  own_same = rows_shown r.units tops.files_of_units 0 sh.own.rows sh.own_least (tops_of r.units) sh.decides.len sh.shows.rows (tops_counted 0 0 r.units)

  behind_unit : (a : TopFacts) → In a behind_rows → length r.units ≤ a.unit
  behind_unit a is =
      let o = in_map_from (λ (t : Top). t.unit) a.unit (common_tops r) (subst (λ (ns : List ℕ). In a.unit ns) sh.units_behind (row_unit tops.files_of_units (0 + length sh.own.rows) sh.rows_behind sh.least_behind a is)) in
      let l = later_unit (length r.units) (own_tops r) r.commons o.source o.there in
      omega (arith, l, o.is)

  stays_is : (a : TopFacts) → In a own_rows → is_in_unit (h a) ≡ not (m.gone a.number)
  stays_is a is =
      let o = same_top r.units own_rows (tops_of r.units) own_same a is in
      subst (λ (n : ℕ). is_in_unit (place_over tops fixed free.homes n) ≡ not (m.gone n)) (sym o.2) (place_gone m o.0.number (place_over tops fixed free.homes o.0.number) (place_is o.0 o.1))

  staying_same : (unit : ℕ) → SameRows r.units (staying_by h own_rows unit) (staying_in m r.units unit)
  unfolding staying_by staying_in
  staying_same unit =
      filter_shown r.units (λ a. a.unit == unit && is_in_unit (h a)) (λ t. t.unit == unit && not (m.gone t.number)) own_rows (tops_of r.units) own_same
      (λ a t is s. (λ i. s.unit i == unit && (stays_is a is ∙ ap (λ (n : ℕ). not (m.gone n)) s.number) i))

  staying_own : (unit : ℕ) → unit < length r.units → staying_by h (all_rows tops least) unit ≡ staying_by h own_rows unit
  unfolding staying_by
  staying_own unit l =
      let p : TopFacts → Bool = λ a. a.unit == unit && is_in_unit (h a) in
      let none : filter p behind_rows ≡ [] =
      filter_no p behind_rows (λ a is. ap (λ (b : Bool). b && is_in_unit (h a)) (ne_eqb a.unit unit (λ e. (let k = behind_unit a is in omega (arith, k, e, l))))) in
      ap (filter p) rows_are ∙ (filter-append p own_rows behind_rows ∙ (ap (λ (more : List TopFacts). filter p own_rows ++ more) none ∙ append-nil (filter p own_rows)))

  kept_is : (unit : ℕ) → unit < length r.units → kept_by h (all_rows tops least) unit ≡ map (λ (t : Top). t.number) (kept_in m r.units unit)
  unfolding kept_by kept_in
  kept_is unit l =
      let stay : List TopFacts = staying_by h own_rows unit in
      let these : List Top = staying_in m r.units unit in
      let pinned = filter_shown r.units (λ a. a.pinned) (λ t. is_pinned r.units t.number) stay these (staying_same unit) (λ a t is s. s.pinned) in
      let others = filter_shown r.units (λ a. not a.pinned) (λ t. not (is_pinned r.units t.number)) stay these (staying_same unit) (λ a t is s. ap not s.pinned) in
      (λ i. numbers (filter (λ a. a.pinned) (staying_own unit l i) ++ filter (λ a. not a.pinned) (staying_own unit l i)))
      ∙ (map-append (λ (a : TopFacts). a.number) (filter (λ a. a.pinned) stay) (filter (λ a. not a.pinned) stay)
      ∙ ((λ i. sym (numbers_shown r.units (filter (λ a. a.pinned) stay) (filter (λ t. is_pinned r.units t.number) these) pinned) i
      ++ sym (numbers_shown r.units (filter (λ a. not a.pinned) stay) (filter (λ t. not (is_pinned r.units t.number)) these) others) i)
      ∙ sym (map-append (λ (t : Top). t.number) (filter (λ t. is_pinned r.units t.number) these) (filter (λ t. not (is_pinned r.units t.number)) these))))

  -- ---- the plan

  partials_is : map (shown_part tops.files) m.parts ≡ standing_parts tops fixed ++ free.partials
  partials_is = map-append (shown_part tops.files) standing (partials rule r.units files) ∙ (λ i. parts_are r fixed tops least fx sh i ++ inner.partials i)

  place_at : (n : ℕ) → n < length tops.rows → get_or (map (place_over tops fixed free.homes) (range_with_len 0 (length tops.rows))) n InUnit ≡ place_over tops fixed free.homes n
  place_at n l = get_or-map-range_with_len (place_over tops fixed free.homes) 0 (length tops.rows) n n InUnit l (omega arith)

  stand_at : (n : ℕ) → n < length tops.rows → get_or (map (stand_over fixed free.stand_ins) (range_with_len 0 (length tops.rows))) n 0 ≡ stand_over fixed free.stand_ins n
  stand_at n l = get_or-map-range_with_len (stand_over fixed free.stand_ins) 0 (length tops.rows) n n 0 l (omega arith)

  over_shows : ShowsAllOver r m tops.files (planned_over tops least fixed free)
  unfolding planned_over
  over_shows = record {
    own = record {
      partials = partials_is;
      homes = λ t there. subst (IsPlaceIn m t.number) (sym (place_at t.number (low t (own_all t there)))) (place_is t there);
      stand_ins = λ t there. stand_at t.number (low t (own_all t there)) ∙ stand_is t (own_all t there);
      kept = λ unit l. get_or-map-range_with_len (kept_by h (all_rows tops least)) 0 (length tops.files_of_units) unit unit [] (omega (arith, l, all_units r fixed tops least sh)) (omega arith) ∙ kept_is unit l;
      imports = λ unit l. (
          imports_shown tops.files unit 0 m.parts
          ∙ ap (λ (ps : List Partial). import_row unit (imports_from unit 0 ps)) partials_is
          ∙ ap (import_row unit) (sym (get_or-map-range_with_len (λ u. imports_from u 0 (standing_parts tops fixed ++ free.partials)) 0 (length tops.files_of_units) unit unit []
          (omega (arith, l, all_units r fixed tops least sh)) (omega arith))));
    };
    stand_ins = λ t there. stand_at t.number (low t there) ∙ stand_is t there;
    homes = λ t there. place_at t.number (low t (common_all t there)) ∙ common_place t there;
  }

  pub shows_over : (planned : Planned) → planned ≡ planned_over tops least fixed free → ShowsAllOver r m tops.files planned
  shows_over planned is = subst (λ (p : Planned). ShowsAllOver r m tops.files p) (sym is) over_shows

pub whole_over : (tops : Tops) (least : List ℕ) (fixed : Fixed) (free : Planned) → IsWholeOver tops (planned_over tops least fixed free)
unfolding planned_over
whole_over tops least fixed free = record {
  homes = length-map-range_with_len (place_over tops fixed free.homes) 0 (length tops.rows);
  stand_ins = length-map-range_with_len (stand_over fixed free.stand_ins) 0 (length tops.rows);
  kept = length-map-range_with_len (kept_by (λ a. place_over tops fixed free.homes a.number) (all_rows tops least)) 0 (length tops.files_of_units);
  imports = length-map-range_with_len (λ unit. imports_from unit 0 (standing_parts tops fixed ++ free.partials)) 0 (length tops.files_of_units);
}
