-- The steps give the plan of the rows: partial units and homes.
use Rattle.std.proofs.Common.{◌≡◌, ℕ, zero, suc, ◌+◌, ◌<◌, ◌==◌, ◌&&◌, ◌⊎◌, inl, inr, not, cond, All, Bool, true, false, List, [], ◌∷◌, length, map, filter, fold, get_or, refl, sym, ap, subst, ◌∙◌}
use Rattle.std.proofs.Common.{arith, eq-eqb}
use Rattle.std.specs.List.{flat_map, list_any, range_with_len, zip}
use Rattle.std.proofs.lemmas.Bool.{and_from, cases_eq, ne_eqb}
use Rattle.std.proofs.lemmas.List.{get_or-map, length-map}
use Rattle.std.proofs.lemmas.List.Elements.{All-map, filter_agree}
use Rattle.dwz_def_reading.specs.Lists.{In}
use Rattle.dwz_def_reading.proofs.ListFacts.{in_left, in_map, in_right}
use Rattle.dwz_groups.specs.declared.tops.TopRow.{TopRow}
use Rattle.dwz_groups.specs.declared.tops.Tops.{Tops}
use Rattle.dwz_def_plan.specs.Homes.{Common, Home, Local, Stay, same_home}
use Rattle.dwz_def_plan.specs.Plan.{distinct}
use Rattle.dwz_def_plan.proofs.PlanLemmas.{in_distinct}
use Rattle.dwz_def_tops.specs.Spots.{same_numbers}
use Rattle.dwz_plan.specs.declared.plan.Home.{Home as Place}
use Rattle.dwz_plan.specs.declared.plan.Home.TheVariants.{Stay as InUnit}
use Rattle.dwz_plan.specs.declared.plan.Partial.{Partial}
use Rattle.dwz_plan.specs.declared.plan.Scope.{Scope}
use Rattle.dwz_groups.specs.Groups.{grouped, values_at}
use Rattle.dwz_plan.specs.Planned.{alike, home, home_of, number_in, numbers, partials, place, place_at, rep, reps_of, representatives, units_of, users}
use Rattle.dwz_plan.specs.Rows.{Given, TopFacts, given, rows_from}
use Rattle.dwz_plan.specs.Steps.{all_keys, keys_under, lists_of, movers_by, number_of, numbered, pair, partial_of, partials_of, parts_by, placed, placed_by, unit_pairs, users_at}
use Rattle.dwz_groups.specs.declared.groups.Edge.{Edge}
use Rattle.dwz_plan.proofs.DistinctLemmas.{distinct_apart, has_from, number_is, zip_range}
use Rattle.dwz_plan.proofs.HomeLemmas.{local_low}
use Rattle.dwz_plan.proofs.LedLemmas.{Counted, counted_below, counted_from, row_in, row_number, rows_counted, same_row, stood, stood_leads}
use Rattle.dwz_plan.proofs.ListFacts.{all_from_in, filter_in, in_range, map_in, map_map, range_there}
use Rattle.dwz_plan.proofs.ListingLemmas.{position_found}
use Rattle.dwz_plan.proofs.MoverLemmas.{led_lists, movers_are, movers_of}
use Rattle.dwz_plan.proofs.PartialLemmas.{Homed, all_homes, homed, movers_split, part_among, partials_among, tops_with}
use Rattle.dwz_plan.proofs.RowLemmas.{alike_same, length-rows_from, rep_stays}
use Rattle.dwz_plan.proofs.UserLemmas.{led_users, led_users_yes}
use Rattle.dwz_def_tops.proofs.Members.{in_filter, in_filter_from, in_map_from}
use Rattle.dwz_def_tops.proofs.SpotLemmas.{numbers_same, numbers_true}

-- ---- the row of a number

row_found : (s : ℕ) (rows : List TopFacts) (a : TopFacts) (i : ℕ) → Counted s rows → In a rows → a.number ≡ s + i → get_or rows i a ≡ a
row_found s [] a i c is e = absurd is
row_found s (b ∷ rows) a zero c (inl h) e = h
row_found s (b ∷ rows) a (suc i) c (inl h) e = absurd (omega (arith, c.0, ap (λ (x : TopFacts). x.number) h, e))
row_found s (b ∷ rows) a zero c (inr r) e = absurd (omega (arith, counted_from (suc s) rows a c.1 r, e))
row_found s (b ∷ rows) a (suc i) c (inr r) e = row_found (suc s) rows a i c.1 r (omega (arith, e))

pub at_number : {X : Type 0} (f : TopFacts → X) (rows : List TopFacts) (a : TopFacts) (d : X) → Counted 0 rows → In a rows → get_or (map f rows) a.number d ≡ f a
at_number f rows a d c is =
    let low = counted_below 0 rows a c is in
    get_or-map f rows a.number a d (omega (arith, low)) ∙ ap f (row_found 0 rows a a.number c is (omega arith))

-- ---- values of numbered rows

values_of : (f : TopFacts → ℕ) (rows : List TopFacts) (k : ℕ) → values_at (map (λ a. pair (f a) a.number) rows) k ≡ numbers (filter (λ a. f a == k) rows)
unfolding values_at
values_of f [] k = refl
values_of f (a ∷ rows) k = by (f a == k) (values_of f rows k)
  where
    rest : List Edge
    rest = filter (λ (p : Edge). p.key == k) (map (λ (b : TopFacts). pair (f b) b.number) rows)

    by : (t : Bool) → map (λ (p : Edge). p.value) rest ≡ numbers (filter (λ b. f b == k) rows) → map (λ (p : Edge). p.value) (cond t (pair (f a) a.number ∷ rest) rest)
        ≡ numbers (cond t (a ∷ filter (λ b. f b == k) rows) (filter (λ b. f b == k) rows))
    by true more = ap (λ (ns : List ℕ). a.number ∷ ns) more
    by false more = more

position_map : (us : List ℕ) (make : List ℕ → Partial) (lists : List (List ℕ)) → ((vs : List ℕ) → (make vs).users ≡ vs) → number_in (map make lists) us ≡ number_of lists us
position_map us make [] h = refl
position_map us make (vs ∷ lists) h = (λ i. cond (not (same_numbers us (h vs i))) (1 + position_map us make lists h i) 0)

-- ---- the users of alike rows

pub users_same : (g : Given) (a b : TopFacts) → alike g.scope a b ≡ true → users g a ≡ users g b
unfolding users
users_same g a b e =
    filter_agree (λ unit. list_any (λ c. c.unit == unit && alike g.scope a c) g.rows) (λ unit. list_any (λ c. c.unit == unit && alike g.scope b c) g.rows)
    (λ unit. ap (λ (t : TopFacts → Bool). list_any (λ c. c.unit == unit && t c) g.rows) (λ i c. alike_same g.scope a b e c i)) (units_of g)

-- the row that stands for one, itself where none does
pub record Leader (g : Given) (a : TopFacts) : Type 0 where
  pub row : TopFacts
  pub there : In row g.rows
  pub number : rep g a ≡ row.number
  pub leads : rep g row ≡ row.number
  pub same_users : users g row ≡ users g a

pub leader : (g : Given) (a : TopFacts) → In a g.rows → Leader g a
leader g a is = by a.movable refl
  where
    by : (t : Bool) → a.movable ≡ t → Leader g a
    by true m = let s = stood g a is m in record { row = s.row; there = s.there; number = s.number; leads = stood_leads g a is m s; same_users = sym (users_same g a s.row s.alike_is) }
    by false m = record { row = a; there = is; number = rep_stays g a m; leads = rep_stays g a m; same_users = refl }

-- ---- places found by pairs

module _ (x : ℕ → Place) (f : TopFacts → ℕ) (n : ℕ) where
  abbrev places : Place → List TopFacts → Place
  places h rows = fold (λ h p. cond (p.value == n) (x p.key) h) h (map (λ a. pair (f a) a.number) rows)

  places_keep : (y : Place) (rows : List TopFacts) → ((a : TopFacts) → In a rows → a.number ≡ n → x (f a) ≡ y) → places y rows ≡ y
  places_keep y [] h = refl
  places_keep y (a ∷ rows) h = ap (λ z. places z rows) (by (cases_eq a.number n)) ∙ places_keep y rows (λ b is. h b (inr is))
    where
      by : (a.number ≡ n) ⊎ (a.number ≡ n → ⊥) → cond (a.number == n) (x (f a)) y ≡ y
      by (inl e) = ap (λ t. cond t (x (f a)) y) (eq-eqb a.number n e) ∙ h a (inl refl) e
      by (inr ne) = ap (λ t. cond t (x (f a)) y) (ne_eqb a.number n ne)

  places_found : (y z : Place) (rows : List TopFacts) (b : TopFacts) → In b rows → b.number ≡ n → ((a : TopFacts) → In a rows → a.number ≡ n → x (f a) ≡ y) → places z rows ≡ y
  places_found y z [] b is e h = absurd is
  places_found y z (a ∷ rows) b (inl s) e h =
      let at : a.number ≡ n = ap (λ (r : TopFacts). r.number) s ∙ e in
      ap (λ w. places w rows) (ap (λ t. cond t (x (f a)) z) (eq-eqb a.number n at) ∙ h a (inl refl) at) ∙ places_keep y rows (λ c is. h c (inr is))
  places_found y z (a ∷ rows) b (inr r) e h = places_found y (cond (a.number == n) (x (f a)) z) rows b r e (λ c is. h c (inr is))

-- a place of a home other than the unit
place_stays : (n : ℕ) → place_at Stay n ≡ InUnit
place_stays n = refl

-- ---- the steps, on the rows that tops are

module _ (scope : Scope) (tops : Tops) (least : List ℕ) where
  abbrev pub the_rows : List TopFacts
  the_rows = rows_from tops.files_of_units 0 tops.rows least

  abbrev pub the : Given
  the = given scope tops least

  -- for each row the users by the steps
  abbrev pub lists : List (List ℕ)
  lists = map (λ (a : TopFacts). led_users tops least scope a.number) the_rows

  abbrev pub movers : List ℕ
  movers = numbers (movers_of the)

  abbrev pub user_lists : List (List ℕ)
  user_lists = distinct (map (users the) (movers_of the))

  pub counted : Counted 0 the_rows
  counted = rows_counted tops.files_of_units 0 tops.rows least

  users_of_leader : (a : TopFacts) → In a the_rows → rep the a ≡ a.number → users_at lists a.number ≡ users the a
  users_of_leader a is leads = at_number (λ (b : TopFacts). led_users tops least scope b.number) the_rows a [] counted is ∙ led_users_yes scope tops least a is leads

  mover_represents : (a : TopFacts) → In a (movers_of the) → Homed the (all_homes tops.files) a
  mover_represents a is = homed the (all_homes tops.files) a (subst (λ (rows : List TopFacts). In a rows) (movers_split the) is)

  users_of_mover : (a : TopFacts) → In a (movers_of the) → users_at lists a.number ≡ users the a
  users_of_mover a is = let r = (mover_represents a is).represents in users_of_leader a r.there r.leads

  mover_users : map (users_at lists) movers ≡ map (users the) (movers_of the)
  mover_users = map_map (users_at lists) (λ (a : TopFacts). a.number) (movers_of the) ∙ map_in (λ (a : TopFacts). users_at lists a.number) (users the) (movers_of the) users_of_mover

  pub lists_are : lists_of lists movers ≡ user_lists
  unfolding lists_of
  lists_are = ap distinct mover_users

  numbered_are : numbered lists movers ≡ map (λ (a : TopFacts). pair (number_of user_lists (users the a)) a.number) (movers_of the)
  unfolding numbered
  numbered_are =
      ap (λ (ls : List (List ℕ)). map (λ m. pair (number_of ls (users_at lists m)) m) movers) lists_are
      ∙ (map_map (λ m. pair (number_of user_lists (users_at lists m)) m) (λ (a : TopFacts). a.number) (movers_of the)
      ∙ map_in (λ (a : TopFacts). pair (number_of user_lists (users_at lists a.number)) a.number) (λ (a : TopFacts). pair (number_of user_lists (users the a)) a.number) (movers_of the)
      (λ a is. ap (λ (us : List ℕ). pair (number_of user_lists us) a.number) (users_of_mover a is)))

  in_lists : (a : TopFacts) → In a (movers_of the) → In (users the a) user_lists
  in_lists a is = in_distinct (users the a) (map (users the) (movers_of the)) (in_map (users the) a (movers_of the) is)

  tops_at : (k : ℕ) → k < length user_lists → values_at (numbered lists movers) (0 + k) ≡ tops_with the (movers_of the) (get_or user_lists k [])
  tops_at k l =
      let z : 0 + k ≡ k = omega arith in
      (λ i. values_at (numbered_are i) (z i)) ∙ (values_of (λ (a : TopFacts). number_of user_lists (users the a)) (movers_of the) k
      ∙ ap numbers (filter_in (λ (a : TopFacts). number_of user_lists (users the a) == k) (λ (a : TopFacts). same_numbers (users the a) (get_or user_lists k [])) (movers_of the)
      (λ a is. number_is user_lists (users the a) k (distinct_apart (map (users the) (movers_of the))) (in_lists a is) l)))

  pub partials_are : partials_of tops.files_of_units tops.files (lists_of lists movers) (grouped (length (lists_of lists movers)) (numbered lists movers)) ≡ partials the
  unfolding partials_of grouped
  partials_are =
      ap (λ (ls : List (List ℕ)). map (λ (p : List ℕ × List ℕ). partial_of tops.files_of_units tops.files p.0 p.1) (zip ls (map (values_at (numbered lists movers)) (range_with_len 0 (length ls)))))
      lists_are
      ∙ (zip_range (partial_of tops.files_of_units tops.files) user_lists (values_at (numbered lists movers)) (tops_with the (movers_of the)) 0 tops_at ∙ partials_among the)

  number_is_in : (us : List ℕ) → number_in (partials the) us ≡ number_of user_lists us
  number_is_in us = ap (λ (parts : List Partial). number_in parts us) (sym (partials_among the)) ∙ position_map us (part_among the (movers_of the)) user_lists (λ vs. refl)

  -- ---- homes

  pub users_low : (a : TopFacts) → All (λ u. u < length tops.files_of_units) (users the a)
  unfolding users
  users_low a = all_from_in (λ u. u < length tops.files_of_units) (filter (λ unit. list_any (λ b. b.unit == unit && alike scope a b) the_rows) (units_of the))
      (λ u is. omega (arith, in_range u 0 (length tops.files_of_units) (in_filter_from (λ unit. list_any (λ b. b.unit == unit && alike scope a b) the_rows) u (units_of the) is).0))

  same_self : (h : Home) → same_home h h ≡ true
  same_self Common = refl
  same_self (Local f) = eq-eqb f f refl
  same_self Stay = refl

  represents_itself : (a : TopFacts) → In a the_rows → rep the a ≡ a.number → In a (representatives the (home the a))
  unfolding representatives
  represents_itself a is leads = in_filter (λ b. same_home (home the b) (home the a) && rep the b == b.number) a the_rows is
      (and_from (same_home (home the a) (home the a)) (rep the a == a.number) (same_self (home the a)) (eq-eqb (rep the a) a.number leads))

  -- a row that stands for itself and has a home is a mover
  moves_there : All (λ f. f < tops.files) tops.files_of_units → (a : TopFacts) → In a the_rows → rep the a ≡ a.number → (home the a ≡ Stay → ⊥) → In a (movers_of the)
  moves_there low a is leads other = by (home the a) refl
    where
      among : (fs : List ℕ) (f : ℕ) → In f fs → In a (representatives the (Local f)) → In a (flat_map (λ file. representatives the (Local file)) fs)
      among [] f is h = absurd is
      among (g ∷ fs) f (inl e) h = in_left a (representatives the (Local g)) (flat_map (λ file. representatives the (Local file)) fs) (subst (λ k. In a (representatives the (Local k))) (sym e) h)
      among (g ∷ fs) f (inr r) h = in_right a (representatives the (Local g)) (flat_map (λ file. representatives the (Local file)) fs) (among fs f r h)

      by : (h : Home) → home the a ≡ h → In a (movers_of the)
      by Common e = in_left a (representatives the Common) (flat_map (λ file. representatives the (Local file)) (range_with_len 0 tops.files))
          (subst (λ h. In a (representatives the h)) e (represents_itself a is leads))
      by (Local f) e =
          in_right a (representatives the Common) (flat_map (λ file. representatives the (Local file)) (range_with_len 0 tops.files))
          (among (range_with_len 0 tops.files) f (range_there f 0 tops.files (omega arith) (omega (arith, local_low tops.files tops.files_of_units (users the a) (users_low a) low f e)))
          (subst (λ h. In a (representatives the h)) e (represents_itself a is leads)))
      by Stay e = absurd (other e)

  pub placed_is : All (λ f. f < tops.files) tops.files_of_units → (a : TopFacts) → In a the_rows → placed tops.files_of_units lists (numbered lists movers) (rep the a) ≡ place the a
  unfolding placed place
  placed_is low a is =
      (λ i. fold (λ h p. cond (p.value == rep the a) (place_at (home_of tops.files_of_units (us i)) p.key) h) InUnit (numbered_are i)) ∙ by (home the a) refl
    where
      l : Leader the a
      l = leader the a is

      f : TopFacts → ℕ
      f b = number_of user_lists (users the b)

      x : ℕ → Place
      x n = place_at (home the a) n

      us : users_at lists (rep the a) ≡ users the a
      us = ap (users_at lists) l.number ∙ (users_of_leader l.row l.there l.leads ∙ l.same_users)

      same : (b : TopFacts) → In b (movers_of the) → b.number ≡ rep the a → b ≡ l.row
      same b is e = same_row 0 the_rows b l.row counted (mover_represents b is).represents.there l.there (e ∙ l.number)

      number : number_of user_lists (users the l.row) ≡ number_in (partials the) (users the a)
      number = ap (number_of user_lists) l.same_users ∙ sym (number_is_in (users the a))

      moving : (home the a ≡ Stay → ⊥) → fold (λ h p. cond (p.value == rep the a) (x p.key) h) InUnit (map (λ (b : TopFacts). pair (f b) b.number) (movers_of the))
          ≡ x (number_in (partials the) (users the a))
      moving other =
          places_found x f (rep the a) (x (f l.row)) InUnit (movers_of the) l.row (moves_there low l.row l.there l.leads (λ e. other (ap (home_of tops.files_of_units) (sym l.same_users) ∙ e)))
          (sym l.number) (λ b is e. ap (λ (c : TopFacts). x (f c)) (same b is e)) ∙ ap x number

      by : (h : Home) → home the a ≡ h → fold (λ h p. cond (p.value == rep the a) (x p.key) h) InUnit (map (λ (b : TopFacts). pair (f b) b.number) (movers_of the))
          ≡ x (number_in (partials the) (users the a))
      by Common e = moving (λ s. (let q : Common ≡ Stay = sym e ∙ s in cc))
      by (Local g) e = moving (λ s. (let q : Local g ≡ Stay = sym e ∙ s in cc))
      by Stay e = places_keep x f (rep the a) InUnit (movers_of the) (λ b is q. ap (λ h. place_at h (f b)) e) ∙ sym (ap (λ h. place_at h (number_in (partials the) (users the a))) e)

  -- ---- for each row

  pub rep_low : (a : TopFacts) → In a the_rows → rep the a < length the_rows
  rep_low a is = let l = leader the a is in omega (arith, l.number, counted_below 0 the_rows l.row counted l.there)

  pub reps_low : All (λ r. r < length the_rows) (reps_of the)
  reps_low = all_from_in (λ r. r < length the_rows) (reps_of the) (λ r is. (let o = in_map_from (rep the) r the_rows is in subst (λ n. n < length the_rows) o.is (rep_low o.source o.there)))

  -- each goes where what stands for it goes
  pub homes_are : All (λ f. f < tops.files) tops.files_of_units → (of_movers : List Place)
      → ((k : ℕ) → k < length lists → get_or of_movers k InUnit ≡ placed tops.files_of_units lists (numbered lists movers) k)
      → map (λ r. get_or of_movers r InUnit) (reps_of the) ≡ map (place the) the_rows
  homes_are low of_movers each =
      map_map (λ r. get_or of_movers r InUnit) (rep the) the_rows
      ∙ map_in (λ a. get_or of_movers (rep the a) InUnit) (place the) the_rows
      (λ a is. each (rep the a) (omega (arith, rep_low a is, length-map the_rows (λ (b : TopFacts). led_users tops least scope b.number))) ∙ placed_is low a is)

  -- ---- what the steps are given

  movers_by_is : movers_by tops.files_of_units tops.files lists ≡ movers
  unfolding movers_by
  movers_by_is = movers_are scope tops least

  pub parts_are : parts_by tops.files_of_units tops.files lists ≡ partials the
  unfolding parts_by
  parts_are = ap (λ (ms : List ℕ). partials_of tops.files_of_units tops.files (lists_of lists ms) (grouped (length (lists_of lists ms)) (numbered lists ms))) movers_by_is ∙ partials_are

  pub places_are : All (λ f. f < tops.files) tops.files_of_units → (of_movers : List Place)
      → ((k : ℕ) → k < length lists → get_or of_movers k InUnit ≡ placed_by tops.files_of_units tops.files lists k)
      → map (λ r. get_or of_movers r InUnit) (reps_of the) ≡ map (place the) the_rows
  places_are low of_movers each = homes_are low of_movers (λ k l. each k l ∙ ap (λ (ms : List ℕ). placed tops.files_of_units lists (numbered lists ms) k) movers_by_is)

  pub length_lists : length least ≡ length tops.rows → length lists ≡ length tops.rows
  length_lists len = length-map the_rows (λ (a : TopFacts). led_users tops least scope a.number) ∙ length-rows_from tops.files_of_units 0 tops.rows least len

  pub lists_low : All (λ us. All (λ u. u < length tops.files_of_units) us) lists
  unfolding keys_under
  lists_low =
      All-map (λ (us : List ℕ). All (λ u. u < length tops.files_of_units) us) (λ (a : TopFacts). led_users tops least scope a.number) the_rows
      (λ k d l. all_from_in (λ u. u < length tops.files_of_units) (led_users tops least scope (get_or the_rows k d).number)
      (λ u is. omega (
        arith,
        in_range u 0 (length tops.files_of_units)
            (in_filter_from (λ k'. list_any (λ p. p.key == k' && p.value == (get_or the_rows k d).number) (unit_pairs tops.rows (reps_of the))) u (range_with_len 0 (length tops.files_of_units)) is).0,
      )))

  pub users_are : length least ≡ length tops.rows → (rows : List TopRow) (reps : List ℕ) (units : ℕ) (users' : List (List ℕ)) → rows ≡ tops.rows → reps ≡ reps_of the
      → units ≡ length tops.files_of_units
      → users' ≡ all_keys (length rows) units (unit_pairs rows reps) → users' ≡ lists
  users_are len rows reps units users' rows_are reps_are units_are is = is
      ∙ ((λ i. all_keys (length (rows_are i)) (units_are i) (unit_pairs (rows_are i) (reps_are i))) ∙ led_lists scope tops least len)

  -- ---- the partial unit of what moves

  -- the partial unit of that number has the row's users, and the top that stands for it
  pub record PartOf (a : TopFacts) : Type 0 where
    pub low : number_in (partials the) (users the a) < length (partials the)
    pub is : (d : Partial) → get_or (partials the) (number_in (partials the) (users the a)) d ≡ part_among the (movers_of the) (users the a)
    pub holds : In (rep the a) (tops_with the (movers_of the) (users the a))

  pub part_of : All (λ f. f < tops.files) tops.files_of_units → (a : TopFacts) → In a the_rows → (home the a ≡ Stay → ⊥) → PartOf a
  part_of low a is other = record { low = below; is = at; holds = standing }
    where
      l : Leader the a
      l = leader the a is

      there : In l.row (movers_of the)
      there = moves_there low l.row l.there l.leads (λ e. other (ap (home_of tops.files_of_units) (sym l.same_users) ∙ e))

      listed_there : In (users the a) user_lists
      listed_there = subst (λ (us : List ℕ). In us user_lists) l.same_users (in_lists l.row there)

      found : number_of user_lists (users the a) < length user_lists
      found = position_found (same_numbers (users the a)) user_lists (has_from (users the a) user_lists listed_there)

      long : length (partials the) ≡ length user_lists
      long = ap (λ (ps : List Partial). length ps) (sym (partials_among the)) ∙ length-map user_lists (part_among the (movers_of the))

      below : number_in (partials the) (users the a) < length (partials the)
      below = omega (arith, number_is_in (users the a), found, long)

      same_list : users the a ≡ get_or user_lists (number_of user_lists (users the a)) []
      same_list =
          numbers_true (users the a) (get_or user_lists (number_of user_lists (users the a)) [])
          (sym (number_is user_lists (users the a) (number_of user_lists (users the a)) (distinct_apart (map (users the) (movers_of the))) listed_there found)
          ∙ eq-eqb (number_of user_lists (users the a)) (number_of user_lists (users the a)) refl)

      at : (d : Partial) → get_or (partials the) (number_in (partials the) (users the a)) d ≡ part_among the (movers_of the) (users the a)
      at d =
          (λ i. get_or (sym (partials_among the) i) (number_is_in (users the a) i) d)
          ∙ (get_or-map (part_among the (movers_of the)) user_lists (number_of user_lists (users the a)) [] d found ∙ ap (part_among the (movers_of the)) (sym same_list))

      standing : In (rep the a) (tops_with the (movers_of the) (users the a))
      standing =
          subst (λ n. In n (tops_with the (movers_of the) (users the a))) (sym l.number)
          (in_map (λ (b : TopFacts). b.number) l.row (filter (λ b. same_numbers (users the b) (users the a)) (movers_of the))
          (in_filter (λ b. same_numbers (users the b) (users the a)) l.row (movers_of the) there (ap (λ (us : List ℕ). same_numbers us (users the a)) l.same_users ∙ numbers_same (users the a))))

  -- the row of a number
  pub row_of_number : (n : ℕ) (d : TopFacts) → n < length the_rows → In (get_or the_rows n d) the_rows × ((get_or the_rows n d).number ≡ n)
  row_of_number n d l = (row_in 0 the_rows n d l, omega (arith, row_number 0 the_rows n d counted l))
