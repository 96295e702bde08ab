-- The plan of rows that is left by gain is the plan of units by gain.
use Rattle.std.proofs.Common.{◌≡◌, ◌↔◌, ℕ, Option, Some, None, zero, suc, ◌+◌, ◌<◌, ◌==◌, ◌&&◌, not, cond, Bool, true, false, List, [], ◌∷◌, ◌++◌, length, map, filter, get_or, refl, sym, ap, subst}
use Rattle.std.proofs.Common.{◌∙◌, arith}
use Rattle.std.specs.Prelude.{slice_get}
use Rattle.std.specs.List.{range_with_len}
use Rattle.std.proofs.lemmas.Bool.{false≢true}
use Rattle.std.proofs.lemmas.List.{get_or-map, length-map, map-append}
use Rattle.std.proofs.lemmas.List.FromFn.{get_or-map-range_with_len}
use Rattle.dwz_def_reading.specs.Lists.{Each, In}
use Rattle.dwz_def_reading.proofs.CaseFacts.{same_bool}
use Rattle.dwz_groups.specs.declared.tops.TopRow.{TopRow}
use Rattle.dwz_groups.specs.declared.tops.Tops.{Tops}
use Rattle.dwz_def_tops.specs.Lists.{Rising}
use Rattle.dwz_def_tops.specs.Deciding.{Test}
use Rattle.dwz_def_tops.specs.Spots.{EntryName, FileUnit, Top, tops_of}
use Rattle.dwz_def_tops.proofs.TopNumbers.{number_below, tops_numbers}
use Rattle.dwz_def_plan.specs.Gain.{gain_rule, gain_test, gains_test}
use Rattle.dwz_def_plan.specs.Homes.{Common, Home, Local, Rule, Stay, all_rule, candidate, home as ruled_home, is_home, moves as unit_moves, rep as unit_rep, users as unit_users}
use Rattle.dwz_def_plan.specs.Plan.{PartialUnit, is_pinned, kept as unit_kept, partials as unit_partials, stand_in as unit_stand_in, staying as unit_staying}
use Rattle.dwz_def_plan.proofs.UserLemmas.{moves_other}
use Rattle.dwz_groups.specs.Groups.{grouped}
use Rattle.dwz_plan.specs.Gaining.{edges_from, weights_of}
use Rattle.dwz_plan.specs.GainLaws.{part_gains, seed}
use Rattle.dwz_plan.specs.Groups.{AreGroups, IsGroup, ShowGains}
use Rattle.dwz_plan.proofs.ApartLemmas.{groups_apart}
use Rattle.dwz_plan.proofs.FilterLemmas.{partials_filter}
use Rattle.dwz_plan.proofs.MarkedLemmas.{marked}
use Rattle.dwz_groups.specs.Spreading.{IsMarked, IsSpread}
use Rattle.dwz_plan.specs.declared.plan.Home.{Home as Place}
use Rattle.dwz_plan.specs.declared.plan.Home.TheVariants.{Common as InCommon, Local as InFile, Stay as InUnit}
use Rattle.dwz_plan.specs.declared.plan.Partial.{Partial}
use Rattle.dwz_plan.specs.declared.plan.Scope.{Scope}
use Rattle.dwz_plan.specs.Gained.{IsGaining, among, before, gained, group_of, groups_of, home_after, kept_after, kept_by, mark_at, part_seed, place_after, stand_after, staying_after, staying_by}
use Rattle.dwz_plan.specs.Planned.{Planned, imports_from, partials, place, rep}
use Rattle.dwz_plan.specs.Rows.{Given, TopFacts, given, rows_from}
use Rattle.dwz_plan.specs.Shows.{HaveLeast, IsPlace, PartAt, ShowsPlan, ShowsTops, import_row, may_move, shown_part}
use Rattle.dwz_plan.specs.Steps.{is_in_unit}
use Rattle.dwz_plan.proofs.BridgeLemmas.{imports_shown, partials_is, place_is, rep_is, same}
use Rattle.dwz_plan.proofs.ListFacts.{map_map}
use Rattle.dwz_plan.proofs.RowLemmas.{length-rows_from}
use Rattle.dwz_plan.proofs.ShownLemmas.{SameRows, filter_shown, numbers_shown}
use Rattle.dwz_plan.proofs.StepLemmas.{row_of_number}

-- ---- lists by marks

among_map : {X Y : Type 0} (f : X → Y) (marks : List Bool) (xs : List X) → among marks (map f xs) ≡ map f (among marks xs)
unfolding among
among_map f [] xs = refl
among_map f (b ∷ marks) [] = refl
among_map {X} {Y} f (true ∷ marks) (x ∷ xs) = ap (λ (ys : List Y). f x ∷ ys) (among_map f marks xs)
among_map f (false ∷ marks) (x ∷ xs) = among_map f marks xs

among_filter : {X : Type 0} (p : X → Bool) (marks : List Bool) (xs : List X) → length marks ≡ length xs → ((i : ℕ) (x : X) → slice_get xs i ≡ Some x → (get_or marks i false ≡ true) ↔ (p x ≡ true))
    → among marks xs ≡ filter p xs
unfolding among
among_filter p [] [] l h = refl
among_filter p [] (x ∷ xs) l h = absurd (omega arith)
among_filter p (b ∷ marks) [] l h = refl
among_filter {X} p (b ∷ marks) (x ∷ xs) l h = by b (p x) (same_bool b (p x) (h 0 x refl)) (among_filter p marks xs (omega arith) (λ i y e. h (suc i) y e))
  where
    by : (b c : Bool) → b ≡ c → among marks xs ≡ filter p xs → among (b ∷ marks) (x ∷ xs) ≡ cond c (x ∷ filter p xs) (filter p xs)
    by true true e more = ap (λ (ys : List X). x ∷ ys) more
    by true false e more = absurd cc
    by false true e more = absurd cc
    by false false e more = more

among_get : {X : Type 0} (marks : List Bool) (xs : List X) (i : ℕ) (x : X) → slice_get xs i ≡ Some x → mark_at marks i ≡ true → slice_get (among marks xs) (before marks i) ≡ Some x
unfolding among before
among_get [] xs i x e m = absurd (false≢true m)
among_get (b ∷ marks) [] i x e m = absurd cc
among_get (true ∷ marks) (y ∷ xs) zero x e m = e
among_get (false ∷ marks) (y ∷ xs) zero x e m = absurd (false≢true m)
among_get (true ∷ marks) (y ∷ xs) (suc i) x e m = let one : suc (before marks i) ≡ 1 + before marks i = omega arith in subst (λ (k : ℕ). slice_get (y ∷ among marks xs) k ≡ Some x) one
    (among_get marks xs i x e m)
among_get (false ∷ marks) (y ∷ xs) (suc i) x e m = let none : before marks i ≡ 0 + before marks i = omega arith in subst (λ (k : ℕ). slice_get (among marks xs) k ≡ Some x) none
    (among_get marks xs i x e m)

each_below : (m s n : ℕ) → m < s → Each (λ k. m < k) (range_with_len s n)
each_below m s zero l = tt
each_below m s (suc n) l = (l, each_below m (s + 1) n (omega arith))

range_rises : (s n : ℕ) → Rising (range_with_len s n)
range_rises s zero = tt
range_rises s (suc n) = (each_below s (s + 1) n (omega arith), range_rises (s + 1) n)

rows_count : (units : List (FileUnit EntryName)) (rows : List TopFacts) (tops : List Top) → SameRows units rows tops → length rows ≡ length tops
rows_count units [] [] h = refl
rows_count units [] (t ∷ tops) h = absurd h
rows_count units (a ∷ rows) [] h = absurd h
rows_count units (a ∷ rows) (t ∷ tops) h = ap suc (rows_count units rows tops h.1)

no_row : TopFacts
no_row = record { number = 0; unit = 0; file = 0; movable = false; pinned = false; least = 0 }

-- the row of a number says of moving what the row of the top says
row_may : (files : List ℕ) (s : ℕ) (rows : List TopRow) (least : List ℕ) (n : ℕ) → length least ≡ length rows → n < length rows → (get_or (rows_from files s rows least) n no_row).movable
    ≡ may_move rows n
unfolding rows_from
row_may files s [] least n e l = absurd (omega arith)
row_may files s (r ∷ rows) [] n e l = absurd (omega (arith, e))
row_may files s (r ∷ rows) (x ∷ least) zero e l = refl
row_may files s (r ∷ rows) (x ∷ least) (suc n) e l = row_may files (suc s) rows least n (omega (arith, e)) (omega arith)

-- what a place says of moving
placed_moves : (rule : Rule) (units : List (FileUnit EntryName)) (parts : List PartialUnit) (n : ℕ) (h : Place) → IsPlace rule units parts n h → unit_moves rule units n ≡ not (is_in_unit h)
placed_moves rule units parts n (InCommon p) i = ap is_home i.0
placed_moves rule units parts n (InFile p) i = ap is_home i.1
placed_moves rule units parts n InUnit i = ap is_home i

module _ (units : List (FileUnit EntryName)) (test : Test) (scope : Scope) (tops : Tops) (least : List ℕ) (shows : ShowsTops units tops) (decides : HaveLeast scope tops least test) (marks : List
    Bool)
    (gaining : IsGaining (given scope tops least) marks) where
  abbrev g : Given
  g = given scope tops least

  abbrev all : Rule
  all = all_rule test

  abbrev gain : Rule
  gain = gain_rule test units

  abbrev files : List ℕ
  files = range_with_len 0 tops.files

  abbrev parts : List PartialUnit
  parts = unit_partials all units files

  abbrev after : List PartialUnit
  after = unit_partials gain units files

  rows_same : SameRows units g.rows (tops_of units)
  rows_same = same units test scope tops least shows decides

  many : length g.rows ≡ length (tops_of units)
  many = rows_count units g.rows (tops_of units) rows_same

  parts_shown : map (shown_part tops.files) parts ≡ partials g
  parts_shown = partials_is units test scope tops least shows decides

  -- ---- the partial units are the groups

  group_is : (n : ℕ) (h : Place) → IsPlace all units parts n h → IsGroup test units parts (group_of h) n
  unfolding ruled_home
  group_is n (InCommon p) i = let at = i.1 in (at.part, at.there, i.0 ∙ sym at.home, sym at.users)
  group_is n (InFile p) i = let at = i.2 in (at.part, at.there, i.1 ∙ sym at.home, sym at.users)
  group_is n InUnit i = i

  groups_are : AreGroups test units parts (groups_of g)
  groups_are = record {
    apart = groups_apart test units files (range_rises 0 tops.files);
    len = length-map g.rows (λ a. group_of (place g a)) ∙ many;
    of_top = λ t there. (
        let low : t.number < 0 + length (tops_of units) = number_below 0 (tops_of units) t (tops_numbers units) there in
        let l : t.number < length g.rows = omega (arith, low, many) in
        let r = row_of_number scope tops least t.number no_row l in
        let a : TopFacts = get_or g.rows t.number no_row in
        subst (λ (o : Option ℕ). IsGroup test units parts o t.number) (sym (get_or-map (λ b. group_of (place g b)) g.rows t.number no_row None l))
        (subst (λ n. IsGroup test units parts (group_of (place g a)) n) r.1 (group_is a.number (place g a) (place_is units test scope tops least shows decides a r.0))));
  }

  abbrev ws : List ℕ
  ws = weights_of tops.rows

  row_there : (t : Top) → In t (tops_of units) → In (get_or g.rows t.number no_row) g.rows × ((get_or g.rows t.number no_row).number ≡ t.number)
  row_there t there =
      let low : t.number < 0 + length (tops_of units) = number_below 0 (tops_of units) t (tops_numbers units) there in
      row_of_number scope tops least t.number no_row (omega (arith, low, many))

  -- what goes to a home has an alike top, so its row says that it may move
  may_from : (t : Top) → In t (tops_of units) → is_home (candidate test units t.number) ≡ true → may_move tops.rows t.number ≡ true
  unfolding ruled_home
  may_from t there home =
      let o = (moves_other units all t.number 0 home).used_by in
      let a = row_there t there in
      let b = row_there o.top o.there in
      let both : test (get_or g.rows t.number no_row).number (get_or g.rows o.top.number no_row).number ≡ true = (λ i. test (a.1 i) (b.1 i)) ∙ o.alike_is in
      let joins = (decides.decides (get_or g.rows t.number no_row) (get_or g.rows o.top.number no_row) a.0 b.0).0 both in
      let low : t.number < 0 + length (tops_of units) = number_below 0 (tops_of units) t (tops_numbers units) there in
      let rows = length-rows_from tops.files_of_units 0 tops.rows least decides.len in
      sym (row_may tops.files_of_units 0 tops.rows least t.number decides.len (omega (arith, low, many, rows))) ∙ joins.first

  gains_are : ShowGains test units ws tops.targets
  gains_are = record { len = shows.len; weights = shows.weights; targets = λ t there home. shows.targets t there (may_from t there home) }

  spread : IsSpread (grouped (length parts) (edges_from (groups_of g) (groups_of g) tops.targets)) (map (seed ws) parts) marks
  spread =
      let seeds : map (part_seed ws) (partials g) ≡ map (seed ws) parts = ap (map (part_seed ws)) (sym parts_shown) ∙ map_map (part_seed ws) (shown_part tops.files) parts in
      let len : length (partials g) ≡ length parts = ap (λ (ps : List Partial). length ps) (sym parts_shown) ∙ length-map parts (shown_part tops.files) in
      subst (λ n. IsSpread (grouped n (edges_from (groups_of g) (groups_of g) tops.targets)) (map (seed ws) parts) marks) len
      (subst (λ (bs : List Bool). IsSpread (grouped (length (partials g)) (edges_from (groups_of g) (groups_of g) tops.targets)) bs marks) seeds gaining)

  marked_is : (i : ℕ) (part : PartialUnit) → slice_get parts i ≡ Some part → IsMarked marks i ↔ (part_gains test units part ≡ true)
  marked_is i part e = marked test units parts (groups_of g) ws tops.targets groups_are gains_are marks spread i part e

  after_is : among marks parts ≡ after
  after_is = among_filter (part_gains test units) marks parts (spread.len ∙ length-map parts (seed ws)) marked_is ∙ sym (partials_filter test units files)

  partials_after : map (shown_part tops.files) after ≡ among marks (partials g)
  partials_after = ap (map (shown_part tops.files)) (sym after_is) ∙ sym (among_map (shown_part tops.files) marks parts) ∙ ap (among marks) parts_shown

  -- ---- homes

  mark_is : (n i : ℕ) (part : PartialUnit) → slice_get parts i ≡ Some part → candidate test units n ≡ part.home → unit_users test units n ≡ part.users → gains_test test units n ≡ mark_at marks i
  unfolding gains_test
  mark_is n i part e h us = (λ j. gain_test test units (length (tops_of units)) (h j) (us j)) ∙ sym (same_bool (mark_at marks i) (part_gains test units part) (marked_is i part e))

  home_by : (n : ℕ) (b : Bool) → gains_test test units n ≡ b → ruled_home gain units n ≡ cond b (candidate test units n) Stay
  unfolding ruled_home
  home_by n true e = ap (λ (b : Bool). elim b as (λ _. Home) [ true ↦ candidate test units n | false ↦ Stay ]) e
  home_by n false e = ap (λ (b : Bool). elim b as (λ _. Home) [ true ↦ candidate test units n | false ↦ Stay ]) e

  still : (n : ℕ) (b : Bool) → candidate test units n ≡ Stay → cond b (candidate test units n) Stay ≡ Stay
  still n true e = e
  still n false e = refl

  part_after : (n p : ℕ) (h : Home) → PartAt parts p h (unit_users test units n) (unit_rep test units n) → mark_at marks p ≡ true
      → PartAt after (before marks p) h (unit_users test units n) (unit_rep test units n)
  part_after n p h at m =
      record {
        part = at.part;
        there = subst (λ (ps : List PartialUnit). slice_get ps (before marks p) ≡ Some at.part) after_is (among_get marks parts p at.part at.there m);
        home = at.home;
        users =
            at.users;
        holds = at.holds;
      }

  place_gained : (n : ℕ) (h : Place) → IsPlace all units parts n h → IsPlace gain units after n (place_after marks h)
  unfolding place_after ruled_home
  place_gained n (InCommon p) i = by (mark_at marks p) refl
    where
      by : (b : Bool) → mark_at marks p ≡ b → IsPlace gain units after n (cond b (InCommon (before marks p)) InUnit)
      by true m = (home_by n true (mark_is n p i.1.part i.1.there (i.0 ∙ sym i.1.home) (sym i.1.users) ∙ m) ∙ i.0, part_after n p Common i.1 m)
      by false m = home_by n false (mark_is n p i.1.part i.1.there (i.0 ∙ sym i.1.home) (sym i.1.users) ∙ m)
  place_gained n (InFile p) i = by (mark_at marks p) refl
    where
      by : (b : Bool) → mark_at marks p ≡ b → IsPlace gain units after n (cond b (InFile (before marks p)) InUnit)
      by true m = (i.0, home_by n true (mark_is n p i.2.part i.2.there (i.1 ∙ sym i.2.home) (sym i.2.users) ∙ m) ∙ i.1, part_after n p (Local i.0) i.2 m)
      by false m = home_by n false (mark_is n p i.2.part i.2.there (i.1 ∙ sym i.2.home) (sym i.2.users) ∙ m)
  place_gained n InUnit i = home_by n (gains_test test units n) refl ∙ still n (gains_test test units n) i

  home_gained : (a : TopFacts) → In a g.rows → IsPlace gain units after a.number (home_after marks g a)
  home_gained a is = place_gained a.number (place g a) (place_is units test scope tops least shows decides a is)

  moves_gained : (a : TopFacts) → In a g.rows → not (is_in_unit (home_after marks g a)) ≡ unit_moves gain units a.number
  moves_gained a is = sym (placed_moves gain units after a.number (home_after marks g a) (home_gained a is))

  -- ---- what stands for what, what is kept

  stand_gained : (a : TopFacts) → In a g.rows → stand_after marks g a ≡ unit_stand_in gain units a.number
  unfolding unit_stand_in
  stand_gained a is =
      by (is_in_unit (home_after marks g a)) ∙ (λ i. elim (moves_gained a is i) as (λ _. ℕ) [ true ↦ sym (rep_is units test scope tops least shows decides a is) i | false ↦ a.number ])
    where
      by : (b : Bool) → cond b a.number (rep g a) ≡ elim (not b) as (λ _. ℕ) [ true ↦ rep g a | false ↦ a.number ]
      by true = refl
      by false = refl

  not_not : (b : Bool) → b ≡ not (not b)
  not_not true = refl
  not_not false = refl

  staying_same : (unit : ℕ) → SameRows units (staying_after marks g unit) (unit_staying gain units unit)
  unfolding staying_by unit_staying
  staying_same unit =
      filter_shown units (λ a. a.unit == unit && is_in_unit (home_after marks g a)) (λ t. t.unit == unit && not (unit_moves gain units t.number)) g.rows (tops_of units) rows_same
      (λ a t is s. (λ i. s.unit i == unit && (not_not (is_in_unit (home_after marks g a)) ∙ ap not (moves_gained a is ∙ ap (unit_moves gain units) s.number)) i))

  kept_gained : (unit : ℕ) → map (λ (t : Top). t.number) (unit_kept gain units unit) ≡ kept_after marks g unit
  unfolding kept_by unit_kept
  kept_gained unit =
      let stay = staying_after marks g unit in
      let these = unit_staying gain units unit in
      let pinned = filter_shown units (λ a. a.pinned) (λ t. is_pinned units t.number) stay these (staying_same unit) (λ a t is s. s.pinned) in
      let others = filter_shown units (λ a. not a.pinned) (λ t. not (is_pinned units t.number)) stay these (staying_same unit) (λ a t is s. ap not s.pinned) in
      map-append (λ (t : Top). t.number) (filter (λ t. is_pinned units t.number) these) (filter (λ t. not (is_pinned units t.number)) these)
      ∙ ((λ i. numbers_shown units (filter (λ a. a.pinned) stay) (filter (λ t. is_pinned units t.number) these) pinned i ++ numbers_shown units (filter (λ a. not a.pinned) stay)
      (filter (λ t. not (is_pinned units t.number)) these) others i)
      ∙ sym (map-append (λ (a : TopFacts). a.number) (filter (λ a. a.pinned) stay) (filter (λ a. not a.pinned) stay)))

  -- ---- the plan

  gained_shows : ShowsPlan gain units tops.files (gained marks g)
  unfolding gained
  gained_shows =
      let count : length tops.files_of_units ≡ length units = ap (λ (ns : List ℕ). length ns) shows.files_of_units ∙ length-map units (λ (f : FileUnit EntryName). f.file) in
      let at : (t : Top) → In t (tops_of units) → t.number < length g.rows =
      λ t there. (let low : t.number < 0 + length (tops_of units) = number_below 0 (tops_of units) t (tops_numbers units) there in omega (arith, low, many)) in
      record {
        partials = partials_after;
        homes = λ t there. (
            let l = at t there in
            let r = row_of_number scope tops least t.number no_row l in
            let a : TopFacts = get_or g.rows t.number no_row in
            subst (λ (h : Place). IsPlace gain units after t.number h) (sym (get_or-map (home_after marks g) g.rows t.number no_row InUnit l))
            (subst (λ n. IsPlace gain units after n (home_after marks g a)) r.1 (home_gained a r.0)));
        stand_ins = λ t there. (
            let l = at t there in
            let r = row_of_number scope tops least t.number no_row l in
            let a : TopFacts = get_or g.rows t.number no_row in
            get_or-map (stand_after marks g) g.rows t.number no_row 0 l ∙ (stand_gained a r.0 ∙ ap (unit_stand_in gain units) r.1));
        kept = λ unit l. get_or-map-range_with_len (kept_after marks g) 0 (length tops.files_of_units) unit unit [] (omega (arith, l, count)) (omega arith) ∙ sym (kept_gained unit);
        imports = λ unit l. (
            imports_shown tops.files unit 0 after
            ∙ ap (λ (ps : List Partial). import_row unit (imports_from unit 0 ps)) partials_after
            ∙ ap (import_row unit) (sym (get_or-map-range_with_len (λ u. imports_from u 0 (among marks (partials g))) 0 (length tops.files_of_units) unit unit [] (omega (arith, l, count))
            (omega arith))));
      }

  pub plan_gained : (plan : Planned) → plan ≡ gained marks g → ShowsPlan gain units tops.files plan
  plan_gained plan is = subst (λ (p : Planned). ShowsPlan gain units tops.files p) (sym is) gained_shows
