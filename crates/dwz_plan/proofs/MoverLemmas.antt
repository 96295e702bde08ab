-- The movers, by the steps and by the rows.
use Rattle.std.proofs.Common.{◌≡◌, ℕ, zero, suc, ◌+◌, ◌==◌, ◌&&◌, ◌⊎◌, inl, inr, cond, Bool, true, false, List, [], ◌∷◌, ◌++◌, length, map, filter, refl, sym, ap, ◌∙◌, arith, eq-eqb}
use Rattle.std.specs.List.{concat, flat_map, range_with_len}
use Rattle.std.proofs.lemmas.Bool.{cases_eq, ne_eqb}
use Rattle.std.proofs.lemmas.List.{map-append}
use Rattle.dwz_def_reading.specs.Lists.{In}
use Rattle.dwz_groups.specs.declared.tops.Tops.{Tops}
use Rattle.dwz_def_plan.specs.Homes.{Common, Home, Local, Stay, same_home}
use Rattle.dwz_plan.specs.declared.plan.Scope.{Scope}
use Rattle.dwz_groups.specs.Groups.{grouped, values_at}
use Rattle.dwz_plan.specs.Planned.{home, home_of, numbers, rep, reps_of, representatives}
use Rattle.dwz_plan.specs.Rows.{Given, TopFacts, given, rows_from}
use Rattle.dwz_plan.specs.Steps.{all_keys, pair, rank_of, ranked, ranked_one, unit_pairs}
use Rattle.dwz_groups.specs.declared.groups.Edge.{Edge}
use Rattle.dwz_plan.proofs.LedLemmas.{Counted, numbers_counted, rows_counted}
use Rattle.dwz_plan.proofs.ListFacts.{concat_map, filter_in, map_map, range_shift}
use Rattle.dwz_plan.proofs.RowLemmas.{length-rows_from}
use Rattle.dwz_plan.proofs.TurnedLemmas.{values_at-append}
use Rattle.dwz_plan.proofs.UserLemmas.{led_users, led_users_no, led_users_yes}

-- the home of a rank
abbrev pub home_at : ℕ → Home
home_at zero = Common
home_at (suc file) = Local file

same_suc : (f g : ℕ) → f + 1 == suc g ≡ f == g
same_suc f g = by (cases_eq f g)
  where
    by : (f ≡ g) ⊎ (f ≡ g → ⊥) → f + 1 == suc g ≡ f == g
    by (inl e) = eq-eqb (f + 1) (suc g) (omega (arith, e)) ∙ sym (eq-eqb f g e)
    by (inr ne) = ne_eqb (f + 1) (suc g) (λ e. ne (omega (arith, e))) ∙ sym (ne_eqb f g ne)

ranked_at : (h : Home) (n r : ℕ) → values_at (ranked_one (rank_of h) n) r ≡ cond (same_home h (home_at r)) (n ∷ []) []
unfolding values_at
ranked_at Common n zero = refl
ranked_at Common n (suc r) = ap (λ t. map (λ (p : Edge). p.value) (cond t (pair 0 n ∷ []) [])) (ne_eqb 0 (suc r) (λ e. omega (arith, e)))
ranked_at (Local f) n zero = ap (λ t. map (λ (p : Edge). p.value) (cond t (pair (f + 1) n ∷ []) [])) (ne_eqb (f + 1) 0 (λ e. omega (arith, e)))
ranked_at (Local f) n (suc r) = by (f + 1 == suc r) ∙ ap (λ t. cond t (n ∷ []) []) (same_suc f r)
  where
    by : (t : Bool) → map (λ (p : Edge). p.value) (cond t (pair (f + 1) n ∷ []) []) ≡ cond t (n ∷ []) []
    by true = refl
    by false = refl
ranked_at Stay n zero = refl
ranked_at Stay n (suc r) = refl

ranked_values : (files : List ℕ) (lists : ℕ → List ℕ) (s : ℕ) (rows : List TopFacts) (r : ℕ) → Counted s rows
    → values_at (ranked files s (map (λ a. lists a.number) rows)) r ≡ numbers (filter (λ a. same_home (home_of files (lists a.number)) (home_at r)) rows)
unfolding ranked values_at
ranked_values files lists s [] r c = refl
ranked_values files lists s (a ∷ rows) r c =
    let us : List ℕ = lists a.number in
    let e : s + 1 ≡ suc s = omega arith in
    let more = ap (λ m. values_at (ranked files m (map (λ (b : TopFacts). lists b.number) rows)) r) e ∙ ranked_values files lists (suc s) rows r c.1 in
    values_at-append (ranked_one (rank_of (home_of files us)) s) (ranked files (s + 1) (map (λ (b : TopFacts). lists b.number) rows)) r
    ∙ ((λ i. ranked_at (home_of files us) s r i ++ more i) ∙ by (same_home (home_of files us) (home_at r)))
  where
    rest : List TopFacts
    rest = filter (λ (b : TopFacts). same_home (home_of files (lists b.number)) (home_at r)) rows

    by : (t : Bool) → cond t (s ∷ []) [] ++ numbers rest ≡ numbers (cond t (a ∷ rest) rest)
    by true = ap (λ n. n ∷ numbers rest) (sym c.0)
    by false = refl

stays_apart : (r : ℕ) → same_home Stay (home_at r) ≡ false
stays_apart zero = refl
stays_apart (suc r) = refl

-- all rows with homes
abbrev pub movers_of : Given → List TopFacts
movers_of g = representatives g Common ++ flat_map (λ file. representatives g (Local file)) (range_with_len 0 g.files)

module _ (scope : Scope) (tops : Tops) (least : List ℕ) where
  rank_of_led : (a : TopFacts) → In a (rows_from tops.files_of_units 0 tops.rows least) → (r : ℕ)
      → same_home (home_of tops.files_of_units (led_users tops least scope a.number)) (home_at r)
      ≡ (same_home (home (given scope tops least) a) (home_at r) && rep (given scope tops least) a == a.number)
  rank_of_led a is r = by (cases_eq (rep (given scope tops least) a) a.number)
    where
      g : Given
      g = given scope tops least

      right : (t : Bool) → (t && true) ≡ t
      right true = refl
      right false = refl

      wrong : (t : Bool) → (t && false) ≡ false
      wrong true = refl
      wrong false = refl

      by : (rep (given scope tops least) a ≡ a.number) ⊎ (rep (given scope tops least) a ≡ a.number → ⊥)
          → same_home (home_of tops.files_of_units (led_users tops least scope a.number)) (home_at r)
          ≡ (same_home (home (given scope tops least) a) (home_at r) && rep (given scope tops least) a == a.number)
      by (inl e) =
          ap (λ (us : List ℕ). same_home (home_of tops.files_of_units us) (home_at r)) (led_users_yes scope tops least a is e)
          ∙ (sym (right (same_home (home (given scope tops least) a) (home_at r))) ∙ ap (λ t. same_home (home (given scope tops least) a) (home_at r) && t)
          (sym (eq-eqb (rep (given scope tops least) a) a.number e)))
      by (inr ne) =
          ap (λ (us : List ℕ). same_home (home_of tops.files_of_units us) (home_at r)) (led_users_no scope tops least a is ne)
          ∙ (stays_apart r ∙ (sym (wrong (same_home (home (given scope tops least) a) (home_at r))) ∙ ap (λ t. same_home (home (given scope tops least) a) (home_at r) && t)
          (sym (ne_eqb (rep (given scope tops least) a) a.number ne))))

  -- the users of all, as a list for each row
  pub led_lists : length least ≡ length tops.rows → all_keys (length tops.rows) (length tops.files_of_units) (unit_pairs tops.rows (reps_of (given scope tops least)))
      ≡ map (λ (a : TopFacts). led_users tops least scope a.number) (rows_from tops.files_of_units 0 tops.rows least)
  unfolding all_keys
  led_lists len =
      let rows : List TopFacts = rows_from tops.files_of_units 0 tops.rows least in
      let many : length rows ≡ length tops.rows = length-rows_from tops.files_of_units 0 tops.rows least len in
      ap (λ n. map (led_users tops least scope) (range_with_len 0 n)) (sym many)
      ∙ (ap (map (led_users tops least scope)) (sym (numbers_counted 0 rows (rows_counted tops.files_of_units 0 tops.rows least))) ∙ map_map (led_users tops least scope) (λ (a : TopFacts). a.number)
      rows)

  ranked_are : (r : ℕ) → values_at (ranked tops.files_of_units 0 (map (λ (a : TopFacts). led_users tops least scope a.number) (rows_from tops.files_of_units 0 tops.rows least))) r
      ≡ numbers (representatives (given scope tops least) (home_at r))
  unfolding representatives
  ranked_are r =
      let rows : List TopFacts = rows_from tops.files_of_units 0 tops.rows least in
      ranked_values tops.files_of_units (led_users tops least scope) 0 rows r (rows_counted tops.files_of_units 0 tops.rows least)
      ∙ ap numbers (filter_in (λ (a : TopFacts). same_home (home_of tops.files_of_units (led_users tops least scope a.number)) (home_at r))
      (λ (a : TopFacts). same_home (home (given scope tops least) a) (home_at r) && rep (given scope tops least) a == a.number) rows (λ a is. rank_of_led a is r))

  pub movers_are : concat (grouped (tops.files + 1) (ranked tops.files_of_units 0 (map (λ (a : TopFacts). led_users tops least scope a.number) (rows_from tops.files_of_units 0 tops.rows least))))
      ≡ numbers (movers_of (given scope tops least))
  unfolding grouped
  movers_are =
      let g : Given = given scope tops least in
      let pairs : List Edge = ranked tops.files_of_units 0 (map (λ (a : TopFacts). led_users tops least scope a.number) (rows_from tops.files_of_units 0 tops.rows least)) in
      let more : tops.files + 1 ≡ suc tops.files = omega arith in
      let one : 0 + 1 ≡ 1 = refl in
      let rest : concat (map (values_at pairs) (range_with_len 1 tops.files)) ≡ numbers (flat_map (λ file. representatives g (Local file)) (range_with_len 0 tops.files)) =
      ap (λ (ns : List ℕ). concat (map (values_at pairs) ns)) (range_shift 0 tops.files) ∙ (ap concat (map_map (values_at pairs) suc (range_with_len 0 tops.files))
      ∙ (ap concat ((λ i. map (λ file. ranked_are (suc file) i) (range_with_len 0 tops.files))) ∙ concat_map (λ (a : TopFacts). a.number) (λ file. representatives g (Local file))
      (range_with_len 0 tops.files))) in
      ap (λ n. concat (map (values_at pairs) (range_with_len 0 n))) more
      ∙ ((λ i. ranked_are 0 i ++ rest i) ∙ sym (map-append (λ (a : TopFacts). a.number) (representatives g Common) (flat_map (λ file. representatives g (Local file)) (range_with_len 0 tops.files))))
