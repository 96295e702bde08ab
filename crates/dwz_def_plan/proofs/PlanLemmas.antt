-- The partial units are as they are asked for.
use Rattle.std.proofs.Common.{◌≡◌, ◌≢◌, ℕ, suc, ◌<◌, ◌==◌, not, cond, Bool, true, false, List, [], ◌∷◌, map, refl, sym, ap, subst, ◌∙◌, arith, inl, inr, eqb-true, eq-eqb}
use Rattle.std.proofs.lemmas.Bool.{and_from, and_parts, not-true}
use Rattle.std.specs.List.{filter}
use Rattle.dwz_def_reading.specs.Lists.{Each, In}
use Rattle.dwz_def_reading.proofs.ListFacts.{in_cases, in_left, in_map, in_right}
use Rattle.dwz_def_tops.specs.Alike.{IsAlike, TopScope}
use Rattle.dwz_def_tops.specs.Lists.{EachPair, Nth, Rising}
use Rattle.dwz_def_plan.specs.IsPlan.{BelongsTo, HasRep, IsPart, IsPlan, Precedes, first_number, rank}
use Rattle.dwz_def_plan.specs.Homes.{Common, Home, IsChoice, Local, Rule, Stay, home, is_home, moves, rep, same_home, users}
use Rattle.dwz_def_plan.specs.Plan.{PartialUnit, distinct, local_partials, partial_with, partials, partials_at, representatives, stands_for, users_of}
use Rattle.dwz_def_tops.specs.Spots.{EntryName, FileUnit, Top, same_numbers, tops_of}
use Rattle.dwz_def_tops.proofs.SpotLemmas.{numbers_same, numbers_true}
use Rattle.dwz_def_plan.proofs.HomeLemmas.{home_file}
use Rattle.dwz_def_tops.proofs.Members.{each_append, each_in, each_of, in_filter, in_filter_from, in_map_from, nth_in, nth_pair, pair_append, pair_filter, pair_map, pair_more}
use Rattle.dwz_def_tops.proofs.Tops.{tops_rise}
use Rattle.dwz_def_plan.proofs.UserLemmas.{Fair, home_same, leads, moving, users_same}
use Rattle.dwz_def_plan.proofs.StandLemmas.{fair}

-- ---- equal lists, equal homes

numbers_unequal : (xs ys : List ℕ) → xs ≢ ys → same_numbers xs ys ≡ false
numbers_unequal xs ys ne = go (same_numbers xs ys) refl where
  go : (b : Bool) → same_numbers xs ys ≡ b → b ≡ false
  go true q = absurd (ne (numbers_true xs ys q))
  go false q = refl

pub home_true : (g h : Home) → same_home g h ≡ true → g ≡ h
home_true Common Common e = refl
home_true (Local a) (Local b) e = ap (λ (n : ℕ). Local n) (eqb-true a b e)
home_true Stay Stay e = refl
home_true _ _ e = absurd cc

pub home_own : (h : Home) → same_home h h ≡ true
home_own Common = refl
home_own (Local a) = eq-eqb a a refl
home_own Stay = refl

-- ---- each list of users once

pub distinct_in : (us : List ℕ) (others : List (List ℕ)) → In us (distinct others) → In us others
unfolding distinct
distinct_in us [] h = absurd h
distinct_in us (vs ∷ others) (inl e) = inl e
distinct_in us (vs ∷ others) (inr r) = inr (distinct_in us others (in_filter_from (λ ws. not (same_numbers vs ws)) us (distinct others) r).0)

pub in_distinct : (us : List ℕ) (others : List (List ℕ)) → In us others → In us (distinct others)
unfolding distinct
in_distinct us [] h = absurd h
in_distinct us (vs ∷ others) (inl e) = inl e
in_distinct us (vs ∷ others) (inr r) = go (in_distinct us others r) (same_numbers vs us) refl where
  go : In us (distinct others) → (b : Bool) → same_numbers vs us ≡ b → In us (distinct (vs ∷ others))
  go more true q = inl (numbers_true vs us q)
  go more false q = inr (in_filter (λ ws. not (same_numbers vs ws)) us (distinct others) more (ap not q))

distinct_apart : (others : List (List ℕ)) → EachPair (λ us vs. us ≢ vs) (distinct others)
unfolding distinct
distinct_apart [] = tt
distinct_apart (vs ∷ others) = (
  each_of (λ us. vs ≢ us) (filter (λ ws. not (same_numbers vs ws)) (distinct others)) (λ us is e.
      let o = in_filter_from (λ ws. not (same_numbers vs ws)) us (distinct others) is in
      let same : same_numbers vs us ≡ true = ap (same_numbers vs) (sym e) ∙ numbers_same vs in
      let unlike = not-true (same_numbers vs us) o.1 in
      absurd cc),
  pair_filter (λ us ws. us ≢ ws) (λ ws. not (same_numbers vs ws)) (distinct others) (distinct_apart others),
)

-- ---- in the order of their first tops

module _ (of_top : Top → List ℕ) where
  abbrev with_users : List ℕ → List Top → List Top
  with_users us tops = filter (λ t. same_numbers (of_top t) us) tops

  abbrev Sooner : List Top → List ℕ → List ℕ → Type 0
  Sooner tops us vs = first_number (with_users us tops) < first_number (with_users vs tops)

  first_behind : (n : ℕ) (us : List ℕ) (tops : List Top) → Each (λ t. n < t.number) tops → In us (map of_top tops) → n < first_number (with_users us tops)
  first_behind n us [] later is = absurd is
  first_behind n us (t ∷ tops) later is = go (first_behind n us tops later.1) is (same_numbers (of_top t) us) refl where
    go : (In us (map of_top tops) → n < first_number (with_users us tops)) → In us (map of_top (t ∷ tops)) → (b : Bool) → same_numbers (of_top t) us ≡ b
        → n < first_number (cond b (t ∷ with_users us tops) (with_users us tops))
    go more here true q = later.0
    go more (inl e) false q = absurd (let s : same_numbers (of_top t) us ≡ true = ap (same_numbers (of_top t)) (sym e) ∙ numbers_same (of_top t) in cc)
    go more (inr r) false q = more r

  first_same : (t : Top) (tops : List Top) (us : List ℕ) → of_top t ≢ us → first_number (with_users us (t ∷ tops)) ≡ first_number (with_users us tops)
  first_same t tops us ne = rw (numbers_unequal (of_top t) us ne) refl

  first_here : (t : Top) (tops : List Top) → first_number (with_users (of_top t) (t ∷ tops)) ≡ t.number
  first_here t tops = rw (numbers_same (of_top t)) refl

  by_first : (tops : List Top) → EachPair (λ a b. a.number < b.number) tops → EachPair (Sooner tops) (distinct (map of_top tops))
  unfolding distinct
  by_first [] rises = tt
  by_first (t ∷ tops) rises =
      let others = distinct (map of_top tops) in
      let new : List ℕ → Bool = λ ws. not (same_numbers (of_top t) ws) in
      let differs : (us : List ℕ) → In us (filter new others) → of_top t ≢ us = λ us is e. (
      let s : same_numbers (of_top t) us ≡ true = ap (same_numbers (of_top t)) (sym e) ∙ numbers_same (of_top t) in
      let u = not-true (same_numbers (of_top t) us) (in_filter_from new us others is).1 in
      absurd cc) in (
        each_of (Sooner (t ∷ tops) (of_top t)) (filter new others) (λ us is.
            let lt = first_behind t.number us tops rises.0 (distinct_in us (map of_top tops) (in_filter_from new us others is).0) in
            omega (arith, lt, first_here t tops, first_same t tops us (differs us is))),
        pair_more (Sooner tops) (Sooner (t ∷ tops)) (filter new others) (pair_filter (Sooner tops) new others (by_first tops rises.1)) (λ us vs p q lt.
            omega (arith, lt, first_same t tops us (differs us p), first_same t tops vs (differs vs q))),
      )

-- ---- the partial units of a home

module _ (rule : Rule) (units : List (FileUnit EntryName)) where
  pub in_reps : (h : Home) (t : Top) → In t (tops_of units) → home rule units t.number ≡ h → rep rule.alike units t.number ≡ t.number → In t (representatives rule units h)
  unfolding representatives
  in_reps h t is e r =
      let a : same_home (home rule units t.number) h ≡ true = ap (λ (w : Home). same_home w h) e ∙ home_own h in
      in_filter (stands_for rule units h) t (tops_of units) is (and_from (same_home (home rule units t.number) h) (rep rule.alike units t.number == t.number) a
      (eq-eqb (rep rule.alike units t.number) t.number r))

  pub record Represents (h : Home) (t : Top) : Type 0 where
    pub there : In t (tops_of units)
    pub home_is : home rule units t.number ≡ h
    pub own : rep rule.alike units t.number ≡ t.number

  pub reps_are : (h : Home) (t : Top) → In t (representatives rule units h) → Represents h t
  unfolding representatives
  reps_are h t is =
      let o = in_filter_from (stands_for rule units h) t (tops_of units) is in
      let p = and_parts (same_home (home rule units t.number) h) (rep rule.alike units t.number == t.number) o.1 in
      record { there = o.0; home_is = home_true (home rule units t.number) h p.0; own = eqb-true (rep rule.alike units t.number) t.number p.1 }

  reps_rise : (h : Home) → EachPair (λ a b. a.number < b.number) (representatives rule units h)
  unfolding representatives
  reps_rise h = pair_filter (λ a b. a.number < b.number) (stands_for rule units h) (tops_of units) (tops_rise units)

  abbrev lists_at : Home → List (List ℕ)
  lists_at h = distinct (map (users_of rule.alike units) (representatives rule units h))

  abbrev of_users : List ℕ → Top → Bool
  of_users us t = same_numbers (users_of rule.alike units t) us

  belongs : (h : Home) (us : List ℕ) (t : Top) → In t (partial_with rule units h us).tops → BelongsTo rule units (partial_with rule units h us) t
  belongs h us t is =
      let o = in_filter_from (of_users us) t (representatives rule units h) is in
      let r = reps_are h t o.0 in
      record { there = r.there; rep = r.own; home = r.home_is; users = numbers_true (users rule.alike units t.number) us o.1 }

  belonging : (h : Home) (us : List ℕ) (t : Top) → BelongsTo rule units (partial_with rule units h us) t → In t (partial_with rule units h us).tops
  belonging h us t b = in_filter (of_users us) t (representatives rule units h) (in_reps h t b.there b.home b.rep) (ap (λ (w : List ℕ). same_numbers w us) b.users ∙ numbers_same us)

  part_at : (h : Home) → is_home h ≡ true → (us : List ℕ) → In us (lists_at h) → IsPart rule units (partial_with rule units h us)
  part_at h moving us is =
      let o = in_map_from (users_of rule.alike units) us (representatives rule units h) (distinct_in us (map (users_of rule.alike units) (representatives rule units h)) is) in
      record {
        moves = moving;
        tops = λ t. (belongs h us t, belonging h us t);
        some = (o.source, in_filter (of_users us) o.source (representatives rule units h) o.there (ap (λ (w : List ℕ). same_numbers w us) o.is ∙ numbers_same us));
        rising = pair_map (λ a b. a.number < b.number) (λ m n. m < n) (λ t. t.number) (filter (of_users us) (representatives rule units h))
            (pair_filter (λ a b. a.number < b.number) (of_users us) (representatives rule units h) (reps_rise h)) (λ a b p q lt. lt);
      }

  pub record At (h : Home) (part : PartialUnit) : Type 0 where
    pub list : List ℕ
    pub there : In list (lists_at h)
    pub is : partial_with rule units h list ≡ part

  pub at_home : (h : Home) (part : PartialUnit) → In part (partials_at rule units h) → At h part
  unfolding partials_at
  at_home h part is = let o = in_map_from (partial_with rule units h) part (lists_at h) is in record { list = o.source; there = o.there; is = o.is }

  pub home_at : (h : Home) (part : PartialUnit) → In part (partials_at rule units h) → part.home ≡ h
  home_at h part is = ap (λ (w : PartialUnit). w.home) (sym (at_home h part is).is)

  parts_at : (h : Home) → is_home h ≡ true → Each (IsPart rule units) (partials_at rule units h)
  parts_at h moving = each_of (IsPart rule units) (partials_at rule units h) (λ part is. let o = at_home h part is in subst (IsPart rule units) o.is (part_at h moving o.list o.there))

  abbrev Differ : PartialUnit → PartialUnit → Type 0
  Differ p q = p.home ≡ q.home → p.users ≢ q.users

  differ_at : (h : Home) → EachPair Differ (partials_at rule units h)
  unfolding partials_at
  differ_at h = pair_map (λ us vs. us ≢ vs) Differ (partial_with rule units h) (lists_at h) (distinct_apart (map (users_of rule.alike units) (representatives rule units h))) (λ us vs p q ne same. ne)

  ordered_at : (h : Home) → EachPair Precedes (partials_at rule units h)
  unfolding partials_at
  ordered_at h = pair_map (Sooner (users_of rule.alike units) (representatives rule units h)) Precedes (partial_with rule units h) (lists_at h)
      (by_first (users_of rule.alike units) (representatives rule units h) (reps_rise h)) (λ us vs p q lt. inr (refl, lt))

  -- ---- those of files

  pub record AtFile (files : List ℕ) (part : PartialUnit) : Type 0 where
    pub file : ℕ
    pub there : In file files
    pub is : In part (partials_at rule units (Local file))

  pub file_from : (files : List ℕ) (part : PartialUnit) → In part (local_partials rule units files) → AtFile files part
  unfolding local_partials
  file_from [] part h = absurd h
  file_from (f ∷ files) part h = elim (in_cases part (partials_at rule units (Local f)) (local_partials rule units files) h) [
    | inl a ↦ record { file = f; there = inl refl; is = a }
    | inr b ↦ (let o = file_from files part b in record { file = o.file; there = inr o.there; is = o.is })
  ]

  pub in_local : (files : List ℕ) (f : ℕ) (part : PartialUnit) → In f files → In part (partials_at rule units (Local f)) → In part (local_partials rule units files)
  unfolding local_partials
  in_local [] f part h is = absurd h
  in_local (g ∷ files) f part (inl e) is = in_left part (partials_at rule units (Local g)) (local_partials rule units files) (subst (λ (w : ℕ). In part (partials_at rule units (Local w))) (sym e) is)
  in_local (g ∷ files) f part (inr r) is = in_right part (partials_at rule units (Local g)) (local_partials rule units files) (in_local files f part r is)

  local_parts : (files : List ℕ) → Each (IsPart rule units) (local_partials rule units files)
  unfolding local_partials
  local_parts [] = tt
  local_parts (f ∷ files) = each_append (IsPart rule units) (partials_at rule units (Local f)) (local_partials rule units files) (parts_at (Local f) refl) (local_parts files)

  -- what holds in each home, and where the first home's rank is less, holds of all
  local_pairs : (R : PartialUnit → PartialUnit → Type 0) → ((h : Home) → EachPair R (partials_at rule units h)) → ((p q : PartialUnit) → rank p.home < rank q.home → R p q) → (files : List ℕ)
      → Rising files → EachPair R (local_partials rule units files)
  unfolding local_partials
  local_pairs R at_one between [] rises = tt
  local_pairs R at_one between (f ∷ files) rises =
      pair_append R (partials_at rule units (Local f)) (local_partials rule units files) (at_one (Local f)) (local_pairs R at_one between files rises.1) (λ p q x y.
      let o = file_from files q y in
      let a : rank p.home ≡ suc f = ap rank (home_at (Local f) p x) in
      let b : rank q.home ≡ suc o.file = ap rank (home_at (Local o.file) q o.is) in
      let lt : f < o.file = each_in (λ g. f < g) o.file files rises.0 o.there in
      between p q (omega (arith, a, b, lt)))

  pub all_pairs : (R : PartialUnit → PartialUnit → Type 0) → ((h : Home) → EachPair R (partials_at rule units h)) → ((p q : PartialUnit) → rank p.home < rank q.home → R p q) → (files : List ℕ)
      → Rising files → EachPair R (partials rule units files)
  unfolding partials
  all_pairs R at_one between files rises =
      pair_append R (partials_at rule units Common) (local_partials rule units files) (at_one Common) (local_pairs R at_one between files rises) (λ p q x y.
      let o = file_from files q y in
      let a : rank p.home ≡ 0 = ap rank (home_at Common p x) in
      let b : rank q.home ≡ suc o.file = ap rank (home_at (Local o.file) q o.is) in
      between p q (omega (arith, a, b)))

  pub are_parts : (files : List ℕ) → Each (IsPart rule units) (partials rule units files)
  unfolding partials
  are_parts files = each_append (IsPart rule units) (partials_at rule units Common) (local_partials rule units files) (parts_at Common refl) (local_parts files)

  pub parts_differ : (files : List ℕ) → Rising files → EachPair Differ (partials rule units files)
  parts_differ files rises = all_pairs Differ differ_at (λ p q lt same. absurd (omega (arith, lt, ap rank same))) files rises

  pub one_place : (files : List ℕ) → Rising files → (m n : ℕ) (p q : PartialUnit) (t : Top) → Nth 0 (partials rule units files) m p → Nth 0 (partials rule units files) n q → In t p.tops → In t q.tops
      → m ≡ n
  one_place files rises m n p q t x y a b =
      let parts = partials rule units files in
      let i = ((each_in (IsPart rule units) p parts (are_parts files) (nth_in 0 parts m p x)).tops t).0 a in
      let j = ((each_in (IsPart rule units) q parts (are_parts files) (nth_in 0 parts n q y)).tops t).0 b in
      let home : p.home ≡ q.home = sym i.home ∙ j.home in
      let users : p.users ≡ q.users = sym i.users ∙ j.users in
      nth_pair Differ 0 parts m n p q (parts_differ files rises) x y (λ d. d home users) (λ d. d (sym home) (sym users))

  -- ---- the plan

  pub in_partials : (files : List ℕ) (h : Home) (part : PartialUnit) → is_home h ≡ true → ((f : ℕ) → h ≡ Local f → In f files) → In part (partials_at rule units h)
      → In part (partials rule units files)
  unfolding partials
  in_partials files Common part moving known is = in_left part (partials_at rule units Common) (local_partials rule units files) is
  in_partials files (Local f) part moving known is = in_right part (partials_at rule units Common) (local_partials rule units files) (in_local files f part (known f refl) is)
  in_partials files Stay part moving known is = absurd cc

  at_place : (h : Home) (t : Top) → In t (representatives rule units h) → In (partial_with rule units h (users rule.alike units t.number)) (partials_at rule units h)
  unfolding partials_at
  at_place h t is =
      in_map (partial_with rule units h) (users rule.alike units t.number) (lists_at h)
      (in_distinct (users rule.alike units t.number) (map (users_of rule.alike units) (representatives rule units h)) (in_map (users_of rule.alike units) t (representatives rule units h) is))

  pub has_rep : Fair units rule → (files : List ℕ) → ((i : ℕ) (u : FileUnit EntryName) → Nth 0 units i u → In u.file files) → (t : Top) → In t (tops_of units) → moves rule units t.number ≡ true
      → HasRep rule units (partials rule units files) t
  has_rep fair files known t is mv =
      let l = leads units rule fair t is mv in
      let r = l.top in
      let h = home rule units r.number in
      let us = users rule.alike units r.number in
      let place = at_place h r (in_reps h r l.there refl l.own) in
      let here : (f : ℕ) → h ≡ Local f → In f files = λ f e. (let o = home_file rule.alike units r.number f (sym (moving units rule r.number l.moves_is).at_home ∙ e) in subst (λ (w : ℕ). In w files)
      o.file_is (known o.number o.unit o.nth)) in
      record {
        part = partial_with rule units h us;
        there = in_partials files h (partial_with rule units h us) l.moves_is here place;
        home = sym (home_same units rule fair t.number r.number l.alike_is);
        users = sym (users_same rule.alike fair.per units t.number r.number l.alike_is);
        top = r;
        holds = belonging h us r (record { there = l.there; rep = l.own; home = refl; users = refl });
        is_rep = l.number;
      }

pub is_plan : (scope : TopScope) (units : List (FileUnit EntryName)) (rule : Rule) → IsAlike scope units rule.alike → IsChoice units rule → (files : List ℕ) → Rising files
    → ((i : ℕ) (u : FileUnit EntryName) → Nth 0 units i u → In u.file files) → IsPlan rule units (partials rule units files)
is_plan scope units rule is choice files rises known = record {
  are = are_parts rule units files;
  all = has_rep rule units (fair scope units rule is choice) files known;
  apart = parts_differ rule units files rises;
  one = one_place rule units files rises;
  ordered = all_pairs rule units Precedes (ordered_at rule units) (λ p q lt. inl lt) files rises;
}
