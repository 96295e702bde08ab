-- The partial units, by the steps and by the rows.
use Rattle.std.proofs.Common.{◌≡◌, ℕ, zero, suc, ◌+◌, ◌≤◌, ◌==◌, ◌&&◌, inl, inr, false, List, [], ◌∷◌, ◌++◌, map, filter, refl, sym, ap, subst, ◌∙◌, arith, eqb-true}
use Rattle.std.specs.List.{flat_map, range_with_len}
use Rattle.std.proofs.lemmas.Bool.{and_parts, false_from_ne_true}
use Rattle.std.proofs.lemmas.List.{append-nil, map-append}
use Rattle.std.proofs.lemmas.List.Elements.{filter-append}
use Rattle.std.proofs.lemmas.List.Folds.{flat_map-map}
use Rattle.dwz_def_reading.specs.Lists.{In}
use Rattle.dwz_def_reading.proofs.ListFacts.{in_cases}
use Rattle.dwz_def_plan.specs.Homes.{Common, Home, Local, same_home}
use Rattle.dwz_def_plan.specs.Plan.{distinct}
use Rattle.dwz_def_plan.proofs.PlanLemmas.{distinct_in, home_true}
use Rattle.dwz_def_tops.specs.Spots.{same_numbers}
use Rattle.dwz_plan.specs.declared.plan.Partial.{Partial}
use Rattle.dwz_plan.specs.Planned.{file_of_home, home, home_of, numbers, partial_with, partials, partials_at, rep, representatives, users}
use Rattle.dwz_plan.specs.Rows.{Given, TopFacts}
use Rattle.dwz_plan.specs.Steps.{partial_of}
use Rattle.dwz_plan.proofs.DistinctLemmas.{distinct_join}
use Rattle.dwz_plan.proofs.ListFacts.{filter_no, map_in}
use Rattle.dwz_plan.proofs.MoverLemmas.{movers_of}
use Rattle.dwz_def_tops.proofs.Members.{From, in_filter_from, in_map_from}
use Rattle.dwz_def_tops.proofs.SpotLemmas.{numbers_true}

-- ---- homes

-- what is known of a representative
pub record Represents (g : Given) (h : Home) (a : TopFacts) : Type 0 where
  pub there : In a g.rows
  pub home_is : home g a ≡ h
  pub leads : rep g a ≡ a.number

pub represents : (g : Given) (h : Home) (a : TopFacts) → In a (representatives g h) → Represents g h a
unfolding representatives
represents g h a is =
    let f = in_filter_from (λ (b : TopFacts). same_home (home g b) h && rep g b == b.number) a g.rows is in
    let p = and_parts (same_home (home g a) h) (rep g a == a.number) f.1 in
    record { there = f.0; home_is = home_true (home g a) h p.0; leads = eqb-true (rep g a) a.number p.1 }

-- no home twice
abbrev pub Once : List Home → Type 0
Once [] = Unit {0}
Once (h ∷ homes) = (In h homes → ⊥) × Once homes

pub record Homed (g : Given) (homes : List Home) (a : TopFacts) : Type 0 where
  pub home_there : Home
  pub there : In home_there homes
  pub represents : Represents g home_there a

pub homed : (g : Given) (homes : List Home) (a : TopFacts) → In a (flat_map (representatives g) homes) → Homed g homes a
homed g [] a is = absurd is
homed g (h ∷ homes) a is = elim (in_cases a (representatives g h) (flat_map (representatives g) homes) is) [
  | inl here ↦ record { home_there = h; there = inl refl; represents = represents g h a here }
  | inr more ↦ let o = homed g homes a more in record { home_there = o.home_there; there = inr o.there; represents = o.represents }
]

-- ---- the partial units of several homes

-- the tops with these users among rows
abbrev pub tops_with : Given → List TopFacts → List ℕ → List ℕ
tops_with g rows us = numbers (filter (λ a. same_numbers (users g a) us) rows)

abbrev pub part_among : Given → List TopFacts → List ℕ → Partial
part_among g rows us = partial_of g.files_of_units g.files us (tops_with g rows us)

-- rows whose homes are not that of these users have none of them
tops_apart : (g : Given) (rows : List TopFacts) (us : List ℕ) → ((a : TopFacts) → In a rows → home g a ≡ home_of g.files_of_units us → ⊥) → filter (λ a. same_numbers (users g a) us) rows ≡ []
tops_apart g rows us apart =
    filter_no (λ a. same_numbers (users g a) us) rows (λ a is. false_from_ne_true (same_numbers (users g a) us) (λ e. apart a is (ap (home_of g.files_of_units) (numbers_true (users g a) us e))))

tops_left : (g : Given) (rows others : List TopFacts) (us : List ℕ) → ((a : TopFacts) → In a others → home g a ≡ home_of g.files_of_units us → ⊥)
    → tops_with g (rows ++ others) us ≡ tops_with g rows us
tops_left g rows others us apart =
    ap numbers (filter-append (λ a. same_numbers (users g a) us) rows others
    ∙ (ap (λ (as' : List TopFacts). filter (λ a. same_numbers (users g a) us) rows ++ as') (tops_apart g others us apart) ∙ append-nil (filter (λ a. same_numbers (users g a) us) rows)))

tops_right : (g : Given) (rows others : List TopFacts) (us : List ℕ) → ((a : TopFacts) → In a rows → home g a ≡ home_of g.files_of_units us → ⊥)
    → tops_with g (rows ++ others) us ≡ tops_with g others us
tops_right g rows others us apart = ap numbers (filter-append (λ a. same_numbers (users g a) us) rows others ∙ ap (λ (as' : List TopFacts). as' ++ filter (λ a. same_numbers (users g a) us) others)
    (tops_apart g rows us apart))

-- these users are of one of the rows
of_row : (g : Given) (rows : List TopFacts) (us : List ℕ) → In us (distinct (map (users g) rows)) → From (users g) rows us
of_row g rows us is = in_map_from (users g) us rows (distinct_in us (map (users g) rows) is)

pub parts_split : (g : Given) (homes : List Home) → Once homes → map (part_among g (flat_map (representatives g) homes)) (distinct (map (users g) (flat_map (representatives g) homes)))
    ≡ flat_map (partials_at g) homes
unfolding distinct partials_at
parts_split g [] once = refl
parts_split g (h ∷ homes) once =
    let first : List TopFacts = representatives g h in
    let rest : List TopFacts = flat_map (representatives g) homes in
    ap (λ (ls : List (List ℕ)). map (part_among g (first ++ rest)) (distinct ls)) (map-append (users g) first rest)
    ∙ (ap (map (part_among g (first ++ rest))) (distinct_join (map (users g) first) (map (users g) rest) apart)
    ∙ (map-append (part_among g (first ++ rest)) (distinct (map (users g) first)) (distinct (map (users g) rest))
    ∙ (λ i. here i ++ (map_in (part_among g (first ++ rest)) (part_among g rest) (distinct (map (users g) rest)) there ∙ parts_split g homes once.1) i)))
  where
    apart_homes : (a b : TopFacts) → In a (representatives g h) → In b (flat_map (representatives g) homes) → home g a ≡ home g b → ⊥
    apart_homes a b is other e = let o = homed g homes b other in once.0 (subst (λ k. In k homes) (sym o.represents.home_is ∙ (sym e ∙ (represents g h a is).home_is)) o.there)

    apart : (us vs : List ℕ) → In us (map (users g) (representatives g h)) → In vs (map (users g) (flat_map (representatives g) homes)) → same_numbers us vs ≡ false
    apart us vs p q =
        let a = in_map_from (users g) us (representatives g h) p in
        let b = in_map_from (users g) vs (flat_map (representatives g) homes) q in
        false_from_ne_true (same_numbers us vs) (λ e. apart_homes a.source b.source a.there b.there (ap (home_of g.files_of_units) (a.is ∙ (numbers_true us vs e ∙ sym b.is))))

    one : (us : List ℕ) → In us (distinct (map (users g) (representatives g h))) → part_among g (representatives g h ++ flat_map (representatives g) homes) us ≡ partial_with g h us
    one us is =
        let a = of_row g (representatives g h) us is in
        let home_us : home_of g.files_of_units us ≡ h = ap (home_of g.files_of_units) (sym a.is) ∙ (represents g h a.source a.there).home_is in
        let tops = tops_left g (representatives g h) (flat_map (representatives g) homes) us
        (λ b other e. apart_homes a.source b a.there other ((represents g h a.source a.there).home_is ∙ sym (e ∙ home_us))) in
        (λ i. record { file = file_of_home g.files (home_us i); users = us; tops = tops i })

    here : map (part_among g (representatives g h ++ flat_map (representatives g) homes)) (distinct (map (users g) (representatives g h))) ≡ partials_at g h
    here = map_in (part_among g (representatives g h ++ flat_map (representatives g) homes)) (partial_with g h) (distinct (map (users g) (representatives g h))) one

    there : (us : List ℕ) → In us (distinct (map (users g) (flat_map (representatives g) homes))) → part_among g (representatives g h ++ flat_map (representatives g) homes) us
        ≡ part_among g (flat_map (representatives g) homes) us
    there us is =
        let b = of_row g (flat_map (representatives g) homes) us is in
        let tops = tops_right g (representatives g h) (flat_map (representatives g) homes) us (λ a other e. apart_homes a b.source other b.there (e ∙ ap (home_of g.files_of_units) (sym b.is))) in
        (λ i. record { file = file_of_home g.files (home_of g.files_of_units us); users = us; tops = tops i })

-- ---- all homes

pub all_homes : ℕ → List Home
all_homes files = Common ∷ map (λ file. Local file) (range_with_len 0 files)

files_above : (s n f : ℕ) → In (Local f) (map (λ file. Local file) (range_with_len s n)) → s ≤ f
files_above s zero f is = absurd is
files_above s (suc n) f (inl e) = let q : s ≡ f = cc in omega (arith, q)
files_above s (suc n) f (inr r) = omega (arith, files_above (s + 1) n f r)

files_once : (s n : ℕ) → Once (map (λ file. Local file) (range_with_len s n))
files_once s zero = tt
files_once s (suc n) = ((λ is. omega (arith, files_above (s + 1) n s is)), files_once (s + 1) n)

no_common : (s n : ℕ) → In Common (map (λ file. Local file) (range_with_len s n)) → ⊥
no_common s zero is = is
no_common s (suc n) (inl e) = cc
no_common s (suc n) (inr r) = no_common (s + 1) n r

homes_once : (files : ℕ) → Once (all_homes files)
unfolding all_homes
homes_once files = (no_common 0 files, files_once 0 files)

pub movers_split : (g : Given) → movers_of g ≡ flat_map (representatives g) (all_homes g.files)
unfolding all_homes
movers_split g = ap (λ (as' : List TopFacts). representatives g Common ++ as') (sym (flat_map-map (representatives g) (λ file. Local file) (range_with_len 0 g.files)))

partials_split : (g : Given) → partials g ≡ flat_map (partials_at g) (all_homes g.files)
unfolding all_homes partials
partials_split g = ap (λ (ps : List Partial). partials_at g Common ++ ps) (sym (flat_map-map (partials_at g) (λ file. Local file) (range_with_len 0 g.files)))

-- one for each list of users of the movers
pub partials_among : (g : Given) → map (part_among g (movers_of g)) (distinct (map (users g) (movers_of g))) ≡ partials g
partials_among g = ap (λ (as' : List TopFacts). map (part_among g as') (distinct (map (users g) as'))) (movers_split g)
    ∙ (parts_split g (all_homes g.files) (homes_once g.files) ∙ sym (partials_split g))
