-- Rules that are as is asked have one plan, however they decide.
use Rattle.std.proofs.Common.{◌≡◌, ◌↔◌, ℕ, ◌++◌, ◌&&◌, ◌==◌, Bool, true, false, List, [], ◌∷◌, map, refl, sym, ap, subst, ◌∙◌, inl}
use Rattle.std.proofs.lemmas.Bool.{and_parts, false_from_ne_true}
use Rattle.std.specs.List.{filter}
use Rattle.dwz_def_reading.specs.Lists.{In}
use Rattle.dwz_def_tops.specs.Alike.{Alike, IsAlike, TopScope}
use Rattle.dwz_def_tops.specs.Deciding.{Test, alike_test}
use Rattle.dwz_def_tops.specs.Spots.{EntryName, FileUnit, Top, same_numbers, tops_of}
use Rattle.dwz_def_tops.proofs.AlikeLaws.{alike_decides}
use Rattle.dwz_def_tops.proofs.Members.{any_from, in_filter_from}
use Rattle.dwz_def_plan.specs.Gain.{gain_rule}
use Rattle.dwz_def_plan.specs.Groups.{Gains, IsGainRule}
use Rattle.dwz_def_plan.specs.Homes.{Common, Home, Local, Rule, Stay, candidate, file_of, home, home_in, is_home, numbers_from, rep, same_home, unit_uses, users}
use Rattle.dwz_def_plan.specs.Moves.{part_at, plan, root_in_part, row_in_part}
use Rattle.dwz_def_plan.specs.Plan.{PartialUnit, distinct, local_partials, partials, partials_at, representatives, stand_in, users_of}
use Rattle.dwz_def_plan.proofs.GainLemmas.{gains_decided}

-- ---- tests of alike tops that are as is asked agree

alike_too : (scope : TopScope) (units : List (FileUnit EntryName)) (a b : Test) → IsAlike scope units a → IsAlike scope units b → (m n : ℕ) → a m n ≡ true → b m n ≡ true
alike_too scope units a b is other m n e =
    let alike = is.decides m n e in
    let f = alike.first in
    let s = alike.second in
    let there : a f.top.number s.top.number ≡ true = ap (λ (w : ℕ). a w s.top.number) f.number ∙ ap (a m) s.number ∙ e in
    let same : Alike units f.top.number s.top.number = is.decides f.top.number s.top.number there in
    let found = other.decided f.top s.top f.is_top s.is_top (is.scoped f.top s.top f.is_top s.is_top there) same in
    sym (ap (λ (w : ℕ). b w s.top.number) f.number ∙ ap (b m) s.number) ∙ found

equal_tests : (x y : Bool) → (x ≡ true → y ≡ true) → (y ≡ true → x ≡ true) → x ≡ y
equal_tests true y f g = sym (f refl)
equal_tests false y f g = sym (false_from_ne_true y (λ q. absurd (let h = g q in cc)))

alike_same : (scope : TopScope) (units : List (FileUnit EntryName)) (a b : Test) → IsAlike scope units a → IsAlike scope units b → a ≡ b
alike_same scope units a b is other = λ i m n. equal_tests (a m n) (b m n) (alike_too scope units a b is other m n) (alike_too scope units b a other is m n) i

-- ---- rules with one test of alike tops

module _ (scope : TopScope) (units : List (FileUnit EntryName)) (alike : Test) (is : IsAlike scope units alike) (c d : ℕ → Bool)
    (one : (t : Top) → In t (tops_of units) → (c t.number ≡ true) ↔ Gains alike units t.number)
    (two : (t : Top) → In t (tops_of units) → (d t.number ≡ true) ↔ Gains alike units t.number) where
  abbrev first : Rule
  first = record { alike = alike; chosen = c }

  abbrev second : Rule
  second = record { alike = alike; chosen = d }

  chosen_same : (t : Top) → In t (tops_of units) → c t.number ≡ d t.number
  chosen_same t there = equal_tests (c t.number) (d t.number) (λ q. (two t there).1 ((one t there).0 q)) (λ q. (one t there).1 ((two t there).0 q))

  -- what has a user is a top
  top_of_user : (n unit : ℕ) → In unit (users alike units n) → c n ≡ d n
  unfolding users
  top_of_user n unit h =
      let u = in_filter_from (unit_uses alike (tops_of units) n) unit (numbers_from 0 units) h in
      let o = any_from (λ t. t.unit == unit && alike n t.number) (tops_of units) u.1 in
      let m = (is.decides n o.one.number (and_parts (o.one.unit == unit) (alike n o.one.number) o.passes).1).first in
      subst (λ (w : ℕ). c w ≡ d w) m.number (chosen_same m.top m.is_top)

  abbrev home_by : Bool → Home → Home
  home_by b h = elim b as (λ _. Home) [ true ↦ h | false ↦ Stay ]

  stays_so : (b : Bool) → home_by b Stay ≡ Stay
  stays_so true = refl
  stays_so false = refl

  home_same : (n : ℕ) → home first units n ≡ home second units n
  unfolding home candidate
  home_same n = go (users alike units n) refl where
    go : (us : List ℕ) → users alike units n ≡ us → home_by (c n) (candidate alike units n) ≡ home_by (d n) (candidate alike units n)
    go [] q =
        let none : candidate alike units n ≡ Stay = ap (λ (w : List ℕ). home_in (map (file_of units) w)) q in
        ap (home_by (c n)) none ∙ stays_so (c n) ∙ sym (ap (home_by (d n)) none ∙ stays_so (d n))
    go (u ∷ us) q = ap (λ (b : Bool). home_by b (candidate alike units n)) (top_of_user n u (subst (In u) (sym q) (inl refl)))

  reps_same : (h : Home) → representatives first units h ≡ representatives second units h
  unfolding representatives
  reps_same h = λ i. filter (λ t. same_home (home_same t.number i) h && rep alike units t.number == t.number) (tops_of units)

  abbrev parts_by : Home → List Top → List PartialUnit
  parts_by h tops =
      map (λ us. record { home = h; users = us; tops = filter (λ t. same_numbers (users_of alike units t) us) tops }) (distinct (map (users_of alike units) tops))

  at_same : (h : Home) → partials_at first units h ≡ partials_at second units h
  unfolding partials_at
  at_same h = ap (parts_by h) (reps_same h)

  local_same : (files : List ℕ) → local_partials first units files ≡ local_partials second units files
  unfolding local_partials
  local_same [] = refl
  local_same (file ∷ files) = λ i. at_same (Local file) i ++ local_same files i

  parts_same : (files : List ℕ) → partials first units files ≡ partials second units files
  unfolding partials
  parts_same files = λ i. at_same Common i ++ local_same files i

  plan_same : (files : List ℕ) → plan first units files ≡ plan second units files
  unfolding stand_in
  plan_same files = λ i. record {
    gone = λ n. is_home (home_same n i);
    stand = λ n. elim (is_home (home_same n i)) as (λ _. ℕ) [ true ↦ rep alike units n | false ↦ n ];
    parts = parts_same files i;
    rows = λ n. row_in_part n (part_at n (parts_same files i));
    roots = λ n. root_in_part units (part_at n (parts_same files i));
  }

-- ---- all of them

pub one_plan : (scope : TopScope) (units : List (FileUnit EntryName)) (rule other : Rule) → IsGainRule scope units rule → IsGainRule scope units other → (files : List ℕ)
    → plan rule units files ≡ plan other units files
one_plan scope units rule other is too files =
    let tests : rule.alike ≡ other.alike = alike_same scope units rule.alike other.alike is.alike too.alike in
    let turned : rule ≡ record { alike = other.alike; chosen = rule.chosen } = λ i. record { alike = tests i; chosen = rule.chosen } in
    let is_turned = subst (IsGainRule scope units) turned is in
    ap (λ (w : Rule). plan w units files) turned ∙ plan_same scope units other.alike too.alike rule.chosen other.chosen is_turned.chosen too.chosen files

pub is_gain_rule : (scope : TopScope) (units : List (FileUnit EntryName)) → IsGainRule scope units (gain_rule (alike_test scope units) units)
is_gain_rule scope units = record { alike = alike_decides scope units; chosen = λ t there. gains_decided (alike_test scope units) units t there }
