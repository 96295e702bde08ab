-- Users, representatives and homes of alike tops.
use Rattle.std.proofs.Common.{◌≡◌, ◌≢◌, ℕ, suc, ◌<◌, ◌≤◌, ◌==◌, ◌&&◌, Bool, true, false, List, [], ◌∷◌, map, refl, sym, ap, ◌∙◌, arith, inl, inr, eqb-true, eq-eqb}
use Rattle.std.proofs.lemmas.Bool.{and_parts, cases_eq}
use Rattle.std.specs.List.{list_any}
use Rattle.dwz_def_reading.specs.Lists.{In}
use Rattle.dwz_def_reading.proofs.CaseFacts.{same_test}
use Rattle.dwz_def_tops.specs.Deciding.{Test}
use Rattle.dwz_def_tops.specs.Lists.{EachPair, Nth, Rising}
use Rattle.dwz_def_plan.specs.Homes.{Common, Home, IsChoice, Local, Rule, Stay, candidate, file_of, first_alike, home, home_in, in_two_files, is_home, moves, numbers_from, rep, unit_uses, users}
use Rattle.dwz_def_plan.specs.Plan.{stand_in}
use Rattle.dwz_def_tops.specs.Spots.{EntryName, FileUnit, Top, tops_of}
use Rattle.dwz_def_tops.proofs.AlikePer.{IsPer}
use Rattle.dwz_def_tops.proofs.Members.{any_from, any_true, each_in, each_of, filter_same, in_filter, in_filter_from, pair_filter}
use Rattle.dwz_def_tops.proofs.Tops.{unit_of}

-- ---- alike tops

pub rows_same : (alike : Test) → IsPer alike → (m n s : ℕ) → alike m n ≡ true → alike m s ≡ alike n s
rows_same alike per m n s e = same_test (alike m s) (alike n s) (per.joins n m s (per.turns m n e)) (per.joins m n s e)

any_same : {X : Type 0} (p q : X → Bool) (xs : List X) → ((x : X) → p x ≡ q x) → list_any p xs ≡ list_any q xs
any_same p q [] h = refl
any_same p q (x ∷ xs) h = rw (h x, any_same p q xs h) refl

pub users_same : (alike : Test) → IsPer alike → (units : List (FileUnit EntryName)) (m n : ℕ) → alike m n ≡ true → users alike units m ≡ users alike units n
unfolding users
users_same alike per units m n e =
    filter_same (unit_uses alike (tops_of units) m) (unit_uses alike (tops_of units) n) (numbers_from 0 units) (λ unit.
    any_same (λ t. t.unit == unit && alike m t.number) (λ t. t.unit == unit && alike n t.number) (tops_of units) (λ t. ap (λ (b : Bool). (t.unit == unit) && b) (rows_same alike per m n t.number e)))

pub candidate_same : (alike : Test) → IsPer alike → (units : List (FileUnit EntryName)) (m n : ℕ) → alike m n ≡ true → candidate alike units m ≡ candidate alike units n
unfolding candidate
candidate_same alike per units m n e = ap (λ (us : List ℕ). home_in (map (file_of units) us)) (users_same alike per units m n e)

-- the test is symmetric and transitive, and the choice is as it is asked for
pub record Fair (units : List (FileUnit EntryName)) (rule : Rule) : Type 0 where
  pub per : IsPer rule.alike
  pub choice : IsChoice units rule

pub home_same : (units : List (FileUnit EntryName)) (rule : Rule) → Fair units rule → (m n : ℕ) → rule.alike m n ≡ true → home rule units m ≡ home rule units n
unfolding home
home_same units rule fair m n e =
    ap (λ (b : Bool). elim b as (λ _. Home) [ true ↦ candidate rule.alike units m | false ↦ Stay ]) (fair.choice.together m n e)
    ∙ ap (λ (h : Home). elim (rule.chosen n) as (λ _. Home) [ true ↦ h | false ↦ Stay ]) (candidate_same rule.alike fair.per units m n e)

pub moves_same : (units : List (FileUnit EntryName)) (rule : Rule) → Fair units rule → (m n : ℕ) → rule.alike m n ≡ true → moves rule units m ≡ moves rule units n
moves_same units rule fair m n e = ap is_home (home_same units rule fair m n e)

-- what moves is chosen, and has a home
pub record Moving (units : List (FileUnit EntryName)) (rule : Rule) (n : ℕ) : Type 0 where
  pub chosen : rule.chosen n ≡ true
  pub at_home : home rule units n ≡ candidate rule.alike units n
  pub is : is_home (candidate rule.alike units n) ≡ true

pub moving : (units : List (FileUnit EntryName)) (rule : Rule) (n : ℕ) → moves rule units n ≡ true → Moving units rule n
unfolding home
moving units rule n e = go (rule.chosen n) refl e where
  go : (b : Bool) → rule.chosen n ≡ b → is_home (elim b as (λ _. Home) [ true ↦ candidate rule.alike units n | false ↦ Stay ]) ≡ true → Moving units rule n
  go true q h = record { chosen = q; at_home = rw (q, home) refl; is = h }
  go false q h = absurd cc

-- and what is chosen and has a home moves
pub chosen_moves : (units : List (FileUnit EntryName)) (rule : Rule) (n : ℕ) → rule.chosen n ≡ true → is_home (candidate rule.alike units n) ≡ true → moves rule units n ≡ true
unfolding home
chosen_moves units rule n c h = rw (c, home) h

-- ---- the representative

-- a top of them that is alike, the first
pub record IsFirst (alike : Test) (tops : List Top) (n r : ℕ) : Type 0 where
  pub top : Top
  pub there : In top tops
  pub number : top.number ≡ r
  pub alike_is : alike n r ≡ true
  pub least : EachPair (λ a b. a.number < b.number) tops → (u : Top) → In u tops → alike n u.number ≡ true → r ≤ u.number

pub first_is : (alike : Test) (n : ℕ) (t : Top) (tops : List Top) → In t tops → alike n t.number ≡ true → IsFirst alike tops n (first_alike alike n tops)
unfolding first_alike
first_is alike n t [] is a = absurd is
first_is alike n t (u ∷ tops) is a = go (first_is alike n t tops) is (alike n u.number) refl where
  go : (In t tops → alike n t.number ≡ true → IsFirst alike tops n (first_alike alike n tops)) → In t (u ∷ tops) → (b : Bool) → alike n u.number ≡ b
      → IsFirst alike (u ∷ tops) n (elim b as (λ _. ℕ) [ true ↦ u.number | false ↦ first_alike alike n tops ])
  go more here true q = record {
    top = u;
    there = inl refl;
    number = refl;
    alike_is = q;
    least = λ rises v there e. elim there [
      | inl s ↦ omega (arith, ap (λ (w : Top). w.number) s)
      | inr r ↦ omega (arith, each_in (λ w. u.number < w.number) v tops rises.0 r)
    ];
  }
  go more (inl s) false q = absurd (let x : alike n u.number ≡ true = ap (λ (w : Top). alike n w.number) s ∙ a in cc)
  go more (inr s) false q =
      let o = more s a in
      record {
        top = o.top;
        there = inr o.there;
        number = o.number;
        alike_is = o.alike_is;
        least = λ rises v there e. elim there [
          | inl r ↦ absurd (let x : alike n u.number ≡ true = ap (λ (w : Top). alike n w.number) r ∙ e in cc)
          | inr r ↦ o.least rises.1 v r e
        ];
      }

pub rep_is : (alike : Test) (units : List (FileUnit EntryName)) (n : ℕ) (t : Top) → In t (tops_of units) → alike n t.number ≡ true → IsFirst alike (tops_of units) n (rep alike units n)
rep_is alike units n t is a = first_is alike n t (tops_of units) is a

first_same : (alike : Test) → IsPer alike → (m n : ℕ) (t : Top) (tops : List Top) → In t tops → alike m t.number ≡ true → alike m n ≡ true → first_alike alike m tops ≡ first_alike alike n tops
unfolding first_alike
first_same alike per m n t [] is a e = absurd is
first_same alike per m n t (u ∷ tops) is a e = go (first_same alike per m n t tops) is (alike m u.number) (alike n u.number) refl (rows_same alike per m n u.number e) where
  go : (In t tops → alike m t.number ≡ true → alike m n ≡ true → first_alike alike m tops ≡ first_alike alike n tops) → In t (u ∷ tops) → (b c : Bool) → alike m u.number ≡ b → b ≡ c
      → (elim b as (λ _. ℕ) [ true ↦ u.number | false ↦ first_alike alike m tops ]) ≡ (elim c as (λ _. ℕ) [ true ↦ u.number | false ↦ first_alike alike n tops ])
  go more here true true q r = refl
  go more here true false q r = absurd cc
  go more here false true q r = absurd cc
  go more (inl s) false false q r = absurd (let x : alike m u.number ≡ true = ap (λ (w : Top). alike m w.number) s ∙ a in cc)
  go more (inr s) false false q r = more s a e

-- alike tops have one representative
pub rep_same : (alike : Test) → IsPer alike → (units : List (FileUnit EntryName)) (m n : ℕ) (t : Top) → In t (tops_of units) → alike m t.number ≡ true → alike m n ≡ true
    → rep alike units m ≡ rep alike units n
rep_same alike per units m n t is a e = first_same alike per m n t (tops_of units) is a e

-- ---- numbers of units

pub numbers_bound : {X : Type 0} (s : ℕ) (xs : List X) (n : ℕ) → In n (numbers_from s xs) → s ≤ n
unfolding numbers_from
numbers_bound s [] n h = absurd h
numbers_bound s (x ∷ xs) n (inl e) = omega (arith, e)
numbers_bound s (x ∷ xs) n (inr r) = omega (arith, numbers_bound (suc s) xs n r)

numbers_rise : {X : Type 0} (s : ℕ) (xs : List X) → Rising (numbers_from s xs)
unfolding numbers_from
numbers_rise s [] = tt
numbers_rise s (x ∷ xs) = (each_of (λ m. s < m) (numbers_from (suc s) xs) (λ m is. omega (arith, numbers_bound (suc s) xs m is)), numbers_rise (suc s) xs)

pub in_numbers : {X : Type 0} (s : ℕ) (xs : List X) (n : ℕ) (x : X) → Nth s xs n x → In n (numbers_from s xs)
unfolding numbers_from
in_numbers s [] n x h = absurd h
in_numbers s (y ∷ xs) n x (inl e) = inl e.0
in_numbers s (y ∷ xs) n x (inr r) = inr (in_numbers (suc s) xs n x r)

pub record Numbered {X : Type 0} (s : ℕ) (xs : List X) (n : ℕ) : Type 0 where
  pub one : X
  pub nth : Nth s xs n one

pub numbers_in : {X : Type 0} (s : ℕ) (xs : List X) (n : ℕ) → In n (numbers_from s xs) → Numbered s xs n
unfolding numbers_from
numbers_in s [] n h = absurd h
numbers_in s (x ∷ xs) n (inl e) = record { one = x; nth = inl (e, refl) }
numbers_in s (x ∷ xs) n (inr r) = let o = numbers_in (suc s) xs n r in record { one = o.one; nth = inr o.nth }

-- ---- who the users are

pub users_rise : (alike : Test) (units : List (FileUnit EntryName)) (n : ℕ) → Rising (users alike units n)
unfolding users
users_rise alike units n = pair_filter (λ a b. a < b) (unit_uses alike (tops_of units) n) (numbers_from 0 units) (numbers_rise 0 units)

-- a top of the unit is alike to the one with this number
pub record UsedBy (alike : Test) (units : List (FileUnit EntryName)) (n unit : ℕ) : Type 0 where
  pub top : Top
  pub there : In top (tops_of units)
  pub alike_is : alike n top.number ≡ true
  pub unit_is : top.unit ≡ unit

pub used : (alike : Test) (units : List (FileUnit EntryName)) (n : ℕ) (t : Top) → In t (tops_of units) → alike n t.number ≡ true → In t.unit (users alike units n)
unfolding users
used alike units n t is a =
    let o = unit_of units t is in
    in_filter (unit_uses alike (tops_of units) n) t.unit (numbers_from 0 units) (in_numbers 0 units t.unit o.unit o.nth)
    (any_true (λ u. u.unit == t.unit && alike n u.number) t (tops_of units) is (rw (eq-eqb t.unit t.unit refl) a))

pub used_by : (alike : Test) (units : List (FileUnit EntryName)) (n unit : ℕ) → In unit (users alike units n) → UsedBy alike units n unit
unfolding users
used_by alike units n unit is =
    let o = in_filter_from (unit_uses alike (tops_of units) n) unit (numbers_from 0 units) is in
    let p = any_from (λ u. u.unit == unit && alike n u.number) (tops_of units) o.1 in
    let q = and_parts (p.one.unit == unit) (alike n p.one.number) p.passes in
    record { top = p.one; there = p.there; alike_is = q.1; unit_is = eqb-true p.one.unit unit q.0 }

pub user_unit : (alike : Test) (units : List (FileUnit EntryName)) (n unit : ℕ) → In unit (users alike units n) → Numbered 0 units unit
unfolding users
user_unit alike units n unit is = numbers_in 0 units unit (in_filter_from (unit_uses alike (tops_of units) n) unit (numbers_from 0 units) is).0

-- ---- who moves

abbrev home_of : List (FileUnit EntryName) → List ℕ → Home
home_of units us = home_in (map (file_of units) us)

two_home : (file other : ℕ) (files : List ℕ) → is_home (home_in (file ∷ other ∷ files)) ≡ true
two_home file other files = go (in_two_files (file ∷ other ∷ files)) where
  go : (b : Bool) → is_home (elim b as (λ _. Home) [ true ↦ Common | false ↦ Local file ]) ≡ true
  go true = refl
  go false = refl

two_users : (units : List (FileUnit EntryName)) (us : List ℕ) (i j : ℕ) → In i us → In j us → i ≢ j → is_home (home_of units us) ≡ true
two_users units [] i j a b ne = absurd a
two_users units (n ∷ []) i j (inl x) (inl y) ne = absurd (ne (sym x ∙ y))
two_users units (n ∷ []) i j (inl x) (inr y) ne = absurd y
two_users units (n ∷ []) i j (inr x) b ne = absurd x
two_users units (n ∷ m ∷ us) i j a b ne = two_home (file_of units n) (file_of units m) (map (file_of units) us)

pub record Other (us : List ℕ) (i : ℕ) : Type 0 where
  pub other : ℕ
  pub there : In other us
  pub apart : other ≢ i

other_user : (units : List (FileUnit EntryName)) (us : List ℕ) (i : ℕ) → Rising us → is_home (home_of units us) ≡ true → Other us i
other_user units [] i rises e = absurd cc
other_user units (n ∷ []) i rises e = absurd cc
other_user units (n ∷ m ∷ us) i rises e = elim (cases_eq n i) [
  | inl h ↦ record { other = m; there = inr (inl refl); apart = λ k. omega (arith, h, k, rises.0.0) }
  | inr h ↦ record { other = n; there = inl refl; apart = h }
]

-- what moves has an alike top in another unit
pub record AlsoIn (alike : Test) (units : List (FileUnit EntryName)) (n i : ℕ) : Type 0 where
  pub unit : ℕ
  pub used_by : UsedBy alike units n unit
  pub apart : unit ≢ i

pub moves_other : (units : List (FileUnit EntryName)) (rule : Rule) (n i : ℕ) → moves rule units n ≡ true → AlsoIn rule.alike units n i
unfolding candidate
moves_other units rule n i e =
    let o = other_user units (users rule.alike units n) i (users_rise rule.alike units n) (moving units rule n e).is in
    record { unit = o.other; used_by = used_by rule.alike units n o.other o.there; apart = o.apart }

-- what has alike tops in two units has a home
pub two_candidate : (alike : Test) (units : List (FileUnit EntryName)) (n : ℕ) (a b : Top) → In a (tops_of units) → In b (tops_of units) → alike n a.number ≡ true → alike n b.number ≡ true
    → a.unit ≢ b.unit → is_home (candidate alike units n) ≡ true
unfolding candidate
two_candidate alike units n a b x y p q ne = two_users units (users alike units n) a.unit b.unit (used alike units n a x p) (used alike units n b y q) ne

-- what moves is alike to itself
pub moves_self : (units : List (FileUnit EntryName)) (rule : Rule) → Fair units rule → (n : ℕ) → moves rule units n ≡ true → rule.alike n n ≡ true
moves_self units rule fair n e =
    let o = (moves_other units rule n 0 e).used_by in
    fair.per.joins n o.top.number n o.alike_is (fair.per.turns n o.top.number o.alike_is)

-- ---- where it stands after

pub stay_fixed : (units : List (FileUnit EntryName)) (rule : Rule) (n : ℕ) → moves rule units n ≡ false → stand_in rule units n ≡ n
unfolding stand_in
stay_fixed units rule n e = rw (e, stand_in) refl

pub move_stand : (units : List (FileUnit EntryName)) (rule : Rule) (n : ℕ) → moves rule units n ≡ true → stand_in rule units n ≡ rep rule.alike units n
unfolding stand_in
move_stand units rule n e = rw (e, stand_in) refl

-- alike tops that move have one stand-in
pub stands_same : (units : List (FileUnit EntryName)) (rule : Rule) → Fair units rule → (m n : ℕ) (t : Top) → In t (tops_of units) → t.number ≡ m → rule.alike m n ≡ true → moves rule units m ≡ true
    → stand_in rule units m ≡ stand_in rule units n
stands_same units rule fair m n t is number e mv =
    let mv' : moves rule units n ≡ true = sym (moves_same units rule fair m n e) ∙ mv in
    let self : rule.alike m t.number ≡ true = ap (rule.alike m) number ∙ moves_self units rule fair m mv in
    move_stand units rule m mv ∙ rep_same rule.alike fair.per units m n t is self e ∙ sym (move_stand units rule n mv')

-- the top that stands for one that moves: it moves too, and stands for itself
pub record Leads (units : List (FileUnit EntryName)) (rule : Rule) (t : Top) : Type 0 where
  pub top : Top
  pub there : In top (tops_of units)
  pub number : top.number ≡ rep rule.alike units t.number
  pub alike_is : rule.alike t.number top.number ≡ true
  pub moves_is : moves rule units top.number ≡ true
  pub own : rep rule.alike units top.number ≡ top.number

pub leads : (units : List (FileUnit EntryName)) (rule : Rule) → Fair units rule → (t : Top) → In t (tops_of units) → moves rule units t.number ≡ true → Leads units rule t
leads units rule fair t is mv =
    let self = moves_self units rule fair t.number mv in
    let r = rep_is rule.alike units t.number t is self in
    let e : rule.alike t.number r.top.number ≡ true = ap (rule.alike t.number) r.number ∙ r.alike_is in
    record {
      top = r.top;
      there = r.there;
      number = r.number;
      alike_is = e;
      moves_is = sym (moves_same units rule fair t.number r.top.number e) ∙ mv;
      own = sym (rep_same rule.alike fair.per units t.number r.top.number t is self e) ∙ sym r.number;
    }
