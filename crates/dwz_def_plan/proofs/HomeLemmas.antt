-- Users, representative and home are as they are asked for.
use Rattle.std.proofs.Common.{◌≡◌, ◌≢◌, ℕ, zero, suc, ◌+◌, ◌==◌, not, Bool, true, false, List, [], ◌∷◌, map, refl, sym, ap, subst, ◌∙◌, arith, inl, inr, eqb-true, eq-eqb}
use Rattle.dwz_def_reading.specs.Lists.{In}
use Rattle.dwz_def_reading.proofs.ListFacts.{in_map}
use Rattle.dwz_def_tops.specs.Alike.{Apart, IsAlike, Movable, TopScope}
use Rattle.dwz_def_tops.specs.Deciding.{Test}
use Rattle.dwz_def_tops.specs.Lists.{Nth, Rising}
use Rattle.dwz_def_plan.specs.IsPlan.{AreUsers, HasAlike, IsHome, IsRep}
use Rattle.dwz_def_plan.specs.Homes.{Common, Home, Local, candidate, file_of, home_in, in_two_files, rep, users}
use Rattle.dwz_def_tops.specs.Spots.{EntryName, FileUnit, Top, tops_of}
use Rattle.dwz_def_tops.proofs.AlikeLaws.{alike_self}
use Rattle.dwz_def_tops.proofs.AlikePer.{alike_per, scope_file}
use Rattle.dwz_def_tops.proofs.Members.{any_false, any_from, in_map_from, nth_from}
use Rattle.dwz_def_tops.proofs.Tops.{tops_rise, unit_of}
use Rattle.dwz_def_plan.proofs.UserLemmas.{rep_is, used, used_by, user_unit, users_rise}

-- ---- homes

not_true : (b : Bool) → not b ≡ true → b ≡ false
not_true true e = absurd cc
not_true false e = refl

not_false : (b : Bool) → not b ≡ false → b ≡ true
not_false true e = refl
not_false false e = absurd cc

unequal : (a b : ℕ) → not (a == b) ≡ true → b ≢ a
unequal a b e h = let f = not_true (a == b) e in let g = eq-eqb a b (sym h) in absurd cc

home_by : (units : List (FileUnit EntryName)) (m n : ℕ) (us : List ℕ) → Rising (m ∷ n ∷ us) → (b : Bool) → in_two_files (map (file_of units) (m ∷ n ∷ us)) ≡ b
    → IsHome units (m ∷ n ∷ us) (elim b as (λ _. Home) [ true ↦ Common | false ↦ Local (file_of units m) ])
home_by units m n us rises true e =
    let o = any_from (λ f. not (f == file_of units m)) (map (file_of units) (n ∷ us)) e in
    let p = in_map_from (file_of units) o.one (n ∷ us) o.there in
    (m, p.source, inl refl, inr p.there, λ h. unequal o.one (file_of units m) o.passes (h ∙ p.is))
home_by units m n us rises false e = (
  m,
  n,
  inl refl,
  inr (inl refl),
  (λ h. omega (arith, h, rises.0.0)),
  λ k is. elim is [
    | inl s ↦ sym (ap (file_of units) s)
    | inr r ↦ eqb-true (file_of units k) (file_of units m) (not_false (file_of units k == file_of units m)
        (any_false (λ f. not (f == file_of units m)) (file_of units k) (map (file_of units) (n ∷ us)) (in_map (file_of units) k (n ∷ us) r) e))
  ],
)

home_among : (units : List (FileUnit EntryName)) (us : List ℕ) → Rising us → IsHome units us (home_in (map (file_of units) us))
home_among units [] rises = λ i j a b. absurd a
home_among units (n ∷ []) rises = λ i j a b. elim a [
  | inl x ↦ elim b [ inl y ↦ sym x ∙ y | inr y ↦ absurd y ]
  | inr x ↦ absurd x
]
home_among units (m ∷ n ∷ us) rises = home_by units m n us rises (in_two_files (map (file_of units) (m ∷ n ∷ us))) refl

-- the home is as the users' files ask
pub home_is : (alike : Test) (units : List (FileUnit EntryName)) (n : ℕ) → IsHome units (users alike units n) (candidate alike units n)
unfolding candidate
home_is alike units n = home_among units (users alike units n) (users_rise alike units n)

pub file_at : (units : List (FileUnit EntryName)) (s k n : ℕ) (u : FileUnit EntryName) → Nth s units n u → n ≡ s + k → file_of units k ≡ u.file
unfolding file_of
file_at [] s k n u h e = absurd h
file_at (f ∷ units) s zero n u (inl x) e = ap (λ (w : FileUnit EntryName). w.file) x.1
file_at (f ∷ units) s zero n u (inr r) e = absurd (omega (arith, e, nth_from (suc s) units n u r))
file_at (f ∷ units) s (suc k) n u (inl x) e = absurd (omega (arith, e, x.0))
file_at (f ∷ units) s (suc k) n u (inr r) e = file_at units (suc s) k n u r (omega (arith, e))

pub file_of_top : (units : List (FileUnit EntryName)) (t : Top) → In t (tops_of units) → file_of units t.unit ≡ t.file
file_of_top units t is = let o = unit_of units t is in file_at units 0 t.unit t.unit o.unit o.nth (omega arith) ∙ sym o.file_is

-- a home is the file of a unit
pub record FileIn (units : List (FileUnit EntryName)) (file : ℕ) : Type 0 where
  pub number : ℕ
  pub unit : FileUnit EntryName
  pub nth : Nth 0 units number unit
  pub file_is : unit.file ≡ file

pub home_file : (alike : Test) (units : List (FileUnit EntryName)) (n file : ℕ) → candidate alike units n ≡ Local file → FileIn units file
home_file alike units n file e =
    let h : IsHome units (users alike units n) (Local file) = subst (IsHome units (users alike units n)) e (home_is alike units n) in
    let o = user_unit alike units n h.0 h.2 in
    record { number = h.0; unit = o.one; nth = o.nth; file_is = sym (file_at units 0 h.0 h.0 o.one o.nth (omega arith)) ∙ h.5 h.0 h.2 }

-- where each file is a scope, nothing goes into the common file
pub not_common : (units : List (FileUnit EntryName)) (alike : Test) → IsAlike Apart units alike → (n : ℕ) → candidate alike units n ≡ Common → ⊥
not_common units alike is n e =
    let per = alike_per Apart units alike is in
    let h : IsHome units (users alike units n) Common = subst (IsHome units (users alike units n)) e (home_is alike units n) in
    let a = used_by alike units n h.0 h.2 in
    let b = used_by alike units n h.1 h.3 in
    let both : alike a.top.number b.top.number ≡ true = per.joins a.top.number n b.top.number (per.turns n a.top.number a.alike_is) b.alike_is in
    let file : a.top.file ≡ b.top.file = is.scoped a.top b.top a.there b.there both in
    h.4 (ap (file_of units) (sym a.unit_is) ∙ file_of_top units a.top a.there ∙ file ∙ sym (file_of_top units b.top b.there) ∙ ap (file_of units) b.unit_is)

-- ---- users and representatives

module _ (scope : TopScope) (units : List (FileUnit EntryName)) (alike : Test) (is : IsAlike scope units alike) where
  has_alike : (t : Top) → In t (tops_of units) → (unit : ℕ) → In unit (users alike units t.number) → HasAlike scope units t unit
  has_alike t there unit h =
      let u = used_by alike units t.number unit h in
      record { top = u.top; there = u.there; unit_is = u.unit_is; scoped = is.scoped t u.top there u.there u.alike_is; alike = is.decides t.number u.top.number u.alike_is }

  alike_used : (t : Top) → In t (tops_of units) → (unit : ℕ) → HasAlike scope units t unit → In unit (users alike units t.number)
  alike_used t there unit h = subst (λ (w : ℕ). In w (users alike units t.number)) h.unit_is (used alike units t.number h.top h.there (is.decided t h.top there h.there h.scoped h.alike))

  pub are_users : (t : Top) → In t (tops_of units) → AreUsers scope units t (users alike units t.number)
  are_users t there = record { rising = users_rise alike units t.number; are = λ unit. (has_alike t there unit, alike_used t there unit) }

  -- a movable top is alike to itself
  pub self_alike : (t : Top) → In t (tops_of units) → Movable units t.number → alike t.number t.number ≡ true
  self_alike t there free = is.decided t t there there (scope_file scope t t refl) (alike_self units t.number free)

  pub is_rep : (t : Top) → In t (tops_of units) → Movable units t.number → IsRep scope units t (rep alike units t.number)
  is_rep t there free =
      let r = rep_is alike units t.number t there (self_alike t there free) in
      let e : alike t.number r.top.number ≡ true = ap (alike t.number) r.number ∙ r.alike_is in
      record {
        top = r.top;
        there = r.there;
        number = r.number;
        scoped = is.scoped t r.top there r.there e;
        alike = is.decides t.number (rep alike units t.number) r.alike_is;
        least = λ u is_top scoped same. r.least (tops_rise units) u is_top (is.decided t u there is_top scoped same);
      }
