-- A test that finds tops alike exactly where they are is symmetric and transitive, and finds the targets of alike tops alike.
use Rattle.std.proofs.Common.{◌≡◌, ℕ, suc, true, List, refl, sym, subst, ◌∙◌}
use Rattle.dwz_def_reading.specs.Lists.{In}
use Rattle.dwz_def_tops.specs.Alike.{Alike, Apart, InScope, IsAlike, Look, SameTop, TopScope, Together}
use Rattle.dwz_def_tops.specs.Deciding.{Test}
use Rattle.dwz_def_tops.specs.Spots.{EntryName, FileUnit, Top, tops_of}
use Rattle.dwz_def_tops.proofs.AlikeLaws.{alike_joins, alike_turns}
use Rattle.dwz_def_tops.proofs.Relations.{every_top, step_top}
use Rattle.dwz_def_tops.proofs.Targets.{Inside, inside}
use Rattle.dwz_def_tops.proofs.Tops.{one_file}

-- ---- looks

look_step : (tops : List Top) (a b : Top) → In a tops → In b tops → ((k : ℕ) → Look tops k a.number b.number) → SameTop (λ m n. (k : ℕ) → Look tops k m n) a b
unfolding Look
look_step tops a b x y h = every_top (Look tops) a b (λ k. h (suc k) a b x y refl refl)

-- ---- scopes

scope_turns : (scope : TopScope) (a b : Top) → InScope scope a b → InScope scope b a
scope_turns Together a b h = tt
scope_turns Apart a b h = sym h

scope_joins : (scope : TopScope) (a b c : Top) → InScope scope a b → InScope scope b c → InScope scope a c
scope_joins Together a b c h k = tt
scope_joins Apart a b c h k = h ∙ k

pub scope_file : (scope : TopScope) (a b : Top) → a.file ≡ b.file → InScope scope a b
scope_file Together a b h = tt
scope_file Apart a b h = h

-- ---- the test

pub record IsPer (alike : Test) : Type 0 where
  pub turns : (m n : ℕ) → alike m n ≡ true → alike n m ≡ true
  pub joins : (l m n : ℕ) → alike l m ≡ true → alike m n ≡ true → alike l n ≡ true

-- the test at the tops' numbers, from the test at the numbers
abbrev At : Test → ℕ → ℕ → Type 0
At alike m n = alike m n ≡ true

at_numbers : (alike : Test) (a b : Top) (m n : ℕ) → a.number ≡ m → b.number ≡ n → At alike m n → At alike a.number b.number
at_numbers alike a b m n p q e = rw (p, q) e

from_numbers : (alike : Test) (a b : Top) (m n : ℕ) → a.number ≡ m → b.number ≡ n → At alike a.number b.number → At alike m n
from_numbers alike a b m n p q e = rw (← p, ← q) e

alike_at : (units : List (FileUnit EntryName)) (a b : Top) (m n : ℕ) → a.number ≡ m → b.number ≡ n → Alike units m n → Alike units a.number b.number
alike_at units a b m n p q h = subst (λ (i : ℕ). Alike units i b.number) (sym p) (subst (Alike units m) (sym q) h)

module _ (scope : TopScope) (units : List (FileUnit EntryName)) (alike : Test) (is : IsAlike scope units alike) where
  turns_is : (m n : ℕ) → alike m n ≡ true → alike n m ≡ true
  turns_is m n e =
      let d = is.decides m n e in
      let a = d.first.top in
      let b = d.second.top in
      let s = is.scoped a b d.first.is_top d.second.is_top (at_numbers alike a b m n d.first.number d.second.number e) in
      from_numbers alike b a n m d.second.number d.first.number (is.decided b a d.second.is_top d.first.is_top (scope_turns scope a b s)
      (alike_at units b a n m d.second.number d.first.number (alike_turns units m n d)))

  joins_is : (l m n : ℕ) → alike l m ≡ true → alike m n ≡ true → alike l n ≡ true
  joins_is l m n e f =
      let d = is.decides l m e in
      let g = is.decides m n f in
      let a = d.first.top in
      let b = d.second.top in
      let c = g.second.top in
      let s = is.scoped a b d.first.is_top d.second.is_top (at_numbers alike a b l m d.first.number d.second.number e) in
      let t = is.scoped b c d.second.is_top g.second.is_top (at_numbers alike b c m n d.second.number g.second.number f) in
      from_numbers alike a c l n d.first.number g.second.number (is.decided a c d.first.is_top g.second.is_top (scope_joins scope a b c s t)
      (alike_at units a c l n d.first.number g.second.number (alike_joins units l m n d g)))

  pub alike_per : IsPer alike
  alike_per = record { turns = turns_is; joins = joins_is }

  -- tops of two units, where tops of these units are in one scope
  scope_at : (a b c d : Top) → In a (tops_of units) → In b (tops_of units) → In c (tops_of units) → In d (tops_of units) → a.unit ≡ c.unit → b.unit ≡ d.unit → InScope scope a b → InScope scope c d
  scope_at a b c d x y z w p q s = scope_joins scope c a d (scope_file scope c a (one_file units c a z x (sym p))) (scope_joins scope a b d s (scope_file scope b d (one_file units b d y w q)))

  -- the targets of alike tops are alike
  pub alike_step : (a b : Top) → In a (tops_of units) → In b (tops_of units) → alike a.number b.number ≡ true → SameTop (λ m n. alike m n ≡ true) a b
  alike_step a b x y e =
      let d = is.decides a.number b.number e in
      let s = is.scoped a b x y e in
      step_top (Inside units a.unit) (Inside units b.unit) (λ m n. (k : ℕ) → Look (tops_of units) k m n) (λ m n. alike m n ≡ true)
      (λ m n u v look. (let c = u.stands.top in let f = v.stands.top in
      from_numbers alike c f m n u.stands.number v.stands.number (is.decided c f u.stands.there v.stands.there
      (scope_at a b c f x y u.stands.there v.stands.there (sym u.stands.unit_is) (sym v.stands.unit_is) s)
      (alike_at units c f m n u.stands.number v.stands.number (record { first = u.movable; second = v.movable; equal = look })))))
      a b (inside units a x d.first) (inside units b y d.second) (look_step (tops_of units) a b x y d.equal)
