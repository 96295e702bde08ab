-- Tests that decide what they stand for.
use Rattle.std.proofs.Common.{◌≡◌, ◌⊎◌, ℕ, ◌<◌, ◌≤◌, Bool, true, false, List, [], ◌∷◌, refl, sym, subst, inl, inr, eqb, ltb, arith}
use Rattle.std.specs.Prelude.{◌&&◌, ◌||◌, not}
use Rattle.std.specs.List.{list_any}
use Rattle.std.proofs.lemmas.Bool.{eqb-false, eqb-true, false≢true, ltb-false, ltb-true}
use Rattle.dwz_model.specs.Lists.{In}
use Rattle.dwz_def_reading.specs.Meanings.{IfSo}

-- where the test is true P holds, and where it is false P doesn't
pub record Decides (test : Bool) (P : Type 0) : Type 0 where
  pub yes : test ≡ true → P
  pub no : test ≡ false → P → ⊥

pub decides_and : {a b : Bool} {P Q : Type 0} → Decides a P → Decides b Q → Decides (a && b) (P × Q)
decides_and {a = true} p q = record { yes = λ e. (p.yes refl, q.yes e); no = λ e h. q.no e h.1 }
decides_and {a = false} p q = record { yes = λ e. absurd cc; no = λ e h. p.no refl h.0 }

pub decides_or : {a b : Bool} {P Q : Type 0} → Decides a P → Decides b Q → Decides (a || b) (P ⊎ Q)
decides_or {a = true} p q = record { yes = λ e. inl (p.yes refl); no = λ e h. absurd cc }
decides_or {a = false} p q = record { yes = λ e. inr (q.yes e); no = λ e h. elim h [ inl x ↦ p.no refl x | inr y ↦ q.no e y ] }

pub decides_not : {a : Bool} {P : Type 0} → Decides a P → Decides (not a) (P → ⊥)
decides_not {a = true} p = record { yes = λ e. absurd cc; no = λ e h. h (p.yes refl) }
decides_not {a = false} p = record { yes = λ e x. p.no refl x; no = λ e h. absurd cc }

pub decides_words : {a : Bool} {P Q : Type 0} → Decides a P → (P → Q) → (Q → P) → Decides a Q
decides_words d to from = record { yes = λ e. to (d.yes e); no = λ e q. d.no e (from q) }

pub decides_eq : (m n : ℕ) → Decides (eqb m n) (m ≡ n)
decides_eq m n = record { yes = eqb-true m n; no = eqb-false m n }

pub decides_lt : (m n : ℕ) → Decides (ltb m n) (m < n)
decides_lt m n = record { yes = ltb-true m n; no = λ e lt. let le = ltb-false m n e in omega (arith, le, lt) }

pub decides_le : (m n : ℕ) → Decides (not (ltb n m)) (m ≤ n)
decides_le m n = decides_words (decides_not (decides_lt n m)) (λ h. not_less h) (λ le lt. omega (arith, le, lt)) where
  not_less : (n < m → ⊥) → m ≤ n
  not_less h = by (ltb n m) refl where
    by : (b : Bool) → ltb n m ≡ b → m ≤ n
    by true e = absurd (h (ltb-true n m e))
    by false e = ltb-false n m e

-- one of the items passes the test
pub decides_any : {X : Type 0} (test : X → Bool) (P : X → Type 0) → ((x : X) → Decides (test x) (P x)) → (xs : List X) → Decides (list_any test xs) ((x : X) × In x xs × P x)
decides_any {X} test P each [] = record { yes = λ e. absurd cc; no = λ e h. h.1 }
decides_any {X} test P each (x ∷ xs) = decides_words (decides_or (each x) (decides_any test P each xs)) to from where
  to : P x ⊎ ((y : X) × In y xs × P y) → (y : X) × In y (x ∷ xs) × P y
  to (inl p) = (x, inl refl, p)
  to (inr h) = (h.0, inr h.1, h.2)

  from : (y : X) × In y (x ∷ xs) × P y → P x ⊎ ((y : X) × In y xs × P y)
  from (y, inl same, p) = inl (subst P (sym same) p)
  from (y, inr there, p) = inr (y, there, p)

pub if_true : (b : Bool) (P Q : Type 0) → b ≡ true → IfSo b P Q → P
if_true true P Q e h = h
if_true false P Q e h = absurd (false≢true e)

pub if_false : (b : Bool) (P Q : Type 0) → b ≡ false → IfSo b P Q → Q
if_false true P Q e h = absurd (false≢true (sym e))
if_false false P Q e h = h
