-- Booleans, options and results, case by case.
use Rattle.std.proofs.Common.{◌≡◌, ◌||◌, Bool, true, false, refl, ℕ, zero, suc, ◌<◌, arith, Ok, Result, sym, ◌∙◌, ◌&&◌, Err, IfOk, OnOk}
use Rattle.std.specs.Prelude.{◌↔◌, IsSome, None, Option, Some}
use Rattle.std.specs.Ordering.{is_eq, nat_cmp}
use Rattle.std.proofs.lemmas.Bool.{false≢true}
use Rattle.std.proofs.lemmas.Bool.Decides.{nat_tests}

pub or_left : (a b : Bool) → (a || b) ≡ false → a ≡ false
or_left true b e = e
or_left false b e = refl

pub or_right : (a b : Bool) → (a || b) ≡ false → b ≡ false
or_right true b e = absurd cc
or_right false b e = e

-- none are left
pub none_left : {X : Type 0} (o : Option X) (n : ℕ) → (IsSome o ↔ (0 < n)) → ((x : X) → o ≡ Some x → ⊥) → n ≡ 0
none_left None zero h out = refl
none_left None (suc n) h out = absurd (false≢true (h.1 (omega arith)))
none_left (Some x) n h out = absurd (out x refl)

pub or_assoc : (a b c : Bool) → (a || (b || c)) ≡ ((a || b) || c)
or_assoc true b c = refl
or_assoc false b c = refl

pub ok_same : {X E : Type 0} (r : Result X E) (a b : X) → r ≡ Ok a → r ≡ Ok b → a ≡ b
ok_same r a b p q = (let both : Ok a ≡ Ok b = sym p ∙ q in cc)

pub and_left : (a b : Bool) → (a && b) ≡ true → a ≡ true
and_left true b e = refl
and_left false b e = e

pub same_test : (p q : Bool) → (p ≡ true → q ≡ true) → (q ≡ true → p ≡ true) → p ≡ q
same_test true q to from = sym (to refl)
same_test false true to from = from refl
same_test false false to from = refl

pub same_bool : (b c : Bool) → (b ≡ true) ↔ (c ≡ true) → b ≡ c
same_bool true c h = sym (h.0 refl)
same_bool false true h = h.1 refl
same_bool false false h = refl

pub if_ok : {X E : Type 0} (r : Result X E) (P Q : X → Type 0) → ((x : X) → P x → Q x) → IfOk r P → IfOk r Q
if_ok (Ok x) P Q to h = to x h
if_ok (Err e) P Q to h = tt

-- what holds after a call, from what else does
pub on_ok : {X E : Type 0} (r : Result X E) (P Q : Type 0) → (P → Q) → OnOk r P → OnOk r Q
on_ok (Ok x) P Q f h = f h
on_ok (Err e) P Q f h = tt

-- numbers that compare as equal are equal
pub same_number : (a b : ℕ) → is_eq (nat_cmp a b) ≡ true → a ≡ b
same_number a b e = grind (arith, nat_tests)
