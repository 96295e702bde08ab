-- Functions that agree with relations: a value is answered exactly where one relation holds, and a fault exactly where another does.
use Rattle.std.proofs.Common.{◌≡◌, ◌↔◌, ◌⊎◌, Result, Ok, Err, refl, sym, ap, ◌∙◌, inl, inr}
use Rattle.dwz_bytes.specs.Reading.{◌>>=◌}
use Rattle.dwz_def_reading.specs.MeaningFaults.{ExactlyOne}
use Rattle.dwz_def_reading.proofs.PartLemmas.{bind_err, bind_ok, same_error}

pub record Agrees {X E : Type 0} (r : Result X E) (Means : X → Type 0) (IsFault : E → Type 0) : Type 0 where
  pub ok : (x : X) → (r ≡ Ok x) ↔ Means x
  pub err : (e : E) → (r ≡ Err e) ↔ IsFault e

-- an answer that is known
pub agrees_ok : {X E : Type 0} (x : X) → Agrees {E = E} (Ok x) (λ y. y ≡ x) (λ e. ⊥)
agrees_ok {X} {E} x = record {
  ok = λ y. (λ is. cc, λ same. ap (λ (w : X). Ok w) (sym same));
  err = λ e. (λ is. absurd cc, λ no. absurd no);
}

pub agrees_err : {X E : Type 0} (d : E) → Agrees {X = X} (Err d) (λ y. ⊥) (λ e. e ≡ d)
agrees_err {X} {E} d = record {
  ok = λ y. (λ is. absurd cc, λ no. absurd no);
  err = λ e. (λ is. cc, λ same. ap (λ (w : E). Err w) (sym same));
}

-- the same relations in other words
pub in_words : {X E : Type 0} {r : Result X E} {M N : X → Type 0} {F G : E → Type 0} → Agrees r M F → ((x : X) → M x ↔ N x) → ((e : E) → F e ↔ G e) → Agrees r N G
in_words {X} {E} {r} {M} {N} {F} {G} a means faults = record {
  ok = λ x. (λ is. (means x).0 ((a.ok x).0 is), λ holds. (a.ok x).1 ((means x).1 holds));
  err = λ e. (λ is. (faults e).0 ((a.err e).0 is), λ holds. (a.err e).1 ((faults e).1 holds));
}

-- the last step makes something of what was answered
abbrev pub Made : {X Y : Type 0} → (X → Type 0) → (X → Y) → Y → Type 0
Made {X} M c y = (x : X) × M x × (y ≡ c x)

pub then_made : {X Y E : Type 0} {r : Result X E} {M : X → Type 0} {F : E → Type 0} → Agrees r M F → (c : X → Y) → Agrees (r >>= λ x. Ok (c x)) (Made M c) F
then_made {X} {Y} {E} {r} {M} {F} a c = record {
  ok = λ y. (
    λ is. let b = bind_ok r (λ x. Ok (c x)) y is in (b.0, (a.ok b.0).0 b.1, let same = b.2 in cc),
    λ holds. let e = (a.ok holds.0).1 holds.1 in rw e (ap (λ (w : Y). Ok w) (sym holds.2)),
  );
  err = λ e. (
    λ is. elim (bind_err r (λ x. Ok (c x)) e is) [ inl d ↦ (a.err e).0 d | inr b ↦ absurd (let no = b.2 in cc) ],
    λ holds. let d = (a.err e).1 holds in rw d refl,
  );
}

-- a step, and then the others, whose relations may speak of what it answered
abbrev pub Next : {X Y : Type 0} → (X → Type 0) → (X → Y → Type 0) → Y → Type 0
Next {X} M N y = (x : X) × M x × N x y

abbrev pub OrNext : {X E : Type 0} → (E → Type 0) → (X → Type 0) → (X → E → Type 0) → E → Type 0
OrNext {X} F M G e = F e ⊎ ((x : X) × M x × G x e)

pub and_with : {X Y E : Type 0} {r : Result X E} {M : X → Type 0} {F : E → Type 0} {N : X → Y → Type 0} {G : X → E → Type 0}
    → Agrees r M F → (f : X → Result Y E) → ((x : X) → Agrees (f x) (N x) (G x)) → Agrees (r >>= f) (Next M N) (OrNext F M G)
and_with {X} {Y} {E} {r} {M} {F} {N} {G} a f others = record {
  ok = λ y. (
    λ is. let b = bind_ok r f y is in (b.0, (a.ok b.0).0 b.1, ((others b.0).ok y).0 b.2),
    λ holds. let e = (a.ok holds.0).1 holds.1 in rw e (((others holds.0).ok y).1 holds.2),
  );
  err = λ e. (
    λ is. elim (bind_err r f e is) [
      | inl d ↦ inl ((a.err e).0 d)
      | inr b ↦ inr (b.0, (a.ok b.0).0 b.1, ((others b.0).err e).0 b.2)
    ],
    λ holds. elim holds [
      | inl d ↦ let none = (a.err e).1 d in rw none refl
      | inr p ↦ let is = (a.ok p.0).1 p.1 in rw is (((others p.0).err e).1 p.2)
    ],
  );
}

-- the same, where the others are known to agree only behind what the step may answer
pub and_given : {X Y E : Type 0} {r : Result X E} {M : X → Type 0} {F : E → Type 0} {N : X → Y → Type 0} {G : X → E → Type 0}
    → Agrees r M F → (f : X → Result Y E) → ((x : X) → M x → Agrees (f x) (N x) (G x)) → Agrees (r >>= f) (Next M N) (OrNext F M G)
and_given {X} {Y} {E} {r} {M} {F} {N} {G} a f others = record {
  ok = λ y. (
    λ is. let b = bind_ok r f y is in let m = (a.ok b.0).0 b.1 in (b.0, m, ((others b.0 m).ok y).0 b.2),
    λ holds. let e = (a.ok holds.0).1 holds.1 in rw e (((others holds.0 holds.1).ok y).1 holds.2),
  );
  err = λ e. (
    λ is. elim (bind_err r f e is) [
      | inl d ↦ inl ((a.err e).0 d)
      | inr b ↦ let m = (a.ok b.0).0 b.1 in inr (b.0, m, ((others b.0 m).err e).0 b.2)
    ],
    λ holds. elim holds [
      | inl d ↦ let none = (a.err e).1 d in rw none refl
      | inr p ↦ let is = (a.ok p.0).1 p.1 in rw is (((others p.0 p.1).err e).1 p.2)
    ],
  );
}

-- a step, and then the others, whose fault says nothing of what it answered
abbrev pub Or : {X E : Type 0} → (E → Type 0) → (X → Type 0) → (E → Type 0) → E → Type 0
Or {X} F M G e = F e ⊎ (((x : X) × M x) × G e)

pub and_then : {X Y E : Type 0} {r : Result X E} {M : X → Type 0} {F : E → Type 0} {N : X → Y → Type 0} {G : E → Type 0}
    → Agrees r M F → (f : X → Result Y E) → ((x : X) → Agrees (f x) (N x) G) → Agrees (r >>= f) (Next M N) (Or F M G)
and_then {X} {Y} {E} {r} {M} {F} {N} {G} a f others =
    in_words (and_with a f others) (λ y. (λ h. h, λ h. h)) (λ e. (
      λ h. elim h [ inl d ↦ inl d | inr p ↦ inr ((p.0, p.1), p.2) ],
      λ h. elim h [ inl d ↦ inl d | inr p ↦ inr (p.0.0, p.0.1, p.1) ],
    ))

-- ---- what follows: one value at most, one fault at most, and just one of them

abbrev value_or : {X E : Type 0} → X → Result X E → X
value_or d (Ok x) = x
value_or d (Err e) = d

pub same_meaning : {X E : Type 0} {r : Result X E} {M : X → Type 0} {F : E → Type 0} → Agrees r M F → (x y : X) → M x → M y → x ≡ y
same_meaning {X} {E} {r} {M} {F} a x y is other = ap (value_or x) (sym ((a.ok x).1 is) ∙ (a.ok y).1 other)

pub same_fault : {X E : Type 0} {r : Result X E} {M : X → Type 0} {F : E → Type 0} → Agrees r M F → (d e : E) → F d → F e → d ≡ e
same_fault {X} {E} {r} {M} {F} a d e is other = same_error d e r ((a.err d).1 is) ((a.err e).1 other)

pub never_both : {X E : Type 0} {r : Result X E} {M : X → Type 0} {F : E → Type 0} → Agrees r M F → (x : X) (e : E) → M x → F e → ⊥
never_both {X} {E} {r} {M} {F} a x e is other = let no : Ok x ≡ Err e = sym ((a.ok x).1 is) ∙ (a.err e).1 other in cc

pub just_one : {X E : Type 0} (r : Result X E) {M : X → Type 0} {F : E → Type 0} → Agrees r M F → ExactlyOne M F
just_one {X} {E} (Ok x) {M} {F} a =
    let is = (a.ok x).0 refl in
    inl (x, record { is = is; alone = λ y other. same_meaning a y x other is }, λ e other. never_both a x e is other)
just_one {X} {E} (Err e) {M} {F} a =
    let is = (a.err e).0 refl in
    inr (e, record { is = is; alone = λ d other. same_fault a d e other is }, λ x other. never_both a x e other is)
