-- Trees are read as they are spelled, for any kind of entry.
use Rattle.std.proofs.Common.{◌≡◌, ℕ, zero, suc, ◌+◌, ◌<◌, ◌≤◌, Bool, true, false, List, [], ◌++◌, length, Option, Some, None, Result, Ok, Err, refl, sym, ap, subst, ◌∙◌, append_assoc, arith, ◌⊎◌}
use Rattle.std.proofs.Math.Logic.{inl, inr}
use Rattle.std.proofs.lemmas.List.{length-append}
use Rattle.dwz_model.specs.declared.fault.Fault.{Fault}
use Rattle.dwz_bytes.specs.Input.{Input}
use Rattle.dwz_bytes.specs.Reading.{◌>>=◌}
use Rattle.dwz_def_reading.specs.Trees.{AreFronts, Forest, End, Entry, ForestReader, FrontOf, IfChildren, Position, EntryReader, SpellsForest, after_children, after_front, behind, children_by}
use Rattle.dwz_def_reading.specs.Trees.{first_below}
use Rattle.dwz_def_reading.specs.Trees.{forest_at, siblings_at}

-- ---- cases of what reading answers

pub bind_ok : {A B : Type 0} (r : Result A Fault) (f : A → Result B Fault) (y : B) → (r >>= f) ≡ Ok y → (x : A) × (r ≡ Ok x) × (f x ≡ Ok y)
bind_ok (Ok x) f y e = (x, refl, e)
bind_ok (Err d) f y e = absurd cc

pub bind_err : {A B : Type 0} (r : Result A Fault) (g : A → Result B Fault) (f : Fault) → (r >>= g) ≡ Err f → (r ≡ Err f) ⊎ ((x : A) × (r ≡ Ok x) × (g x ≡ Err f))
bind_err (Ok x) g f e = inr (x, refl, e)
bind_err (Err d) g f e = inl cc

abbrev answer : {A : Type 0} → A → Result A Fault
answer x = Ok x

abbrev or_else : {A : Type 0} → A → Result A Fault → A
or_else d (Ok x) = x
or_else d (Err e) = d

pub ok_is : {A : Type 0} (x y : A) → answer x ≡ answer y → x ≡ y
ok_is x y e = ap (or_else x) e

-- ---- what was taken from the front of an input

pub record Takes (i : Input) (bytes : List ℕ) (j : Input) : Type 0 where
  pub parts : i.rest ≡ bytes ++ j.rest
  pub place : j.at ≡ i.at + length bytes

pub Takes-then : (i j k : Input) (a b : List ℕ) → Takes i a j → Takes j b k → Takes i (a ++ b) k
Takes-then i j k a b p q = record {
  parts = p.parts ∙ ap (λ (w : List ℕ). a ++ w) q.parts ∙ sym (append_assoc a b k.rest);
  place = omega (arith, p.place, q.place, length-append a b);
}

pub shorter : (i j : Input) (bytes : List ℕ) → Takes i bytes j → length j.rest ≤ length i.rest
shorter i j bytes t = omega (arith, ap length t.parts, length-append bytes j.rest)

pub shorter_by_some : (i j : Input) (bytes : List ℕ) → Takes i bytes j → 0 < length bytes → length j.rest < length i.rest
shorter_by_some i j bytes t some = omega (arith, ap length t.parts, length-append bytes j.rest)

-- ---- what is read is spelled

pub record Taken {E : Type 0} (has : E → Bool) (Front : FrontOf E) (p : Position) (i : Input) (x : Forest E × Input) : Type 0 where
  pub bytes : List ℕ
  pub spelled : SpellsForest has Front x.0 p i.at bytes
  pub takes : Takes i bytes x.1

abbrev Finds : {E : Type 0} → (E → Bool) → FrontOf E → ForestReader E → Type 0
Finds {E} has Front read = (p : Position) (i : Input) (x : Forest E × Input) → read p i ≡ Ok x → Taken has Front p i x

pub record ChildrenTaken {E : Type 0} (has : E → Bool) (Front : FrontOf E) (p : Position) (flag : Bool) (i : Input) (x : Forest E × Input) : Type 0 where
  pub bytes : List ℕ
  pub spelled : IfChildren flag x.0 (SpellsForest has Front x.0 (first_below p) i.at bytes) bytes
  pub takes : Takes i bytes x.1

pub children_found : {E : Type 0} (has : E → Bool) (Front : FrontOf E) (read : ForestReader E) → Finds has Front read → (p : Position) (flag : Bool) (i : Input) (x : Forest E × Input)
    → children_by read p flag i ≡ Ok x → ChildrenTaken has Front p flag i x
children_found has Front read finds p true i x e =
    let t = finds (first_below p) i x e in
    record { bytes = t.bytes; spelled = t.spelled; takes = t.takes }
children_found {E} has Front read finds p false i x e =
    let none : ChildrenTaken has Front p false i (End, i) = record { bytes = []; spelled = (refl, refl); takes = record { parts = refl; place = omega arith } } in
    subst (ChildrenTaken has Front p false i) (ok_is _ _ e) none

after_found : {E : Type 0} (has : E → Bool) (Front : FrontOf E) (read : ForestReader E) → Finds has Front read → (p : Position) (i j : Input) (o : Option E) (bytes : List ℕ) (x : Forest E × Input)
    → Front p i.at o bytes → Takes i bytes j → after_front has read p (o, j) ≡ Ok x → Taken has Front p i x
after_found {E} has Front read finds p i j None bytes x is takes e =
    let one : Taken has Front p i (End, j) = record { bytes = bytes; spelled = is; takes = takes } in
    subst (Taken has Front p i) (ok_is _ _ e) one
after_found {E} has Front read finds p i j (Some h) bytes x is takes e =
    let a = bind_ok (children_by read p (has h) j) (after_children read p h) x e in
    let b = bind_ok (read (behind p a.0.0) a.0.1) (λ next. Ok (Entry h a.0.0 next.0, next.1)) x a.2 in
    let children = children_found has Front read finds p (has h) j a.0 a.1 in
    let next = finds (behind p a.0.0) a.0.1 b.0 b.1 in
    let place : j.at ≡ i.at + length bytes = takes.place in
    let place' : a.0.1.at ≡ i.at + length bytes + length children.bytes = omega (arith, takes.place, children.takes.place) in
    let one : Taken has Front p i (Entry h a.0.0 b.0.0, b.0.1) = record {
      bytes = bytes ++ (children.bytes ++ next.bytes);
      spelled = record {
        first_bytes = bytes;
        first = is;
        second_bytes = children.bytes;
        second = subst (λ (n : ℕ). IfChildren (has h) a.0.0 (SpellsForest has Front a.0.0 (first_below p) n children.bytes) children.bytes) place children.spelled;
        third_bytes = next.bytes;
        third = subst (λ (n : ℕ). SpellsForest has Front b.0.0 (behind p a.0.0) n next.bytes) place' next.spelled;
        parts = refl;
      };
      takes = Takes-then i j b.0.1 bytes (children.bytes ++ next.bytes) takes (Takes-then j a.0.1 b.0.1 children.bytes next.bytes children.takes next.takes);
    } in
    subst (Taken has Front p i) (ok_is _ _ b.2) one

pub forest_found : {E : Type 0} (k : ℕ) (has : E → Bool) (front : EntryReader E) (Front : FrontOf E) (ended : Input → Fault) → AreFronts front Front → Finds has Front (forest_at has front ended k)
unfolding forest_at
forest_found zero has front Front ended laws p i x e = absurd cc
forest_found {E} (suc k) has front Front ended laws p i x e =
    let a = bind_ok (front p i) (after_front has (forest_at has front ended k) p) x e in
    let t = laws.found p i a.0.1 a.0.0 a.1 in
    after_found has Front (forest_at has front ended k) (forest_found k has front Front ended laws) p i a.0.1 a.0.0 t.0 x t.1 (record { parts = t.2; place = t.3 }) a.2

pub read_is_spelled : {E : Type 0} (has : E → Bool) (front : EntryReader E) (Front : FrontOf E) (ended : Input → Fault) → AreFronts front Front → Finds has Front (siblings_at has front ended)
unfolding siblings_at
read_is_spelled has front Front ended laws p i x e = forest_found (suc (length i.rest)) has front Front ended laws p i x e

-- ---- what is spelled is read

abbrev pub input_at : ℕ → List ℕ → Input
input_at at rest = record { at = at; rest = rest }

pub children_again : {E : Type 0} (flag : Bool) (children : Forest E) (has : E → Bool) (Front : FrontOf E) (read : ForestReader E) (p : Position) (start : ℕ) (bytes rest : List ℕ)
    → IfChildren flag children (SpellsForest has Front children (first_below p) start bytes) bytes
    → (SpellsForest has Front children (first_below p) start bytes → read (first_below p) (input_at start (bytes ++ rest)) ≡ Ok (children, input_at (start + length bytes) rest))
    → children_by read p flag (input_at start (bytes ++ rest)) ≡ Ok (children, input_at (start + length bytes) rest)
children_again true children has Front read p start bytes rest is again = again is
children_again {E} false children has Front read p start bytes rest is again =
    let place : start ≡ start + length bytes = omega (arith, ap length is.1) in
    rw (is.0, ← place) (ap (λ (w : List ℕ). Ok (End, input_at start w)) (ap (λ (w : List ℕ). w ++ rest) is.1))

forest_again : {E : Type 0} (f : Forest E) (k : ℕ) (has : E → Bool) (front : EntryReader E) (Front : FrontOf E) (ended : Input → Fault) → AreFronts front Front
    → (p : Position) (start : ℕ) (bytes rest : List ℕ) → SpellsForest has Front f p start bytes → length bytes < k
    → forest_at has front ended k p (input_at start (bytes ++ rest)) ≡ Ok (f, input_at (start + length bytes) rest)
unfolding forest_at
forest_again f zero has front Front ended laws p start bytes rest is lt = absurd (omega (arith, lt))
forest_again End (suc k) has front Front ended laws p start bytes rest is lt = rw (laws.again p start None bytes rest is) refl
forest_again {E} (Entry e children next) (suc k) has front Front ended laws p start bytes rest is lt =
    let a = is.first_bytes in let b = is.second_bytes in let c = is.third_bytes in
    let regrouped : bytes ++ rest ≡ a ++ (b ++ (c ++ rest)) = ap (λ (w : List ℕ). w ++ rest) is.parts ∙ append_assoc a (b ++ c) rest ∙ ap (λ (w : List ℕ). a ++ w) (append_assoc b c rest) in
    let lengths : length bytes ≡ length a + (length b + length c) = omega (arith, ap length is.parts, length-append a (b ++ c), length-append b c) in
    let some : 0 < length a = laws.some p start (Some e) a is.first in
    let head = laws.again p start (Some e) a (b ++ (c ++ rest)) is.first in
    let inner : children_by (forest_at has front ended k) p (has e) (input_at (start + length a) (b ++ (c ++ rest))) ≡ Ok (children, input_at (start + length a + length b) (c ++ rest))
    = children_again (has e) children has Front (forest_at has front ended k) p (start + length a) b (c ++ rest) is.second
    (λ spelled. forest_again children k has front Front ended laws (first_below p) (start + length a) b (c ++ rest) spelled (omega (arith, some, lt, lengths))) in
    let after = forest_again next k has front Front ended laws (behind p children) (start + length a + length b) c rest is.third (omega (arith, some, lt, lengths)) in
    let place : start + length a + length b + length c ≡ start + length bytes = omega (arith, lengths) in
    ap (λ (w : List ℕ). forest_at has front ended (suc k) p (input_at start w)) regrouped ∙ rw (head, after_front, inner, after_children, after, place) refl

pub spelled_is_read : {E : Type 0} (has : E → Bool) (front : EntryReader E) (Front : FrontOf E) (ended : Input → Fault) → AreFronts front Front
    → (p : Position) (start : ℕ) (f : Forest E) (bytes rest : List ℕ) → SpellsForest has Front f p start bytes
    → siblings_at has front ended p (input_at start (bytes ++ rest)) ≡ Ok (f, input_at (start + length bytes) rest)
unfolding siblings_at
spelled_is_read has front Front ended laws p start f bytes rest is = forest_again f (suc (length (bytes ++ rest))) has front Front ended laws p start bytes rest is
    (omega (arith, length-append bytes rest))
