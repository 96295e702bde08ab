-- Stretches in order are the whole; and what threads collect of calls that all succeed is what one thread gets.
use Rattle.std.proofs.Common.{◌≡◌, ℕ, zero, suc, ◌+◌, ◌-◌, ◌*◌, ◌<◌, ◌≤◌, ◌++◌, List, [], ◌∷◌, Contains, map, ap, sym, subst, ◌∙◌, arith}
use Rattle.std.specs.Prelude.{IfOk, MatchResult, Ok, Err, slice_index_or}
use Rattle.std.proofs.lemmas.Result.{IfOk-weaker}
use Rattle.std.proofs.lemmas.Slice.Zip.{AllZip-map}
use Rattle.std.specs.List.{AllZip, range_with_len}
use Rattle.std.specs.declared.result.Result.{Result}
use Rattle.dwz_label.specs.Stretches.{before, front, stretch_of}

-- ---- stretches

-- numbers from one on, in two parts
range_parts : (label : ℕ → List ℕ) (a m n : ℕ) → map label (range_with_len a (m + n)) ≡ map label (range_with_len a m) ++ map label (range_with_len (a + m) n)
range_parts label a zero n = let all : 0 + n ≡ n = omega arith in let here : a + 0 ≡ a = omega arith in λ i. map label (range_with_len (sym here i) (all i))
range_parts label a (suc m) n =
    let all : suc m + n ≡ suc (m + n) = omega arith in
    let next : a + 1 + m ≡ a + suc m = omega arith in
    ap (λ (k : ℕ). map label (range_with_len a k)) all
    ∙ ap (λ (ls : List (List ℕ)). label a ∷ ls) (range_parts label (a + 1) m n)
    ∙ ap (λ (k : ℕ). label a ∷ map label (range_with_len (a + 1) m) ++ map label (range_with_len k n)) next

-- one more stretch
pub front_more : (label : ℕ → List ℕ) (count len k : ℕ) → front label count len (k + 1) ≡ front label count len k ++ stretch_of label count len k
front_more label count len k =
    let m = before count len k in
    let rest = before count len (k + 1) - before count len k in
    let whole : before count len (k + 1) ≡ before count len k + (before count len (k + 1) - before count len k) = omega arith in
    let here : 0 + m ≡ m = omega arith in
    ap (λ (n : ℕ). map label (range_with_len 0 n)) whole
    ∙ range_parts label 0 m rest
    ∙ ap (λ (a : ℕ). map label (range_with_len 0 m) ++ map label (range_with_len a rest)) here

-- enough of them are the whole
pub front_whole : (label : ℕ → List ℕ) (count len k : ℕ) → count ≤ k * len → front label count len k ≡ map label (range_with_len 0 count)
front_whole label count len k le = let all : before count len k ≡ count = omega arith in ap (λ (n : ℕ). map label (range_with_len 0 n)) all

pub front_none : (label : ℕ → List ℕ) (count len k : ℕ) → k ≡ 0 → front label count len k ≡ []
front_none label count len k is = let none : before count len k ≡ 0 = ap (λ (n : ℕ). before count len n) is ∙ omega arith in ap (λ (n : ℕ). map label (range_with_len 0 n)) none

-- ---- results of calls that a chain collected

-- what each call gave where it was Ok
abbrev pub Gives : {X Y E : Type 0} → (X → Y) → X → Result Y E → Type 0
Gives f x r = IfOk r (λ y. y ≡ f x)

-- all calls were Ok
all_ok : {X Y : Type 0} (E : Type 0) (P : X → Y → Type 0) (xs : List X) (ys : List Y) → AllZip (λ x (z : Result Y E). IfOk z (P x)) xs (map Ok ys) → AllZip P xs ys
all_ok E P [] [] h = tt
all_ok E P [] (y ∷ ys) h = absurd h
all_ok E P (x ∷ xs) [] h = absurd h
all_ok E P (x ∷ xs) (y ∷ ys) h = (h.0, all_ok E P xs ys h.1)

-- what a chain collected of them is as each call gave it, or an error that one of them gave
pub collected_each : {X Y E V : Type 0} (items : V → List Y) (P : X → Y → Type 0) (xs : List X) (r : Result V E) (zs : List (Result Y E)) → AllZip (λ x z. IfOk z (P x)) xs zs
    → MatchResult r (λ v. (ys : List Y) × (zs ≡ map Ok ys) × (items v ≡ ys)) (λ e. Contains zs (Err e))
    → IfOk r (λ v. AllZip P xs (items v))
collected_each items P xs (Ok v) zs h m = subst (λ ys. AllZip P xs ys) (sym m.2) (all_ok _ P xs m.0 (subst (λ l. AllZip (λ x z. IfOk z (P x)) xs l) m.1 h))
collected_each items P xs (Err e) zs h m = tt

-- the same of calls that gave a function's values: its list
pub collected : {X Y E V : Type 0} (items : V → List Y) (f : X → Y) (xs : List X) (r : Result V E) (zs : List (Result Y E)) → AllZip (Gives f) xs zs
    → MatchResult r (λ v. (ys : List Y) × (zs ≡ map Ok ys) × (items v ≡ ys)) (λ e. Contains zs (Err e))
    → IfOk r (λ v. items v ≡ map f xs)
collected items f xs r zs h m = IfOk-weaker r _ _ (λ v all. AllZip-map f xs (items v) all) (collected_each items (λ x y. y ≡ f x) xs r zs h m)

-- what holds of each number from one on and the item at its place
pub numbered_each : {Y : Type 0} (P : ℕ → Y → Type 0) (a n : ℕ) (ys : List Y) → AllZip P (range_with_len a n) ys → (k : ℕ) (d : Y) → k < n → P (a + k) (slice_index_or ys k d)
numbered_each P a zero ys h k d low = absurd (omega (arith, low))
numbered_each P a (suc n) [] h k d low = absurd h
numbered_each P a (suc n) (y ∷ ys) h zero d low = let here : a ≡ a + 0 = omega arith in subst (λ m. P m y) here h.0
numbered_each P a (suc n) (y ∷ ys) h (suc k) d low =
    let next : a + 1 + k ≡ a + suc k = omega arith in
    subst (λ m. P m (slice_index_or ys k d)) next (numbered_each P (a + 1) n ys h.1 k d (omega (arith, low)))
