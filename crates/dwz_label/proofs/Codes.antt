-- Spellings that end by themselves: where two of them begin with equal bytes, they spell the same, and what follows is equal.
use Rattle.std.proofs.Common.{◌≡◌, ℕ, zero, suc, ◌+◌, ◌*◌, ◌^◌, ◌<◌, List, [], ◌∷◌, ◌++◌, length, refl, sym, ap, ◌∙◌, arith}
use Rattle.std.specs.List.{flat_map}
use Rattle.std.proofs.lemmas.List.{append_assoc, append_cancel_left}
use Rattle.dwz_def_reading.specs.Reading.{groups_at}
use Rattle.dwz_def_reading.specs.Spelling.{IsGroups, groups_in, groups_value, padded, uleb}
use Rattle.dwz_def_reading.proofs.GroupLemmas.{groups_again}
use Rattle.dwz_def_reading.proofs.PaddedLemmas.{Suffices, below_ten, count_least, count_suffices, padded_groups, padded_value}
use Rattle.dwz_label.specs.Labels.{counted, each_counted, number}

-- what is spelled is related by R, and what follows is equal
abbrev pub CodeOf : {X : Type 0} → (X → X → Type 0) → (X → List ℕ) → Type 0
CodeOf {X} R spell = (x y : X) (r s : List ℕ) → spell x ++ r ≡ spell y ++ s → R x y × (r ≡ s)

abbrev pub Code : {X : Type 0} → (X → List ℕ) → Type 0
Code {X} spell = CodeOf (λ (x y : X). x ≡ y) spell

-- ---- the first part, and what follows it

pub first_of : {X : Type 0} (R : X → X → Type 0) (spell : X → List ℕ) → CodeOf R spell → (x y : X) (u v r s : List ℕ) → (spell x ++ u) ++ r ≡ (spell y ++ v) ++ s → R x y × (u ++ r ≡ v ++ s)
first_of R spell code x y u v r s e = code x y (u ++ r) (v ++ s) (sym (append_assoc (spell x) u r) ∙ e ∙ append_assoc (spell y) v s)

pub heads : {x y : ℕ} {xs ys : List ℕ} → x ∷ xs ≡ y ∷ ys → x ≡ y
heads e = cc

pub tails : {x y : ℕ} {xs ys : List ℕ} → x ∷ xs ≡ y ∷ ys → xs ≡ ys
tails e = cc

-- ---- numbers

-- reading finds the groups again
groups_one : (a b r s : List ℕ) → IsGroups a → IsGroups b → a ++ r ≡ b ++ s → (a ≡ b) × (r ≡ s)
groups_one a b r s g h e =
    let k = length a + length b in
    let found = sym (groups_again 0 k a r g (omega arith)) ∙ ap (groups_at 0 k) e ∙ groups_again 0 k b s h (omega arith) in
    let same : a ≡ b = cc in
    (same, append_cancel_left b r s (ap (λ (w : List ℕ). w ++ r) (sym same) ∙ e))

power_above : (n : ℕ) → n < 128 ^ n
power_above zero = omega arith
power_above (suc n) = let h = power_above n in let e : 128 ^ suc n ≡ 128 * 128 ^ n = omega arith in omega arith

pub enough : (n : ℕ) → n < 128 ^ suc n
enough n = let h = power_above n in let e : 128 ^ suc n ≡ 128 * 128 ^ n = omega arith in omega arith

wide_suffices : (n : ℕ) → Suffices (suc n) n (groups_in (suc n) n)
wide_suffices n = count_suffices n n (enough n)

groups_padded : (count k n : ℕ) → Suffices k n count → IsGroups (padded count n) × (groups_value (padded count n) ≡ n)
groups_padded zero k n s = absurd (let h = s.some in omega arith)
groups_padded (suc j) k n s = (padded_groups j n, padded_value j n s.holds)

number_groups : (n : ℕ) → IsGroups (number n) × (groups_value (number n) ≡ n)
unfolding number
number_groups n = groups_padded (groups_in (suc n) n) (suc n) n (wide_suffices n)

pub number_code : Code number
number_code m n r s e =
    let a = number_groups m in
    let b = number_groups n in
    let one = groups_one (number m) (number n) r s a.0 b.0 e in
    (sym a.1 ∙ ap groups_value one.0 ∙ b.1, one.1)

pub first_number : (m n : ℕ) (u v r s : List ℕ) → (number m ++ u) ++ r ≡ (number n ++ v) ++ s → (m ≡ n) × (u ++ r ≡ v ++ s)
first_number m n u v r s e = first_of (λ (x y : ℕ). x ≡ y) number number_code m n u v r s e

-- a number of 64 bits has its shortest LEB128 spelling
pub number_uleb : (n : ℕ) → n < 2 ^ 64 → number n ≡ uleb n
unfolding number
number_uleb n l =
    let wide = wide_suffices n in
    let ten = count_suffices 9 n (below_ten n l) in
    let up = count_least (suc n) n (groups_in 10 n) ten.holds ten.some in
    let down = count_least 10 n (groups_in (suc n) n) wide.holds wide.some in
    let same : groups_in (suc n) n ≡ groups_in 10 n = omega arith in
    ap (λ (k : ℕ). padded k n) same

-- ---- bytes and lists behind their count

take_same : (xs ys r s : List ℕ) → length xs ≡ length ys → xs ++ r ≡ ys ++ s → (xs ≡ ys) × (r ≡ s)
take_same [] [] r s l e = (refl, e)
take_same [] (y ∷ ys) r s l e = absurd (omega arith)
take_same (x ∷ xs) [] r s l e = absurd (omega arith)
take_same (x ∷ xs) (y ∷ ys) r s l e =
    let first = heads e in
    let rest = take_same xs ys r s (omega arith) (tails e) in
    ((λ i. first i ∷ rest.0 i), rest.1)

pub counted_code : Code counted
counted_code xs ys r s e =
    let n = first_number (length xs) (length ys) xs ys r s e in
    take_same xs ys r s n.0 n.1

-- a relation of lists that holds where it holds of the items
pub record Lists {X : Type 0} (R : X → X → Type 0) (L : List X → List X → Type 0) : Type 0 where
  pub none : L [] []
  pub more : (x y : X) (xs ys : List X) → R x y → L xs ys → L (x ∷ xs) (y ∷ ys)

flat_code : {X : Type 0} (R : X → X → Type 0) (L : List X → List X → Type 0) (spell : X → List ℕ) → Lists R L → CodeOf R spell → (xs ys : List X) (r s : List ℕ)
    → length xs ≡ length ys → flat_map spell xs ++ r ≡ flat_map spell ys ++ s → L xs ys × (r ≡ s)
flat_code R L spell lists code [] [] r s l e = (lists.none, e)
flat_code R L spell lists code [] (y ∷ ys) r s l e = absurd (omega arith)
flat_code R L spell lists code (x ∷ xs) [] r s l e = absurd (omega arith)
flat_code R L spell lists code (x ∷ xs) (y ∷ ys) r s l e =
    let first = first_of R spell code x y (flat_map spell xs) (flat_map spell ys) r s e in
    let rest = flat_code R L spell lists code xs ys r s (omega arith) first.1 in
    (lists.more x y xs ys first.0 rest.0, rest.1)

pub each_code_of : {X : Type 0} (R : X → X → Type 0) (L : List X → List X → Type 0) (spell : X → List ℕ) → Lists R L → CodeOf R spell → CodeOf L (each_counted spell)
each_code_of {X} R L spell lists code xs ys r s e =
    let n = first_number (length xs) (length ys) (flat_map spell xs) (flat_map spell ys) r s e in
    flat_code R L spell lists code xs ys r s n.0 n.1

equal_lists : {X : Type 0} → Lists (λ (x y : X). x ≡ y) (λ (xs ys : List X). xs ≡ ys)
equal_lists = record { none = refl; more = λ x y xs ys e f. λ i. e i ∷ f i }

pub each_code : {X : Type 0} (spell : X → List ℕ) → Code spell → Code (each_counted spell)
each_code {X} spell code = each_code_of (λ (x y : X). x ≡ y) (λ (xs ys : List X). xs ≡ ys) spell equal_lists code
