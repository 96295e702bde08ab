-- Numbers at the front of labels: passed by group by group, and read; and what is behind a count of pieces.
use Rattle.std.proofs.Common.{◌≡◌, ℕ, suc, ◌+◌, ◌/◌, ◌^◌, ◌<◌, ◌≤◌, List, [], ◌∷◌, ◌++◌, length, drop, Ok, ap, ◌∙◌, ⊎_elim, arith}
use Rattle.std.specs.List.{flat_map}
use Rattle.std.proofs.lemmas.Bool.{cases_lt}
use Rattle.std.proofs.lemmas.List.{append_assoc, drop_all, length-append}
use Rattle.std.specs.Prelude.{Err, Result}
use Rattle.dwz_bytes.specs.declared.error.ByteErr.{ByteErr}
use Rattle.dwz_bytes.specs.Input.{Input, input}
use Rattle.dwz_bytes.specs.Reading.{uleb_at}
use Rattle.dwz_bytes.specs.Spelling.{fits_u64, groups_value, uleb}
use Rattle.dwz_bytes.proofs.LebLemmas.{leb_again}
use Rattle.dwz_bytes.proofs.PaddedLemmas.{uleb_spells}
use Rattle.dwz_model.proofs.ListFacts.{drop_here, got_there}
use Rattle.dwz_label.specs.Labels.{each_counted, number}
use Rattle.dwz_label.proofs.Codes.{heads, number_uleb, tails}
use Rattle.dwz_label.proofs.NumberLemmas.{number_last, number_more}

-- ---- group by group

abbrev with_rest : List ℕ → List ℕ → List ℕ
with_rest rest w = w ++ rest

pub group_last : (m group : ℕ) (others rest : List ℕ) → group ∷ others ≡ number m ++ rest → group < 128 → others ≡ rest
group_last m group others rest e l =
    ⊎_elim (λ (lt : m < 128). tails (e ∙ ap (with_rest rest) (number_last m lt)))
    (λ (ge : 128 ≤ m). absurd (let h = heads (e ∙ ap (with_rest rest) (number_more m ge)) in omega (arith, h, l))) (cases_lt m 128)

pub group_more : (m group : ℕ) (others rest : List ℕ) → group ∷ others ≡ number m ++ rest → 128 ≤ group → others ≡ number (m / 128) ++ rest
group_more m group others rest e le =
    ⊎_elim (λ (lt : m < 128). absurd (let h = heads (e ∙ ap (with_rest rest) (number_last m lt)) in omega (arith, h, le, lt)))
    (λ (ge : 128 ≤ m). tails (e ∙ ap (with_rest rest) (number_more m ge))) (cases_lt m 128)

pub number_some : (n : ℕ) → 0 < length (number n)
number_some n =
    ⊎_elim (λ (lt : n < 128). let e : length (number n) ≡ 1 = ap length (number_last n lt) in omega (arith, e))
    (λ (ge : 128 ≤ n). let e : length (number n) ≡ suc (length (number (n / 128))) = ap length (number_more n ge) in omega (arith, e)) (cases_lt n 128)

pub no_number : (n : ℕ) (rest : List ℕ) → [] ≡ number n ++ rest → ⊥
no_number n rest e =
    let e' : 0 ≡ length (number n ++ rest) = ap length e in
    let l = length-append (number n) rest in
    let s = number_some n in
    omega (arith, e', l, s)

-- ---- read

pub number_read : (n : ℕ) (bytes rest : List ℕ) → n < 2 ^ 64 → bytes ≡ number n ++ rest → (j : Input) × (uleb_at (input bytes 0) ≡ Ok (n, j))
unfolding uleb_at
number_read n bytes rest l e = (
  record { at = 0 + length (uleb n); rest = rest },
  ap (λ (w : List ℕ). uleb_at (record { at = 0; rest = w })) (e ∙ ap (with_rest rest) (number_uleb n l)) ∙ leb_again groups_value fits_u64 0 n (uleb n) rest (uleb_spells n l),
)

abbrev number_in : Result (ℕ × Input) ByteErr → ℕ
number_in (Ok x) = x.0
number_in (Err e) = 0

pub one_number : (m n : ℕ) (i j : Input) → ◌≡◌ {A = Result (ℕ × Input) ByteErr} (Ok (m, i)) (Ok (n, j)) → m ≡ n
one_number m n i j e = ap number_in e

-- ---- what calls answer

abbrev pub IsAfterNumber : List ℕ → List ℕ → Type 0
IsAfterNumber label left = (n : ℕ) (rest : List ℕ) → label ≡ number n ++ rest → left ≡ rest

abbrev pub IsCount : List ℕ → ℕ → Type 0
IsCount label count = (n : ℕ) (rest : List ℕ) → label ≡ number n ++ rest → n ≤ length label → count ≡ n

-- behind a piece
abbrev pub IsAfter : {X : Type 0} → (X → List ℕ) → List ℕ → List ℕ → Type 0
IsAfter {X} spell label left = (x : X) (rest : List ℕ) → label ≡ spell x ++ rest → left ≡ rest

-- behind the count of some pieces and the first ones
abbrev pub IsAfterSome : {X : Type 0} → (X → List ℕ) → List ℕ → List ℕ → ℕ → Type 0
IsAfterSome {X} spell label left i = (xs : List X) (rest : List ℕ) → label ≡ each_counted spell xs ++ rest → left ≡ flat_map spell (drop i xs) ++ rest

-- each takes a byte or more
abbrev pub TakesBytes : {X : Type 0} → (X → List ℕ) → Type 0
TakesBytes {X} spell = (x : X) → 0 < length (spell x)

pub many_bytes : {X : Type 0} (spell : X → List ℕ) → TakesBytes spell → (xs : List X) → length xs ≤ length (flat_map spell xs)
many_bytes spell some [] = omega arith
many_bytes spell some (x ∷ xs) =
    let a = some x in
    let b = many_bytes spell some xs in
    let e = length-append (spell x) (flat_map spell xs) in
    omega (arith, a, b, e)

pub count_first : {X : Type 0} (spell : X → List ℕ) (label : List ℕ) (xs : List X) (rest : List ℕ) → label ≡ each_counted spell xs ++ rest
    → label ≡ number (length xs) ++ (flat_map spell xs ++ rest)
count_first spell label xs rest e = e ∙ append_assoc (number (length xs)) (flat_map spell xs) rest

pub each_count : {X : Type 0} (spell : X → List ℕ) → TakesBytes spell → (label : List ℕ) (count : ℕ) → IsCount label count → (xs : List X) (rest : List ℕ)
    → label ≡ each_counted spell xs ++ rest → count ≡ length xs
each_count spell some label count is xs rest e =
    let s = count_first spell label xs rest e in
    let l : length label ≡ length (number (length xs) ++ (flat_map spell xs ++ rest)) = ap length s in
    let a = length-append (number (length xs)) (flat_map spell xs ++ rest) in
    let b = length-append (flat_map spell xs) rest in
    let m = many_bytes spell some xs in
    is (length xs) (flat_map spell xs ++ rest) s (omega (arith, l, a, b, m))

pub each_init : {X : Type 0} (spell : X → List ℕ) (label left : List ℕ) → IsAfterNumber label left → IsAfterSome spell label left 0
each_init spell label left is = λ xs rest e. is (length xs) (flat_map spell xs ++ rest) (count_first spell label xs rest e)

pub each_next : {X : Type 0} (spell : X → List ℕ) → TakesBytes spell → (label : List ℕ) (count : ℕ) → IsCount label count → (left next : List ℕ) (i : ℕ) → i < count
    → IsAfterSome spell label left i → IsAfter spell left next → IsAfterSome spell label next (i + 1)
each_next spell some label count is left next i lt h after = λ xs rest e. (
    let n = each_count spell some label count is xs rest e in
    let got = got_there xs i (omega (arith, lt, n)) in
    let parts = drop_here xs i got.0 got.1 in
    after got.0 (flat_map spell (drop (i + 1) xs) ++ rest)
    (h xs rest e ∙ ap (λ ys. flat_map spell ys ++ rest) parts ∙ append_assoc (spell got.0) (flat_map spell (drop (i + 1) xs)) rest))

pub each_done : {X : Type 0} (spell : X → List ℕ) → TakesBytes spell → (label : List ℕ) (count : ℕ) → IsCount label count → (left : List ℕ) (i : ℕ) → count ≤ i
    → IsAfterSome spell label left i → (xs : List X) (rest : List ℕ) → label ≡ each_counted spell xs ++ rest → left ≡ rest
each_done spell some label count is left i le h xs rest e =
    let n = each_count spell some label count is xs rest e in
    h xs rest e ∙ ap (λ ys. flat_map spell ys ++ rest) (drop_all i xs (omega (arith, le, n)))
