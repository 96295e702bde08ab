-- Numbers that are appended, one behind the other.
use Rattle.std.proofs.Common.{◌≡◌, ℕ, suc, ◌*◌, ◌+◌, ◌%◌, ◌/◌, ◌≤◌, List, [], ◌∷◌, ◌++◌, length, map, Option, Some, refl, sym, ap, ◌∙◌, arith}
use Rattle.std.specs.List.{flat_map}
use Rattle.std.proofs.lemmas.List.{append-nil}
use Rattle.dwz_label.specs.Labels.{number}
use Rattle.dwz_label.proofs.NumberLemmas.{number_more}
use Rattle.dwz_label_marks.specs.Marks.{Plainly}
use Rattle.dwz_label_marks.specs.Told.{Adds, Tells, word_of}
use Rattle.dwz_label_marks.proofs.AddsLemmas.{tells_both}
use Rattle.dwz_label_words.specs.Plain.{plainly}

-- ---- numbers one behind the other

pub tells_steps : (names : List (List ℕ)) (path : List ℕ) → Tells names (map Plainly path) (flat_map plainly path)
tells_steps names path = record { words = map (λ n. 2 * n) path; are = are path; spelled = spelled path } where
  are : (xs : List ℕ) → map (word_of names) (map Plainly xs) ≡ map Some (map (λ n. 2 * n) xs)
  are [] = refl
  are (x ∷ xs) = ap (λ (w : List (Option ℕ)). Some (2 * x) ∷ w) (are xs)

  spelled : (xs : List ℕ) → flat_map plainly xs ≡ flat_map number (map (λ n. 2 * n) xs)
  spelled [] = refl
  spelled (x ∷ xs) = ap (λ (w : List ℕ). number (2 * x) ++ w) (spelled xs)

pub adds_path : (names : List (List ℕ)) (path old new : List ℕ) → new ≡ old ++ (plainly (suc (length path)) ++ flat_map plainly path)
    → Adds names (Plainly (suc (length path)) ∷ map Plainly path) old new
adds_path names path old new e = record {
  more = plainly (suc (length path)) ++ flat_map plainly path;
  told = tells_both names (Plainly (suc (length path)) ∷ []) (map Plainly path) (plainly (suc (length path))) (flat_map plainly path)
      (record { words = 2 * suc (length path) ∷ []; are = refl; spelled = sym (append-nil (plainly (suc (length path)))) }) (tells_steps names path);
  is = e;
}

-- ---- a number of two groups or more

pub large : (n : ℕ) → 64 ≤ n → number (2 * n) ≡ (n % 64 * 2 + 128) ∷ number (n / 64)
large n l =
    let low : 2 * n % 128 ≡ n % 64 * 2 = omega arith in
    let high : 2 * n / 128 ≡ n / 64 = omega arith in
    number_more (2 * n) (omega arith) ∙ (λ i. (low i + 128) ∷ number (high i))
