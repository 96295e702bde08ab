-- Bytes that tell marks: by one list of names equal bytes tell equal marks; and more names change nothing.
use Rattle.std.proofs.Common.{◌≡◌, ◌↔◌, ℕ, suc, ◌+◌, ◌*◌, List, [], ◌∷◌, ◌++◌, map, Option, Some, None, refl, sym, ap, ◌∙◌, arith}
use Rattle.std.specs.List.{flat_map}
use Rattle.std.specs.Option.{option_map}
use Rattle.std.proofs.lemmas.List.{append-nil}
use Rattle.dwz_def_reading.specs.TextRows.{text_number}
use Rattle.dwz_def_reading.proofs.TextRowLemmas.{number_here}
use Rattle.dwz_def_tops.specs.Spots.{Top}
use Rattle.dwz_label.specs.Labels.{number}
use Rattle.dwz_label.specs.Nodes.{SameBare}
use Rattle.dwz_label.proofs.Codes.{number_code}
use Rattle.dwz_label_marks.specs.Marks.{Mark, Named, Plainly, marks_of}
use Rattle.dwz_label_marks.specs.Told.{Tells, word_of}
use Rattle.dwz_label_marks.proofs.MarkLemmas.{bare_marks, marks_bare}

-- ---- one mark

some_same : {X : Type 0} {x y : X} → Some x ≡ Some y → x ≡ y
some_same e = cc

odd_word : (o : Option ℕ) (w : ℕ) → option_map (λ n. 2 * n + 1) o ≡ Some w → (n : ℕ) × (o ≡ Some n) × (2 * n + 1 ≡ w)
odd_word None w e = absurd cc
odd_word (Some n) w e = (n, refl, some_same e)

names_same : (names : List (List ℕ)) (v w : List ℕ) (n : ℕ) → text_number names v ≡ Some n → text_number names w ≡ Some n → v ≡ w
names_same names v w n e f = let x = number_here names v n e in let y = number_here names w n f in cc

mark_same : (names : List (List ℕ)) (x y : Mark) (w : ℕ) → word_of names x ≡ Some w → word_of names y ≡ Some w → x ≡ y
mark_same names (Plainly m) (Plainly n) w e f =
    let x = some_same e in
    let y = some_same f in
    let same : m ≡ n = omega arith in
    ap Plainly same
mark_same names (Plainly m) (Named v) w e f =
    let x = some_same e in
    let y = odd_word (text_number names v) w f in
    let odd = y.2 in
    absurd (omega arith)
mark_same names (Named v) (Plainly m) w e f =
    let x = some_same f in
    let y = odd_word (text_number names v) w e in
    let odd = y.2 in
    absurd (omega arith)
mark_same names (Named u) (Named v) w e f =
    let x = odd_word (text_number names u) w e in
    let y = odd_word (text_number names v) w f in
    let left = x.2 in
    let right = y.2 in
    let same : x.0 ≡ y.0 = omega arith in
    ap Named (names_same names u v y.0 (x.1 ∙ ap (λ (k : ℕ). Some k) same) y.1)

-- ---- many

first_word : {x y : Option ℕ} {xs ys : List (Option ℕ)} → x ∷ xs ≡ y ∷ ys → x ≡ y
first_word e = cc

other_words : {x y : Option ℕ} {xs ys : List (Option ℕ)} → x ∷ xs ≡ y ∷ ys → xs ≡ ys
other_words e = cc

marks_same : (names : List (List ℕ)) (m n : List Mark) (ws : List ℕ) → map (word_of names) m ≡ map Some ws → map (word_of names) n ≡ map Some ws → m ≡ n
marks_same names [] [] ws e f = refl
marks_same names [] (y ∷ n) [] e f = absurd cc
marks_same names [] (y ∷ n) (w ∷ ws) e f = absurd cc
marks_same names (x ∷ m) [] [] e f = absurd cc
marks_same names (x ∷ m) [] (w ∷ ws) e f = absurd cc
marks_same names (x ∷ m) (y ∷ n) [] e f = absurd cc
marks_same names (x ∷ m) (y ∷ n) (w ∷ ws) e f =
    let first = mark_same names x y w (first_word e) (first_word f) in
    let rest = marks_same names m n ws (other_words e) (other_words f) in
    λ i. first i ∷ rest i

-- a number has at least one byte
front_none : (xs ys : List ℕ) → xs ++ ys ≡ [] → xs ≡ []
front_none [] ys e = refl
front_none (x ∷ xs) ys e = absurd cc

pub some_byte : (n : ℕ) (rest : List ℕ) → number n ++ rest ≡ [] → ⊥
some_byte n rest e =
    let none = front_none (number n) rest e in
    let whole : number n ++ number (suc n) ≡ number (suc n) ++ [] = ap (λ (x : List ℕ). x ++ number (suc n)) none ∙ sym (append-nil (number (suc n))) in
    let c = number_code n (suc n) (number (suc n)) [] whole in
    let same = c.0 in
    omega arith

-- a number has at least one byte, so equal bytes spell equal numbers
words_same : (v w : List ℕ) → flat_map number v ≡ flat_map number w → v ≡ w
words_same [] [] e = refl
words_same [] (y ∷ w) e = absurd (nothing y (flat_map number w) e) where
  nothing : (n : ℕ) (rest : List ℕ) → [] ≡ number n ++ rest → ⊥
  nothing n rest h = some_byte n rest (sym h)
words_same (x ∷ v) [] e = absurd (some_byte x (flat_map number v) e)
words_same (x ∷ v) (y ∷ w) e =
    let c = number_code x y (flat_map number v) (flat_map number w) e in
    let rest = words_same v w c.1 in
    λ i. c.0 i ∷ rest i

told_marks : (names : List (List ℕ)) (m n : List Mark) (v w : List ℕ) → Tells names m v → Tells names n w → v ≡ w → m ≡ n
told_marks names m n v w x y e =
    let same = words_same x.words y.words (sym x.spelled ∙ e ∙ y.spelled) in
    marks_same names m n y.words (x.are ∙ ap (λ (ws : List ℕ). map Some ws) same) y.are

words_once : (v w : List ℕ) → map Some v ≡ map Some w → v ≡ w
words_once [] [] e = refl
words_once [] (y ∷ w) e = absurd cc
words_once (x ∷ v) [] e = absurd cc
words_once (x ∷ v) (y ∷ w) e =
    let first = some_same (first_word e) in
    let rest = words_once v w (other_words e) in
    λ i. first i ∷ rest i

told_once : (names : List (List ℕ)) (m n : List Mark) (v w : List ℕ) → Tells names m v → Tells names n w → m ≡ n → v ≡ w
told_once names m n v w x y e =
    let same = words_once x.words y.words (sym x.are ∙ ap (λ (k : List Mark). map (word_of names) k) e ∙ y.are) in
    x.spelled ∙ ap (λ (ws : List ℕ). flat_map number ws) same ∙ sym y.spelled

pub word_law : (names : List (List ℕ)) (a b : Top) (v w : List ℕ) → Tells names (marks_of a) v → Tells names (marks_of b) w → (v ≡ w) ↔ SameBare a b
word_law names a b v w x y = (
  (λ e. marks_bare a b (told_marks names (marks_of a) (marks_of b) v w x y e)),
  (λ h. told_once names (marks_of a) (marks_of b) v w x y (bare_marks a b h)),
)
