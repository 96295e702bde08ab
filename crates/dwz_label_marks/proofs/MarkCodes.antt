-- Lists of marks that end by themselves: where two of them begin with equal marks, they tell the same, and what follows is equal.
use Rattle.std.proofs.Common.{◌≡◌, ℕ, List, [], ◌∷◌, ◌++◌, length, map, refl, sym, ◌∙◌, arith}
use Rattle.std.specs.List.{flat_map}
use Rattle.std.proofs.lemmas.List.{append_assoc}
use Rattle.dwz_label.proofs.Codes.{Lists}
use Rattle.dwz_label_marks.specs.Marks.{Mark, Named, Plainly}

-- what is told is related by R, and what follows is equal
abbrev pub MarksOf : {X : Type 0} → (X → X → Type 0) → (X → List Mark) → Type 0
MarksOf {X} R tell = (x y : X) (r s : List Mark) → tell x ++ r ≡ tell y ++ s → R x y × (r ≡ s)

pub first_mark : {x y : Mark} {xs ys : List Mark} → x ∷ xs ≡ y ∷ ys → x ≡ y
first_mark e = cc

pub other_marks : {x y : Mark} {xs ys : List Mark} → x ∷ xs ≡ y ∷ ys → xs ≡ ys
other_marks e = cc

pub same_plainly : {m n : ℕ} → Plainly m ≡ Plainly n → m ≡ n
same_plainly e = cc

pub same_named : {v w : List ℕ} → Named v ≡ Named w → v ≡ w
same_named e = cc

-- the numbers of a path
pub path_marks : (p q : List ℕ) (r s : List Mark) → length p ≡ length q → map Plainly p ++ r ≡ map Plainly q ++ s → (p ≡ q) × (r ≡ s)
path_marks [] [] r s l e = (refl, e)
path_marks [] (y ∷ q) r s l e = absurd (omega arith)
path_marks (x ∷ p) [] r s l e = absurd (omega arith)
path_marks (x ∷ p) (y ∷ q) r s l e =
    let first = same_plainly (first_mark e) in
    let rest = path_marks p q r s (omega arith) (other_marks e) in
    ((λ i. first i ∷ rest.0 i), rest.1)

-- equally many, one behind the other
pub each_marks : {X : Type 0} (R : X → X → Type 0) (L : List X → List X → Type 0) (tell : X → List Mark) → Lists R L → MarksOf R tell
    → (xs ys : List X) (r s : List Mark) → length xs ≡ length ys → flat_map tell xs ++ r ≡ flat_map tell ys ++ s → L xs ys × (r ≡ s)
each_marks R L tell lists code [] [] r s l e = (lists.none, e)
each_marks R L tell lists code [] (y ∷ ys) r s l e = absurd (omega arith)
each_marks R L tell lists code (x ∷ xs) [] r s l e = absurd (omega arith)
each_marks R L tell lists code (x ∷ xs) (y ∷ ys) r s l e =
    let joined = sym (append_assoc (tell x) (flat_map tell xs) r) ∙ e ∙ append_assoc (tell y) (flat_map tell ys) s in
    let first = code x y (flat_map tell xs ++ r) (flat_map tell ys ++ s) joined in
    let rest = each_marks R L tell lists code xs ys r s (omega arith) first.1 in
    (lists.more x y xs ys first.0 rest.0, rest.1)
