-- Units of several files one behind the other, and how many tops they have.
use Rattle.std.proofs.Common.{◌≡◌, ℕ, suc, ◌+◌, ◌⊎◌, List, [], ◌∷◌, ◌++◌, length, map, refl, ap, subst, ◌∙◌, arith, inl, inr}
use Rattle.std.proofs.lemmas.List.{length-append}
use Rattle.dwz_def_reading.specs.Documents.{DwUnit}
use Rattle.dwz_def_tops.specs.Lists.{Nth}
use Rattle.dwz_def_tops.specs.Spots.{EntryName, FileUnit, in_file, named_in, row_below, row_tops, spot_in, top_count, tops_among, tops_from}
use Rattle.dwz_def_tops.proofs.NameLists.{count_map}
use Rattle.dwz_def_tops.proofs.TopNumbers.{below_length}
use Rattle.std.proofs.Common.{sym}
use Rattle.std.proofs.Common.{append_assoc}
use Rattle.dwz_def_tops.specs.Spots.{Top}

pub nth_cases : {X : Type 0} (s : ℕ) (xs ys : List X) (i : ℕ) (x : X) → Nth s (xs ++ ys) i x → Nth s xs i x ⊎ Nth (s + length xs) ys i x
nth_cases s [] ys i x h = (let e : s + 0 ≡ s = omega arith in inr (rw e h))
nth_cases s (y ∷ xs) ys i x (inl e) = inl (inl e)
nth_cases {X} s (y ∷ xs) ys i x (inr r) = elim (nth_cases (suc s) xs ys i x r) [
  | inl a ↦ inl (inr a)
  | inr b ↦ (let e : suc s + length xs ≡ s + suc (length xs) = omega arith in inr (subst (λ (w : ℕ). Nth w ys i x) e b))
]

-- how many tops units have
unfoldable pub counted : List (FileUnit EntryName) → ℕ
counted [] = 0
counted (f ∷ units) = top_count f.unit.kind f.unit.below + counted units

pub filed_length : (spots : List (ℕ × EntryName)) (file : ℕ) (units : List (DwUnit ℕ)) → length (map (in_file file) (named_in spots units)) ≡ length units
filed_length spots file [] = refl
filed_length spots file (u ∷ units) = ap (λ (n : ℕ). suc n) (filed_length spots file units)

pub filed_count : (spots : List (ℕ × EntryName)) (file : ℕ) (units : List (DwUnit ℕ)) → counted (map (in_file file) (named_in spots units)) ≡ tops_among units
unfolding counted tops_among
filed_count spots file [] = refl
filed_count spots file (u ∷ units) = rw (count_map (spot_in spots) u.kind u.below, filed_count spots file units) refl

pub tops_length : (s n : ℕ) (xs : List (FileUnit EntryName)) → length (tops_from s n xs) ≡ counted xs
unfolding tops_from counted
tops_length s n [] = refl
tops_length s n (f ∷ xs) =
    let count = top_count f.unit.kind f.unit.below in
    let first = row_tops (row_below f.file s n f.unit f.unit.kind) in
    length-append first (tops_from (suc s) (n + count) xs) ∙ (λ i. below_length f.file s n f.unit f.unit.kind i + tops_length (suc s) (n + count) xs i)

pub tops_append : (s n : ℕ) (xs ys : List (FileUnit EntryName)) → tops_from s n (xs ++ ys) ≡ tops_from s n xs ++ tops_from (s + length xs) (n + counted xs) ys
unfolding tops_from counted
tops_append s n [] ys = (let e : s + 0 ≡ s = omega arith in let k : n + 0 ≡ n = omega arith in rw (e, k) refl)
tops_append s n (f ∷ xs) ys =
    let count = top_count f.unit.kind f.unit.below in
    let first = row_tops (row_below f.file s n f.unit f.unit.kind) in
    let e : suc s + length xs ≡ s + suc (length xs) = omega arith in
    let k : n + count + counted xs ≡ n + (count + counted xs) = omega arith in
    ap (λ (w : List Top). first ++ w) (tops_append (suc s) (n + count) xs ys)
    ∙ sym (append_assoc first (tops_from (suc s) (n + count) xs) (tops_from (suc s + length xs) (n + count + counted xs) ys))
    ∙ ap (λ (w : ℕ). (first ++ tops_from (suc s) (n + count) xs) ++ tops_from w (n + count + counted xs) ys) e
    ∙ ap (λ (w : ℕ). (first ++ tops_from (suc s) (n + count) xs) ++ tops_from (s + suc (length xs)) w ys) k
