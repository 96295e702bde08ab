-- The contents of files, of which some are read.
use Rattle.std.proofs.Common.{◌≡◌, ℕ, suc, ◌+◌, ◌<◌, ◌++◌, ◌∷◌, [], List, length, map, take, drop, get_or, Vec, Global, sym, ap, ◌∙◌, arith, drop-cons}
use Rattle.std.proofs.Math.Seq.{take-suc}
use Rattle.std.proofs.lemmas.List.{map-append, take-append-drop}

abbrev pub Content : Type 0
Content = Vec ℕ Global

abbrev pub content : Content → List ℕ
content v = v.items

pub one_more : (xs : List Content) (i : ℕ) (x : Content) → i < length xs → x ≡ get_or xs i x → map content (take (i + 1) xs) ≡ map content (take i xs) ++ content x ∷ []
one_more xs i x l e =
    let one : i + 1 ≡ suc i = omega arith in
    ap (λ (n : ℕ). map content (take n xs)) one ∙ ap (map content) (take-suc xs i x l) ∙ map-append content (take i xs) (get_or xs i x ∷ [])
    ∙ ap (λ (w : Content). map content (take i xs) ++ content w ∷ []) (sym e)

pub parted : (xs : List Content) (i : ℕ) (x : Content) → i < length xs → x ≡ get_or xs i x → map content xs ≡ map content (take i xs) ++ content x ∷ map content (drop (suc i) xs)
parted xs i x l e =
    ap (map content) (sym (take-append-drop i xs)) ∙ map-append content (take i xs) (drop i xs) ∙ ap (λ (w : List Content). map content (take i xs) ++ map content w) (drop-cons xs i x l)
    ∙ ap (λ (w : Content). map content (take i xs) ++ content w ∷ map content (drop (suc i) xs)) (sym e)
