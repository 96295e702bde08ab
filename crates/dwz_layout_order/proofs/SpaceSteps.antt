-- The spaces of files, one file after the other.
use Rattle.std.proofs.Common.{◌≡◌, ℕ, ◌+◌, ◌<◌, ◌≤◌, List, [], ◌∷◌, ◌++◌, length, take, drop, get_or, sym, ap, ◌∙◌, arith}
use Rattle.std.proofs.lemmas.List.{append-nil, length-append, take-append-drop, take_more}
use Rattle.std.proofs.lemmas.List.Concat.{flat_map-append, flat_map-cons}
use Rattle.dwz_graph.specs.declared.index.SpaceEntry.{SpaceEntry}
use Rattle.dwz_graph.specs.Index.{Index}
use Rattle.dwz_layout_order.specs.Lists.{all_spaces}

abbrev spaces_in : Index → List SpaceEntry
spaces_in x = x.spaces

pub spaces_more : (xs : List Index) (i : ℕ) (x : Index) → i < length xs → x ≡ get_or xs i x → all_spaces (take (i + 1) xs) ≡ all_spaces (take i xs) ++ x.spaces
spaces_more xs i x lt is =
    let one : take (i + 1) xs ≡ take i xs ++ x ∷ [] = take_more xs i x lt ∙ (λ j. take i xs ++ sym is j ∷ []) in
    ap all_spaces one ∙ flat_map-append spaces_in (take i xs) (x ∷ []) ∙ ap (λ (w : List SpaceEntry). all_spaces (take i xs) ++ w) (flat_map-cons spaces_in x [] ∙ append-nil x.spaces)

pub spaces_few : (xs : List Index) (i : ℕ) → length (all_spaces (take i xs)) ≤ length (all_spaces xs)
spaces_few xs i =
    let all = ap (λ (w : List Index). length (all_spaces w)) (take-append-drop i xs) in
    let parts = ap (λ (w : List SpaceEntry). length w) (flat_map-append spaces_in (take i xs) (drop i xs)) in
    let sum = length-append (all_spaces (take i xs)) (all_spaces (drop i xs)) in
    omega arith
