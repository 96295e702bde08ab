-- The numbers of partial units under those of their files, one by one.
use Rattle.std.proofs.Common.{◌≡◌, ℕ, zero, suc, ◌+◌, ◌<◌, ◌≤◌, List, [], ◌∷◌, ◌++◌, length, take, get_or, sym, ap, ◌∙◌, arith}
use Rattle.std.proofs.lemmas.List.{length-take, take_more}
use Rattle.dwz_groups.specs.declared.groups.Edge.{Edge}
use Rattle.dwz_plan.specs.declared.plan.Partial.{Partial}
use Rattle.dwz_layout_order.specs.Parts.{file_pair, file_pairs}

pairs_append : (n : ℕ) (xs : List Partial) (x : Partial) → file_pairs n (xs ++ x ∷ []) ≡ file_pairs n xs ++ file_pair (n + length xs) x ∷ []
unfolding file_pairs
pairs_append n [] x = (let e : n ≡ n + 0 = omega arith in ap (λ (k : ℕ). file_pair k x ∷ []) e)
pairs_append n (y ∷ xs) x =
    let e : suc n + length xs ≡ n + suc (length xs) = omega arith in
    ap (λ (w : List Edge). file_pair n y ∷ w) (pairs_append (suc n) xs x ∙ ap (λ (k : ℕ). file_pairs (suc n) xs ++ file_pair k x ∷ []) e)

pub pairs_more : (parts : List Partial) (n : ℕ) (x : Partial) → n < length parts → x ≡ get_or parts n x → file_pairs 0 (take (n + 1) parts) ≡ file_pairs 0 (take n parts) ++ file_pair n x ∷ []
pairs_more parts n x lt is =
    let taken = length-take n parts in
    let count : 0 + length (take n parts) ≡ n = omega arith in
    ap (file_pairs 0) (take_more parts n x lt ∙ (λ j. take n parts ++ sym is j ∷ [])) ∙ pairs_append 0 (take n parts) x ∙ ap (λ (k : ℕ). file_pairs 0 (take n parts) ++ file_pair k x ∷ []) count

-- each is under a number up to that one
abbrev pub Low : ℕ → List Edge → Type 0
Low files pairs = (k : ℕ) (d : Edge) → k < length pairs → (get_or pairs k d).key < files + 1

pub pairs_low : (files n : ℕ) (parts : List Partial) → ((k : ℕ) (d : Partial) → k < length parts → (get_or parts k d).file ≤ files) → Low files (file_pairs n parts)
unfolding file_pairs
pairs_low files n [] h k d lt = absurd (omega arith)
pairs_low files n (x ∷ parts) h zero d lt = (let low = h 0 x (omega arith) in omega arith)
pairs_low files n (x ∷ parts) h (suc k) d lt = pairs_low files (suc n) parts (λ j e less. h (suc j) e (omega arith)) k d (omega arith)
