-- Keys that are written one after the other.
use Rattle.std.proofs.Common.{◌≡◌, ℕ, ◌+◌, ◌<◌, List, [], ◌∷◌, ◌++◌, length, sym, ap, ◌∙◌, arith}
use Rattle.std.specs.Prelude.{slice_index}
use Rattle.std.proofs.Math.ListN.{get_or-append}
use Rattle.std.proofs.Math.Seq.{get_or-append_seam}
use mathlib.Core.Logic.{dite}
use native.Mathlib.Decide.{ℕ_discrete}
use Rattle.dwz_nodes.specs.Keys.{key_at}

-- the key of one more node
pub keys-more : (key : ℕ → List ℕ) (visit : List ℕ) (keys after : List (List ℕ)) (n : ℕ) → length keys ≡ n → after ≡ keys ++ key (slice_index visit n) ∷ []
    → ((i : ℕ) → i < n → key_at keys i ≡ key (slice_index visit i)) → (i : ℕ) → i < n + 1 → key_at after i ≡ key (slice_index visit i)
keys-more key visit keys after n len is each i l =
    let new : List ℕ = key (slice_index visit n) in
    ap (λ (k : List (List ℕ)). key_at k i) is ∙ dite (ℕ_discrete i n)
    (λ e. ap (λ (k : ℕ). key_at (keys ++ new ∷ []) k) (e ∙ sym len) ∙ (get_or-append_seam keys new [] [] ∙ ap (λ (k : ℕ). key (slice_index visit k)) (sym e)))
    (λ ne. get_or-append keys (new ∷ []) [] i (omega arith) ∙ each i (omega arith))
