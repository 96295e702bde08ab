-- The hash of words goes on word by word.
use Rattle.std.proofs.Common.{◌≡◌, ℕ, List, [], ◌∷◌, ◌++◌}
use Rattle.std.proofs.lemmas.Grind.{fold-append}
use Rattle.dwz_nodes.specs.Keys.{mixed, words_hash}

pub words_hash-push : (words : List ℕ) (w : ℕ) → words_hash (words ++ w ∷ []) ≡ mixed (words_hash words) w
words_hash-push words w = fold-append mixed 14695981039346656037 words (w ∷ [])
