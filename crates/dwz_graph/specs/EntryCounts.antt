-- Entries counted over all files.
use Rattle.std.specs.Prelude.{ℕ, ◌+◌, List, [], ◌∷◌, ◌++◌, length, map}
use Rattle.dwz_graph.specs.declared.index.TopEntry.{TopEntry}
use Rattle.dwz_graph.specs.Index.{Index}

unfoldable pub entry_count : List Index → ℕ
entry_count [] = 0
entry_count (x ∷ indexes) = length x.steps + entry_count indexes

-- the numbers of the first entries of files
unfoldable pub starts_from : ℕ → List Index → List ℕ
starts_from n [] = []
starts_from n (x ∷ indexes) = n ∷ starts_from (n + length x.steps) indexes

-- the numbers of the entries that are tops
abbrev pub tops_in : ℕ → List TopEntry → List ℕ
tops_in n tops = map (λ t. n + t.entry) tops

unfoldable pub tops_from : ℕ → List Index → List ℕ
tops_from n [] = []
tops_from n (x ∷ indexes) = tops_in n x.tops ++ tops_from (n + length x.steps) indexes
