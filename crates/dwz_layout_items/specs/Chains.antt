-- What is written of a partial unit: the tops that stand in no space, and chains of spaces with the tops that stand in them.
use Rattle.std.specs.Prelude.{◌≡◌, ℕ, suc, ◌+◌, ◌<◌, ◌≤◌, Some, List, [], ◌∷◌, ◌++◌, ◌==◌, filter, length, map, not, slice_get, slice_index}
use Rattle.std.specs.Prelude.{slice_index_or}
use Rattle.dwz_def_reading.specs.Documents.{entries_map, node_map}
use Rattle.dwz_def_reading.specs.Lists.{In}
use Rattle.dwz_def_tops.specs.Spots.{EntryName, SpaceName, Top}
use Rattle.dwz_def_images.specs.Moves.{Move, image_in}
use Rattle.dwz_def_images.specs.Plan.{in_root, same_names, space_entry}
use Rattle.dwz_def_images.specs.Units.{partial_root}
use Rattle.dwz_layout_items.specs.declared.partial.SpaceRow.{SpaceRow}
use Rattle.dwz_layout_items.specs.declared.partial.TopSpaces.{TopSpaces}
use Rattle.dwz_layout_items.specs.Lines.{Line, line, lines}
use Rattle.dwz_layout_items.specs.Order.{Names}

-- ---- lines

unfoldable pub tops_lines : {K : Type 0} → Names K → ℕ → List ℕ → List (Line K)
tops_lines n depth [] = []
tops_lines n depth (t ∷ tops) = line depth (n.top t) ∷ lines (suc depth) (n.below t) ++ tops_lines n depth tops

-- spaces one in the other, the first of which stands in so many
unfoldable pub path_lines : {K : Type 0} → Names K → (chain : ℕ) → ℕ → List ℕ → List (Line K)
path_lines n chain depth [] = []
path_lines n chain depth (s ∷ spaces) = line (2 + depth) (n.in_chain chain depth s) ∷ path_lines n chain (suc depth) spaces

-- spaces one in the other, and tops in the innermost
abbrev pub chain_lines : {K : Type 0} → Names K → (chain : ℕ) → (path tops : List ℕ) → List (Line K)
chain_lines n chain path tops = path_lines n chain 0 path ++ tops_lines n (2 + length path) tops

-- ---- chains: the tops of each name list, where these lists have numbers

-- the first top of each list
unfoldable pub firsts_by : (ℕ → ℕ) → List ℕ → List ℕ
firsts_by l [] = []
firsts_by l (t ∷ tops) = t ∷ filter (λ u. not (l t == l u)) (firsts_by l tops)

unfoldable pub chains_by : (ℕ → ℕ) → List ℕ → List (List ℕ)
chains_by l tops = map (λ t. filter (λ u. l t == l u) tops) (firsts_by l tops)

-- chains with their tops, each under the spaces of its first top
unfoldable pub chains_lines : {K : Type 0} → Names K → (path : ℕ → List ℕ) → (chain : ℕ) → List (List ℕ) → List (Line K)
chains_lines n path chain [] = []
chains_lines n path chain (tops ∷ chains) = chain_lines n chain (path (slice_index tops 0)) tops ++ chains_lines n path (suc chain) chains

-- the tops with these numbers, where the number of a name list is 0 where there are no spaces
abbrev pub partial_lines : {K : Type 0} → Names K → (path : ℕ → List ℕ) → (l : ℕ → ℕ) → List ℕ → List (Line K)
partial_lines n path l tops = line 1 n.root ∷ tops_lines n 2 (filter (λ t. l t == 0) tops)
    ++ chains_lines n path 0 (chains_by l (filter (λ t. not (l t == 0)) tops))

-- ---- the spaces of tops, by rows

abbrev pub no_spaces : TopSpaces
no_spaces = record { inner = 0; names = 0 }

abbrev pub names_at : List TopSpaces → ℕ → ℕ
names_at of_tops t = let x = slice_index_or of_tops t no_spaces in x.names

abbrev pub inner_at : List TopSpaces → ℕ → ℕ
inner_at of_tops t = let x = slice_index_or of_tops t no_spaces in x.inner

-- from the space whose row is the one before that number, up to a space in a root
abbrev pub Up : List SpaceRow → ℕ → List ℕ → Type 0
Up rows k [] = k ≡ 0
Up rows k (s ∷ spaces) = (j : ℕ) × (row : SpaceRow) × (k ≡ suc j) × (slice_get rows j ≡ Some row) × (row.space ≡ s)
    × Up rows row.outer spaces

-- the same from a root down
unfoldable pub down : List ℕ → List ℕ
down [] = []
down (s ∷ spaces) = down spaces ++ s ∷ []

-- a space stands behind the one that it stands in
abbrev pub IsRising : List SpaceRow → Type 0
IsRising rows = (k : ℕ) (row : SpaceRow) → slice_get rows k ≡ Some row → row.outer ≤ k

-- a chain has a first top, which is one of those whose spaces are known
pub record IsChain (of_tops : List TopSpaces) (tops : List ℕ) : Type 0 where
  pub some : 0 < length tops
  pub inside : slice_index tops 0 < length of_tops

-- the spaces of the first top of each chain
abbrev pub AreUp : List SpaceRow → List TopSpaces → (ups : ℕ → List ℕ) → List (List ℕ) → Type 0
AreUp rows of_tops ups chains = (tops : List ℕ) → In tops chains
    → Up rows (inner_at of_tops (slice_index tops 0)) (ups (slice_index tops 0))

-- ---- what numbers stand for in the partial unit with that number

pub record NamesPartial (m : Move) (k : ℕ) (said : ℕ → SpaceName) (n : Names EntryName) : Type 0 where
  pub root : n.root ≡ partial_root m k
  pub in_chain : (chain depth space : ℕ) → n.in_chain chain depth space ≡ node_map (image_in m) (space_entry k chain depth (said space))

-- tops by their numbers, with what is below them; the spaces that each stands in, from the outermost one; and of which there are
-- none where the number of its name list is 0
pub record ShowsSpaced (f : EntryName → EntryName) (said : ℕ → SpaceName) (n : Names EntryName) (path : ℕ → List ℕ) (l : ℕ
    → ℕ) (tops : List Top) : Type
    0 where
  pub node : (t : Top) → In t tops → n.top t.number ≡ node_map f t.node
  pub below : (t : Top) → In t tops → n.below t.number ≡ entries_map f t.below
  pub spaces : (t : Top) → In t tops → t.spaces ≡ map said (path t.number)
  pub root : (t : Top) → In t tops → in_root t ≡ (l t.number == 0)
  pub same : (t u : Top) → In t tops → In u tops → same_names t u ≡ (l t.number == l u.number)
