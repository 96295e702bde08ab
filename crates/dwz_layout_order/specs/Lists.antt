-- The spaces of all files by rows, and the numbers of their name lists.
use Rattle.std.specs.Prelude.{◌≡◌, ◌↔◌, ℕ, zero, suc, ◌<◌, List, [], ◌∷◌, Option, Some, None, length, map, slice_index}
use Rattle.std.specs.List.{flat_map}
use Rattle.std.specs.Ordering.{nat_cmp}
use Rattle.std.specs.BTreeMap.{BTreeMap, get}
use Rattle.dwz_graph.specs.declared.index.SpaceEntry.{SpaceEntry}
use Rattle.dwz_graph.specs.declared.index.TopEntry.{TopEntry}
use Rattle.dwz_graph.specs.Index.{Index}
use Rattle.dwz_layout_items.specs.declared.partial.SpaceRow.{SpaceRow}
use Rattle.dwz_layout_items.specs.declared.partial.TopSpaces.{TopSpaces}

-- ---- rows

abbrev pub all_spaces : List Index → List SpaceEntry
all_spaces indexes = flat_map (λ x. x.spaces) indexes

abbrev pub all_tops : List Index → List TopEntry
all_tops indexes = flat_map (λ x. x.tops) indexes

abbrev pub row_from : ℕ → SpaceEntry → SpaceRow
row_from n x = record { space = n; outer = x.outer }

-- the first has that number
unfoldable pub rows_from : ℕ → List SpaceEntry → List SpaceRow
rows_from n [] = []
rows_from n (x ∷ spaces) = row_from n x ∷ rows_from (suc n) spaces

-- ---- numbers of name lists

-- the number of the name list of the space before that number, and 0 of none
abbrev pub list_above : List ℕ → ℕ → ℕ
list_above lists zero = 0
list_above lists (suc k) = slice_index lists k

abbrev pub outer_at : List SpaceRow → ℕ → ℕ
outer_at rows k = slice_index (map (λ x. x.outer) rows) k

-- two spaces stand in spaces with one name list, and have one text
pub record SameList (rows : List SpaceRow) (texts lists : List ℕ) (j k : ℕ) : Type 0 where
  pub outer : list_above lists (outer_at rows j) ≡ list_above lists (outer_at rows k)
  pub text : slice_index texts j ≡ slice_index texts k

-- such spaces alone have one number, which isn't 0
pub record AreLists (rows : List SpaceRow) (texts lists : List ℕ) : Type 0 where
  pub len : length lists ≡ length rows
  pub some : (k : ℕ) → k < length rows → 0 < slice_index lists k
  pub same : (j k : ℕ) → j < length rows → k < length rows → (slice_index lists j ≡ slice_index lists k) ↔ SameList rows texts lists j k

-- the number is the one under the key, and else the new one, which is then under it
abbrev pub IsNumberBy : Option ℕ → ℕ → ℕ → Type 0
IsNumberBy None new number = number ≡ new
IsNumberBy (Some n) new number = number ≡ n

abbrev pub Numbers : Type 0
Numbers = BTreeMap ℕ ℕ

pub record IsNumberUnder (old new : Numbers) (key fresh number : ℕ) : Type 0 where
  pub is : IsNumberBy (get nat_cmp old key) fresh number
  pub under : get nat_cmp new key ≡ Some number
  pub others : (k : ℕ) → (k ≡ key → ⊥) → get nat_cmp new k ≡ get nat_cmp old k

-- ---- the spaces of tops

abbrev pub spaces_at : List ℕ → TopEntry → TopSpaces
spaces_at lists x = record { inner = x.inner; names = list_above lists x.inner }
