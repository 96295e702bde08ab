-- Inner: what stands as children, one after the other (DWARF 5, 2.3): of a root that is kept and of the spaces in it, and of the root of a
-- partial unit and the spaces in it. The functions of Plan give just these rows.
use Rattle.std.specs.Prelude.{◌⊎◌, ◌≡◌, ◌≢◌, ℕ, suc, Bool, true, false, List, [], ◌∷◌}
use Rattle.dwz_def_reading.specs.Documents.{Node}
use Rattle.dwz_def_reading.specs.Lists.{In}
use Rattle.dwz_def_tops.specs.Spots.{ASpace, ATop, EntryName, Nothing, Row, SpaceName, Top, name_list}
use Rattle.dwz_def_plan.specs.IsPlan.{Item, OfSpace, OfTop, Remains}
use Rattle.dwz_def_plan.specs.Plan.{Pinned, beside, space_entry}

-- ---- children of a root or of a space that is kept

-- it stands in the row or in a space of it
abbrev pub IsInRow : Item → Row → Type 0
IsInRow x Nothing = ⊥
IsInRow x (ATop t next) = (OfTop t ≡ x) ⊎ IsInRow x next
IsInRow x (ASpace e inner next) = (OfSpace e ≡ x) ⊎ (IsInRow x inner ⊎ IsInRow x next)

-- a ULEB128 operand names it, or an entry of it
abbrev pub IsPinned : Pinned → Item → Type 0
IsPinned p (OfTop t) = p.top t.number ≡ true
IsPinned p (OfSpace e) = p.space e.at ≡ true

-- the space is pinned, or something in it that stays
abbrev pub HoldsPinned : Pinned → (ℕ → Bool) → Node EntryName → Row → Type 0
HoldsPinned p gone e inner = IsPinned p (OfSpace e) ⊎ ((x : Item) × IsInRow x inner × Remains gone x × IsPinned p x)

-- the child stands at the front of the first ones, where IsFirst holds, and else of the others; behind it and beside it stands the rest
abbrev pub FirstOrOther : Type 0 → (Row → Row) → (Row → Row → Type 0) → Row → Row → Type 0
FirstOrOther IsFirst child Rest first others =
    (IsFirst × ((next : Row) × (first ≡ child next) × Rest next others))
    ⊎ ((IsFirst → ⊥) × ((next : Row) × (others ≡ child next) × Rest first next))

-- The children that stay of those in a row, in two rows, both in the old order: the first ones, which are pinned or hold something that
-- is, and the others. Each space stays, with its own children that stay: first ones, and then others.
abbrev pub Parted : Pinned → (ℕ → Bool) → Row → Row → Row → Type 0
Parted p gone Nothing first others = (first ≡ Nothing) × (others ≡ Nothing)
Parted p gone (ATop t next) first others =
    ((gone t.number ≡ true) × Parted p gone next first others)
    ⊎ ((gone t.number ≡ false) × FirstOrOther (IsPinned p (OfTop t)) (ATop t) (Parted p gone next) first others)
Parted p gone (ASpace e inner next) first others =
    (a : Row) × (b : Row) × Parted p gone inner a b
    × FirstOrOther (HoldsPinned p gone e inner) (ASpace e (beside a b)) (Parted p gone next) first others

-- what is kept of a row: the first ones, and then the others
pub record IsKeptRow (p : Pinned) (gone : ℕ → Bool) (row kept : Row) : Type 0 where
  pub first : Row
  pub others : Row
  pub parted : Parted p gone row first others
  pub kept_is : kept ≡ beside first others

-- ---- children of the root of a partial unit, and of the spaces in it

-- those of the tops that P holds of, one after the other and in order, and then what is last
abbrev pub TopsThen : (Top → Type 0) → List Top → Row → Row → Type 0
TopsThen P [] last row = row ≡ last
TopsThen P (t ∷ tops) last row =
    (P t × ((next : Row) × (row ≡ ATop t next) × TopsThen P tops last next)) ⊎ ((P t → ⊥) × TopsThen P tops last row)

-- spaces with these names, each the only child of the one before, and in the innermost one the inner row
abbrev pub IsSpaceChain : ℕ → ℕ → ℕ → List SpaceName → Row → Row → Type 0
IsSpaceChain part chain depth [] inner row = row ≡ inner
IsSpaceChain part chain depth (s ∷ spaces) inner row =
    (below : Row) × (row ≡ ASpace (space_entry part chain depth s) below Nothing) × IsSpaceChain part chain (suc depth) spaces inner below

-- a top that stands in a space, and whose name list none of the earlier tops has
abbrev pub BeginsChain : List Top → Top → Type 0
BeginsChain earlier t = (name_list t ≢ []) × ((u : Top) → In u earlier → name_list u ≢ name_list t)

-- For each name list but the empty one, in the order of the first tops that have it, one chain of spaces with the names of this first
-- top: in it stand all tops that have the list, in order. The tops that are left are looked through; the earlier ones were; the next
-- chain has that number.
abbrev pub AreChains : ℕ → List Top → ℕ → List Top → List Top → Row → Type 0
AreChains part all chain earlier [] row = row ≡ Nothing
AreChains part all chain earlier (t ∷ left) row =
    (BeginsChain earlier t
    × ((inner : Row) × (first : Row) × (others : Row) × TopsThen (λ u. name_list u ≡ name_list t) all Nothing inner
    × IsSpaceChain part chain 0 t.spaces inner first × AreChains part all (suc chain) (t ∷ earlier) left others × (row ≡ beside first others)))
    ⊎ ((BeginsChain earlier t → ⊥) × AreChains part all chain (t ∷ earlier) left row)

-- what a partial unit holds: the tops whose name list is empty, and then the chains for the other lists
pub record IsPartRow (part : ℕ) (tops : List Top) (row : Row) : Type 0 where
  pub chains : Row
  pub roots : TopsThen (λ t. name_list t ≡ []) tops chains row
  pub are_chains : AreChains part tops 0 [] tops chains
