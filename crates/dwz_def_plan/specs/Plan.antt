-- The partial units, what is kept, images and imports.
use Rattle.std.specs.Prelude.{ℕ, suc, Bool, true, false, List, [], ◌∷◌, ◌++◌, map, ◌==◌, ◌&&◌, ◌||◌, not, pos}
use Rattle.std.specs.List.{filter, list_any}
use Rattle.dwz_def_reading.specs.Documents.{Attr, Entries, Expr, Loc, Node, Operand, Part, Plain, Same, Text, only, ref}
use Rattle.dwz_def_reading.specs.Rows.{has}
use Rattle.dwz_def_reading.specs.Trees.{End, Entry}
use Rattle.dwz_def_tops.specs.Alike.{any_attr, any_entry, is_in}
unfoldable pub use Rattle.dwz_def_tops.specs.Alike.{joined_parts}
use Rattle.dwz_def_tops.specs.Deciding.{Test, same_bool, same_by}
use Rattle.dwz_def_tops.specs.Spots.{ASpace, ATop, EntryName, FileUnit, Import, InChain, Nothing, PartialRoot, Row, SpaceName, Top, Within}
use Rattle.dwz_def_tops.specs.Spots.{name_list, rows_of_root, same_numbers, same_spot, tops_of}
use Rattle.dwz_def_plan.specs.Homes.{Common, Home, Local, Rule, home, moves, rep, same_home, users}

-- ---- partial units

-- the home of a partial unit, its users, and its tops
pub record PartialUnit : Type 0 where
  pub home : Home
  pub users : List ℕ
  pub tops : List Top

-- each list once, where it first stands
unfoldable pub distinct : List (List ℕ) → List (List ℕ)
distinct [] = []
distinct (us ∷ others) = us ∷ filter (λ vs. not (same_numbers us vs)) (distinct others)

abbrev pub stands_for : Rule → List (FileUnit EntryName) → Home → Top → Bool
stands_for rule units h t = same_home (home rule units t.number) h && rep rule.alike units t.number == t.number

-- the tops with that home that stand for those alike to them
unfoldable pub representatives : Rule → List (FileUnit EntryName) → Home → List Top
representatives rule units h = filter (stands_for rule units h) (tops_of units)

abbrev pub users_of : Test → List (FileUnit EntryName) → Top → List ℕ
users_of alike units t = users alike units t.number

-- the partial unit of that home and these users holds the representatives with them
abbrev pub partial_with : Rule → List (FileUnit EntryName) → Home → List ℕ → PartialUnit
partial_with rule units h us =
    record { home = h; users = us; tops = filter (λ t. same_numbers (users_of rule.alike units t) us) (representatives rule units h) }

-- the partial units of a home, in the order of their first representatives
unfoldable pub partials_at : Rule → List (FileUnit EntryName) → Home → List PartialUnit
partials_at rule units h = map (partial_with rule units h) (distinct (map (users_of rule.alike units) (representatives rule units h)))

-- those of files, by their numbers
unfoldable pub local_partials : Rule → List (FileUnit EntryName) → List ℕ → List PartialUnit
local_partials rule units [] = []
local_partials rule units (file ∷ files) = partials_at rule units (Local file) ++ local_partials rule units files

-- those of the common file first, then those of each file
unfoldable pub partials : Rule → List (FileUnit EntryName) → List ℕ → List PartialUnit
partials rule units files = partials_at rule units Common ++ local_partials rule units files

-- ---- what stands in a partial unit: the tops that stand in no space, then for each other name list a chain of spaces

unfoldable pub top_row : List Top → Row → Row
top_row [] last = last
top_row (t ∷ tops) last = ATop t (top_row tops last)

unfoldable pub beside : Row → Row → Row
beside Nothing last = last
beside (ATop t next) last = ATop t (beside next last)
beside (ASpace e inner next) last = ASpace e inner (beside next last)

-- DW_TAG_namespace with DW_AT_name, in the form of the space that the name comes from until its form is chosen
abbrev pub space_entry : ℕ → ℕ → ℕ → SpaceName → Node EntryName
space_entry part chain depth s =
    record {
      at = InChain part chain depth;
      tag = 0x39;
      attrs =
          record { name = 0x03; form = s.form; raw = s.raw; value = only (Text s.text) } ∷ [];
    }

-- spaces one in the other
unfoldable pub chain_down : ℕ → ℕ → ℕ → List SpaceName → Row → Row
chain_down part chain depth [] inner = inner
chain_down part chain depth (s ∷ spaces) inner = ASpace (space_entry part chain depth s) (chain_down part chain (suc depth) spaces inner)
    Nothing

abbrev pub same_names : Top → Top → Bool
same_names t u = same_by same_numbers (name_list t) (name_list u)

-- the first top of each name list
unfoldable pub leading : List Top → List Top
leading [] = []
leading (t ∷ tops) = t ∷ filter (λ u. not (same_names t u)) (leading tops)

-- the chains of these first tops, each with all tops of its name list
unfoldable pub chains : ℕ → List Top → ℕ → List Top → Row
chains part tops chain [] = Nothing
chains part tops chain (t ∷ leads) = beside (chain_down part chain 0 t.spaces (top_row (filter (same_names t) tops) Nothing))
    (chains part tops (suc chain) leads)

abbrev pub none_of : List SpaceName → Bool
none_of [] = true
none_of (s ∷ spaces) = false

abbrev pub in_root : Top → Bool
in_root t = none_of t.spaces

abbrev pub part_row : ℕ → PartialUnit → Row
part_row n part = top_row (filter in_root part.tops) (chains n part.tops 0 (leading (filter (λ t. not (in_root t)) part.tops)))

-- ---- what is kept

-- the targets of the ULEB128 operands among parts, whose operands have these targets
unfoldable pub uleb_targets : List Part → List EntryName → List EntryName
uleb_targets [] refs = []
uleb_targets (Same bytes ∷ parts) refs = uleb_targets parts refs
uleb_targets (Operand width uleb base ∷ parts) [] = []
uleb_targets (Operand width uleb base ∷ parts) (r ∷ refs) = elim uleb as (λ _. List EntryName) [
  | true ↦ r ∷ uleb_targets parts refs
  | false ↦ uleb_targets parts refs
]

abbrev pub plain_parts : Plain → List Part
plain_parts (Expr parts) = parts
plain_parts (Loc exprs) = joined_parts exprs
plain_parts _ = []

abbrev pub pins : (EntryName → Bool) → Attr EntryName → Bool
pins test a = list_any test (uleb_targets (plain_parts a.value.plain) a.value.refs)

abbrev pub pinned_in : (EntryName → Bool) → FileUnit EntryName → Bool
pinned_in test f = any_attr (pins test) f.unit.root || any_entry (any_attr (pins test)) f.unit.below

-- a ULEB128 operand anywhere names an entry of the top
unfoldable pub is_pinned : List (FileUnit EntryName) → ℕ → Bool
is_pinned units n = list_any (pinned_in (is_in n)) units

-- it names the entry with this name
unfoldable pub is_pinned_at : List (FileUnit EntryName) → EntryName → Bool
is_pinned_at units s = list_any (pinned_in (same_spot s)) units

-- the tops of a unit that stay
unfoldable pub staying : Rule → List (FileUnit EntryName) → ℕ → List Top
staying rule units unit = filter (λ t. t.unit == unit && not (moves rule units t.number)) (tops_of units)

-- pinned ones first, both in order
unfoldable pub kept : Rule → List (FileUnit EntryName) → ℕ → List Top
kept rule units unit =
    filter (λ t. is_pinned units t.number) (staying rule units unit) ++ filter (λ t. not (is_pinned units t.number))
    (staying rule units unit)

-- what stays of a row: each space with what stays in it, and each top that doesn't move
unfoldable pub row_staying : (ℕ → Bool) → Row → Row
row_staying moving Nothing = Nothing
row_staying moving (ATop t next) = elim (moving t.number) as (λ _. Row) [
  | true ↦ row_staying moving next
  | false ↦ ATop t (row_staying moving next)
]
row_staying moving (ASpace e inner next) = ASpace e (row_staying moving inner) (row_staying moving next)

-- which tops, and which spaces, are pinned
pub record Pinned : Type 0 where
  pub top : ℕ → Bool
  pub space : EntryName → Bool

unfoldable pub row_pinned : Pinned → Row → Bool
row_pinned p Nothing = false
row_pinned p (ATop t next) = p.top t.number || row_pinned p next
row_pinned p (ASpace e inner next) = p.space e.at || (row_pinned p inner || row_pinned p next)

-- those of the row that are pinned or hold something that is, or the others, as asked; in each space the pinned ones first; and what
-- follows them
unfoldable pub row_part : Pinned → Bool → Row → Row → Row
row_part p want Nothing last = last
row_part p want (ATop t next) last = elim (same_bool (p.top t.number) want) as (λ _. Row) [
  | true ↦ ATop t (row_part p want next last)
  | false ↦ row_part p want next last
]
row_part p want (ASpace e inner next) last = elim (same_bool (p.space e.at || row_pinned p inner) want) as (λ _. Row) [
  | true ↦ ASpace e (row_part p true inner (row_part p false inner Nothing)) (row_part p want next last)
  | false ↦ row_part p want next last
]

-- pinned ones first
abbrev pub pinned_first : Pinned → Row → Row
pinned_first p row = row_part p true row (row_part p false row Nothing)

abbrev pub pinned_of : List (FileUnit EntryName) → Pinned
pinned_of units = record { top = is_pinned units; space = is_pinned_at units }

-- what is kept of a compile unit, from which these tops go
abbrev pub kept_row : (ℕ → Bool) → List (FileUnit EntryName) → ℕ → Row
kept_row gone units i = pinned_first (pinned_of units) (row_staying gone (rows_of_root units i))

-- ---- images

-- the top that stands for it after
unfoldable pub stand_in : Rule → List (FileUnit EntryName) → ℕ → ℕ
stand_in rule units n = elim (moves rule units n) as (λ _. ℕ) [ true ↦ rep rule.alike units n | false ↦ n ]

-- an entry of a top that moves is at the same path under the representative; any other keeps its name
abbrev pub image_by : (ℕ → ℕ) → EntryName → EntryName
image_by stand (Within t path) = Within (stand t) path
image_by stand s = s

abbrev pub image : Rule → List (FileUnit EntryName) → EntryName → EntryName
image rule units = image_by (stand_in rule units)

-- ---- imports

-- DW_TAG_imported_unit with DW_AT_import, of form ref_addr until its form is chosen
abbrev pub import_attr : ℕ → Attr EntryName
import_attr n = record { name = 0x18; form = 0x10; raw = pos 0; value = ref (PartialRoot n) }

abbrev pub import_of : ℕ → ℕ → Node EntryName
import_of unit n = record { at = Import unit n; tag = 0x3d; attrs = import_attr n ∷ [] }

-- an import of each partial unit that has the unit among its users; the first has that number
unfoldable pub imports : ℕ → ℕ → List PartialUnit → Entries EntryName
imports unit n [] = End
imports unit n (part ∷ parts) = elim (has unit part.users) as (λ _. Entries EntryName) [
  | true ↦ Entry (import_of unit n) End
      (imports unit (suc n) parts)
  | false ↦ imports unit (suc n) parts
]
