-- Worked: a structure with a member and a pointer to it, once in a compile unit, and once in a partial unit that a compile unit imports.
-- Names, labels, targets and rows are computed; the two compile units have one row.
use Rattle.std.proofs.Common.{◌≡◌, ◌==◌, ℕ, pos, Bool, true, false, List, [], ◌∷◌, refl}
use Rattle.std.specs.Prelude.{not}
use Rattle.dwz_def_reading.specs.Documents.{Attr, Compile, DwUnit, Entries, Node, Num, Partial, Text, entries_map, first_named, only, ref}
use Rattle.dwz_def_reading.specs.Spelling.{groups_in, padded}
use Rattle.dwz_def_reading.specs.Trees.{End, Entry}
use Rattle.dwz_def_tops.specs.Spaces.{space_text, tops_under}
use Rattle.dwz_label.specs.Labels.{number}
use Rattle.dwz_def_cross.specs.Tops.{CrossTop, WithCommon}
use Rattle.dwz_def_check.specs.CrossNames.{AtPath, CrossName, PartRoot, WholeRoot, cross_names, cross_names_below, cross_names_from, cross_names_under, cross_tops, cross_tops_in}
use Rattle.dwz_def_check.specs.CrossLabels.{cross_entries_label, cross_entries_targets, cross_label, cross_targets, cross_top_map}
use Rattle.dwz_def_check.specs.CrossLists.{NumberedUnit, classed_parts, classed_tops, numbered_units, own_units}
use Rattle.dwz_def_check.specs.CrossNodes.{lone_entries, new_side, node_count, old_side, spaces_in}

text_attr : ℕ → List ℕ → Attr ℕ
text_attr name text = record { name = name; form = 0x08; raw = pos 0; value = only (Text text) }

byte_attr : ℕ → ℕ → Attr ℕ
byte_attr name n = record { name = name; form = 0x0b; raw = pos n; value = only (Num 0 (pos n)) }

ref_attr : ℕ → ℕ → ℕ → Attr ℕ
ref_attr name form place = record { name = name; form = form; raw = pos place; value = ref place }

node : ℕ → ℕ → List (Attr ℕ) → Node ℕ
node at tag attrs = record { at = at; tag = tag; attrs = attrs }

-- the structure, its member and the pointer, at these places
struct : ℕ → Node ℕ
struct at = node at 0x13 (text_attr 0x03 (0x6e ∷ []) ∷ byte_attr 0x0b 8 ∷ [])

member : ℕ → ℕ → Node ℕ
member at type = node at 0x0d (ref_attr 0x49 0x13 type ∷ [])

pointer : ℕ → ℕ → Node ℕ
pointer at type = node at 0x0f (byte_attr 0x0b 8 ∷ ref_attr 0x49 0x13 type ∷ [])

both : ℕ → ℕ → ℕ → Entries ℕ
both s m p = Entry (struct s) (Entry (member m p) End End) (Entry (pointer p s) End End)

old : WithCommon ℕ
old = record { own = record { at = 0; kind = Compile; root = node 1 0x11 []; below = both 2 3 4 } ∷ []; common = [] }

part : DwUnit ℕ
part = record { at = 10; kind = Partial; root = node 11 0x3c []; below = both 12 13 14 }

whole : DwUnit ℕ
whole = record { at = 20; kind = Compile; root = node 21 0x11 []; below = Entry (node 22 0x3d (ref_attr 0x18 0x10 11 ∷ [])) End End }

new : WithCommon ℕ
new = record { own = part ∷ whole ∷ []; common = [] }

-- what a place is called by a list of names
called : List (ℕ × CrossName) → ℕ → CrossName
called [] p = PartRoot
called (x ∷ xs) p = elim (x.0 == p) as (λ _. CrossName) [ true ↦ x.1 | false ↦ called xs p ]

unnamed : ℕ → CrossName
unnamed p = PartRoot

-- ---- names: the old file's tops are 0 and 1; the new one's are 2, 3 and the import 4

old_names : cross_names (old_side old new unnamed) ≡ (1, WholeRoot 0) ∷ (2, AtPath 0 []) ∷ (3, AtPath 0 (0 ∷ [])) ∷ (4, AtPath 1 []) ∷ []
unfolding old new part whole both struct member pointer node text_attr byte_attr ref_attr space_text first_named tops_under cross_names_below cross_names_from cross_names_under cross_tops cross_tops_in
old_names = refl

new_names : cross_names (new_side old new unnamed)
    ≡ (11, PartRoot) ∷ (12, AtPath 2 []) ∷ (13, AtPath 2 (0 ∷ [])) ∷ (14, AtPath 3 []) ∷ (21, WholeRoot 0) ∷ (22, AtPath 4 []) ∷ []
unfolding old new part whole both struct member pointer node text_attr byte_attr ref_attr space_text first_named tops_under cross_names_below cross_names_from cross_names_under cross_tops cross_tops_in
new_names = refl

-- and behind these the two roots
count : node_count old new ≡ 7
unfolding old new part whole both struct member pointer node text_attr byte_attr ref_attr space_text first_named cross_tops cross_tops_in lone_entries spaces_in
count = refl

-- ---- labels and targets of the structures

top_at : ℕ → ℕ → ℕ → CrossTop ℕ
top_at s m p = record { names = []; node = struct s; below = Entry (member m p) End End }

named : List (ℕ × CrossName) → CrossTop ℕ → CrossTop CrossName
named names t = cross_top_map (called names) t

old_called : List (ℕ × CrossName)
old_called = (2, AtPath 0 []) ∷ (3, AtPath 0 (0 ∷ [])) ∷ (4, AtPath 1 []) ∷ []

new_called : List (ℕ × CrossName)
new_called = (12, AtPath 2 []) ∷ (13, AtPath 2 (0 ∷ [])) ∷ (14, AtPath 3 []) ∷ []

-- no names; one entry below; the tag and two attributes; and the member, which names the entry at the empty path of a top
struct_label : cross_label (named old_called (top_at 2 3 4))
    ≡ 0 ∷ 1 ∷ 0x13 ∷ 2 ∷ 0x03 ∷ 4 ∷ 1 ∷ 0x6e ∷ 0 ∷ 0x0b ∷ 0 ∷ 0 ∷ 8 ∷ 0 ∷ 0 ∷ 0x0d ∷ 1 ∷ 0x49 ∷ 6 ∷ 1 ∷ 1 ∷ 0 ∷ []
unfolding named old_called called top_at struct member node text_attr byte_attr ref_attr entries_map cross_entries_label number groups_in padded
struct_label = refl

one_label : cross_label (named new_called (top_at 12 13 14)) ≡ cross_label (named old_called (top_at 2 3 4))
unfolding named old_called new_called called top_at struct member node text_attr byte_attr ref_attr entries_map cross_entries_label number groups_in padded
one_label = refl

old_targets : cross_targets (named old_called (top_at 2 3 4)) ≡ 1 ∷ []
unfolding named old_called called top_at struct member node text_attr byte_attr ref_attr entries_map cross_entries_targets
old_targets = refl

new_targets : cross_targets (named new_called (top_at 12 13 14)) ≡ 3 ∷ []
unfolding named new_called called top_at struct member node text_attr byte_attr ref_attr entries_map cross_entries_targets
new_targets = refl

-- ---- rows: of the nodes 0 and 2, 1 and 3, and 5 and 6 are alike

classes : List ℕ
classes = 0 ∷ 1 ∷ 0 ∷ 1 ∷ 4 ∷ 5 ∷ 5 ∷ []

-- the import is number 4
keeps : ℕ → Bool
keeps n = not (n == 4)

old_unit : NumberedUnit ℕ
old_unit = record { unit = record { at = 0; kind = Compile; root = node 1 0x11 []; below = both 2 3 4 }; top = 0; lone = 5 }

part_unit : NumberedUnit ℕ
part_unit = record { unit = part; top = 2; lone = 6 }

whole_unit : NumberedUnit ℕ
whole_unit = record { unit = whole; top = 4; lone = 6 }

old_units : own_units (old_side old new unnamed) ≡ old_unit ∷ []
unfolding old new part whole old_unit both struct member pointer node text_attr byte_attr ref_attr space_text first_named numbered_units cross_tops cross_tops_in lone_entries spaces_in
old_units = refl

new_units : own_units (new_side old new unnamed) ≡ part_unit ∷ whole_unit ∷ []
unfolding old new part whole part_unit whole_unit both struct member pointer node text_attr byte_attr ref_attr space_text first_named numbered_units cross_tops cross_tops_in lone_entries spaces_in
new_units = refl

old_row : classed_parts classes keeps (old_unit ∷ []) ≡ ([], 0) ∷ ([], 1) ∷ []
unfolding classes keeps old_unit both struct member pointer node text_attr byte_attr ref_attr space_text first_named cross_tops_in classed_tops
old_row = refl

-- the compile unit has the import, which isn't kept, and what it imports
new_row : classed_parts classes keeps (whole_unit ∷ part_unit ∷ []) ≡ ([], 0) ∷ ([], 1) ∷ []
unfolding classes keeps part whole part_unit whole_unit both struct member pointer node text_attr byte_attr ref_attr space_text first_named cross_tops_in classed_tops
new_row = refl
