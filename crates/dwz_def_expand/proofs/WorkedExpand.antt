-- Worked: three compile units that import one partial unit with a structure, its member and a pointer to it. Each gets a copy.
use Rattle.std.proofs.Common.{◌≡◌, ◌==◌, ℕ, pos, Bool, List, [], ◌∷◌, ◌++◌, None, refl}
use Rattle.dwz_def_reading.specs.Spelling.{groups_in, le_bytes, padded}
use Rattle.dwz_def_reading.specs.Forms.{form_rows}
use Rattle.dwz_def_reading.specs.Abbrevs.{pairs_bytes, table_bytes}
use Rattle.dwz_def_reading.specs.Trees.{End, Entry}
use Rattle.dwz_def_reading.specs.Values.{value_bytes}
use Rattle.dwz_def_reading.specs.Classes.{class_in, class_rows}
use Rattle.dwz_def_reading.specs.Documents.{Attr, Compile, DwUnit, Node, Num, Partial, Text, entries_map, only, ref}
use Rattle.dwz_def_tops.specs.Shown.{keys, unit_keys, units_keys}
use Rattle.dwz_def_tops.specs.Deciding.{same_by, same_int}
use Rattle.dwz_def_tops.specs.Spots.{same_numbers}
use Rattle.dwz_def_encoding.specs.Placing.{NewUnit, files_placed, has_key, number_of_key, placed, sections, units_placed}
use Rattle.dwz_def_encoding.specs.Writing.{attrs_bytes, code_in, coded, joined, node_bytes, parts_bytes, same_shape, shapes_in, spelled, table_in, tables_of, tree_bytes, unit_bytes, units_bytes, with_shape, with_table}
use Rattle.dwz_def_cross.specs.Tops.{WithCommon, whole_units}
use Rattle.dwz_def_expand.specs.Chosen.{Choice, chosen_entries, row_of_path}
use Rattle.dwz_def_expand.specs.Source.{copies, first_with, followed_by, imported_in, inside, without_imports, once, imported_by, unit_for}
use Rattle.dwz_def_expand.specs.Written.{expanded_sections, written}

text_attr : ℕ → List ℕ → Attr ℕ
text_attr name text = record { name = name; form = 0x08; raw = pos 0; value = only (Text text) }

byte_attr : ℕ → ℕ → Attr ℕ
byte_attr name n = record { name = name; form = 0x0b; raw = pos n; value = only (Num 0 (pos n)) }

ref_attr : ℕ → ℕ → ℕ → Attr ℕ
ref_attr name form place = record { name = name; form = form; raw = pos place; value = ref place }

node : ℕ → ℕ → List (Attr ℕ) → Node ℕ
node at tag attrs = record { at = at; tag = tag; attrs = attrs }

-- the partial unit at 0
part : DwUnit ℕ
part = record {
  at = 0;
  kind = Partial;
  root = node 0x0c 0x3c [];
  below = Entry (node 0x0d 0x13 (text_attr 0x03 (0x6e ∷ []) ∷ byte_attr 0x0b 8 ∷ []))
      (Entry (node 0x11 0x0d (text_attr 0x03 (0x6e ∷ 0x65 ∷ 0x78 ∷ 0x74 ∷ []) ∷ ref_attr 0x49 0x13 0x1d ∷ byte_attr 0x38 0 ∷ [])) End End)
      (Entry (node 0x1d 0x0f (byte_attr 0x0b 8 ∷ ref_attr 0x49 0x13 0x0d ∷ [])) End End);
}

-- a compile unit that imports it
whole : ℕ → ℕ → ℕ → DwUnit ℕ
whole at root inner = record { at = at; kind = Compile; root = node root 0x11 []; below = Entry (node inner 0x3d (ref_attr 0x18 0x10 0x0c ∷ [])) End End }

file : WithCommon ℕ
file = record { own = part ∷ whole 0x24 0x30 0x31 ∷ whole 0x37 0x43 0x44 ∷ whole 0x4a 0x56 0x57 ∷ []; common = [] }

same : ℕ → ℕ → Bool
same m n = m == n

choice : Choice ℕ
choice = record { role = λ p. NewUnit; slots = λ p. None; offsets = []; paths = λ n. None }

info : List ℕ
unfolding part whole file same choice node text_attr byte_attr ref_attr groups_in padded le_bytes pairs_bytes form_rows table_bytes value_bytes class_in class_rows keys unit_keys units_keys same_by same_int same_numbers
    files_placed has_key number_of_key placed sections units_placed attrs_bytes code_in coded joined node_bytes parts_bytes same_shape shapes_in spelled table_in tables_of tree_bytes unit_bytes units_bytes
    with_shape with_table whole_units chosen_entries row_of_path copies first_with followed_by imported_in inside without_imports once imported_by unit_for entries_map written
info = (expanded_sections same choice file).info

-- one unit: its header, the root, and the copies, which name each other
abbrev copy_bytes : List ℕ
copy_bytes =
    0x20 ∷ 0 ∷ 0 ∷ 0 ∷ 5 ∷ 0 ∷ 1 ∷ 8 ∷ 0 ∷ 0 ∷ 0 ∷ 0 ∷ 1
    ∷ 2 ∷ 0x6e ∷ 0 ∷ 8
    ∷ 3 ∷ 0x6e ∷ 0x65 ∷ 0x78 ∷ 0x74 ∷ 0 ∷ 0x1d ∷ 0 ∷ 0 ∷ 0 ∷ 0 ∷ 0
    ∷ 4 ∷ 8 ∷ 0x0d ∷ 0 ∷ 0 ∷ 0 ∷ 0 ∷ []

three : info ≡ copy_bytes ++ copy_bytes ++ copy_bytes
unfolding info
three = refl
