-- Worked: a compile unit names a variable of the common file, and another imports the partial unit in which that stands. The copy has its text
-- itself, and the row of its file in the line table of its unit; the first unit names it there.
use Rattle.std.proofs.Common.{◌≡◌, ◌==◌, ℕ, ◌+◌, pos, zero, suc, Bool, List, [], ◌∷◌, Option, Some, None, refl}
use Rattle.dwz_def_reading.specs.Spelling.{groups_in, le_bytes, padded}
use Rattle.dwz_def_reading.specs.Forms.{form_rows}
use Rattle.dwz_def_reading.specs.Abbrevs.{pairs_bytes, table_bytes}
use Rattle.dwz_def_reading.specs.Trees.{End, Entry}
use Rattle.dwz_def_reading.specs.Values.{value_bytes}
use Rattle.dwz_def_reading.specs.Classes.{class_in, class_rows}
use Rattle.dwz_def_reading.specs.Documents.{Attr, Compile, DwUnit, File, Node, Partial, Text, entries_map, first_named, only, ref}
use Rattle.dwz_def_tops.specs.Deciding.{same_by, same_int}
use Rattle.dwz_def_tops.specs.Shown.{keys, unit_keys, units_keys}
use Rattle.dwz_def_tops.specs.Spots.{same_numbers}
use Rattle.dwz_def_encoding.specs.Placing.{UnitSections, files_placed, has_key, number_of_key, placed, sections, units_placed}
use Rattle.dwz_def_encoding.specs.Writing.{attrs_bytes, code_in, coded, joined, node_bytes, parts_bytes, same_shape, shapes_in, spelled, table_in, tables_of, tree_bytes, unit_bytes, units_bytes, with_shape, with_table}
use Rattle.dwz_def_cross.specs.Tops.{WithCommon, whole_units}
use Rattle.dwz_def_expand.specs.Chosen.{Choice, choice, chosen_entries, row_of_path}
use Rattle.dwz_def_expand.specs.Source.{copies, first_with, followed_by, imported_by, imported_in, inside, once, unit_for, without_imports}
use Rattle.dwz_def_expand.specs.Written.{expanded_sections, written}

node : ℕ → ℕ → List (Attr ℕ) → Node ℕ
node at tag attrs = record { at = at; tag = tag; attrs = attrs }

-- an attribute that names an entry of the common file: DW_FORM_ref_sup4
sup_attr : ℕ → ℕ → Attr ℕ
sup_attr name place = record { name = name; form = 0x1c; raw = pos place; value = ref place }

-- the common file, whose places begin at 1000: a variable `v` of a file `s`
part : DwUnit ℕ
part = record {
  at = 1000;
  kind = Partial;
  root = node 1012 0x3c [];
  below = Entry (node 1013 0x34
      (record { name = 0x03; form = 0x0e; raw = pos 0; value = only (Text (0x76 ∷ [])) }
      ∷ record { name = 0x3a; form = 0x0f; raw = pos 1; value = only (File (Some (0x73 ∷ []))) }
      ∷ [])) End End;
}

compile : ℕ → Node ℕ → DwUnit ℕ
compile at child = record { at = at; kind = Compile; root = node (at + 12) 0x11 []; below = Entry child End End }

file : WithCommon ℕ
file = record { own = compile 0 (node 13 0x34 (sup_attr 0x49 1013 ∷ [])) ∷ compile 19 (node 32 0x3d (sup_attr 0x18 1012 ∷ [])) ∷ []; common = part ∷ [] }

same : ℕ → ℕ → Bool
same m n = m == n

-- the second unit has a line table, with the files `a` and `s`
paths : ℕ → Option (List (List ℕ))
paths zero = None
paths (suc n) = Some ((0x61 ∷ []) ∷ (0x73 ∷ []) ∷ [])

forms : Choice ℕ
forms =
    let by = choice same file (record { strs = []; line_strs = []; offsets = []; line = []; lists = [] }) in
    record { role = by.role; slots = by.slots; offsets = by.offsets; paths = paths }

new : UnitSections
unfolding node sup_attr part compile file same paths forms groups_in padded le_bytes pairs_bytes form_rows table_bytes value_bytes class_in class_rows keys unit_keys units_keys same_by same_int same_numbers first_named
    entries_map files_placed has_key number_of_key placed sections units_placed attrs_bytes code_in coded joined node_bytes parts_bytes same_shape shapes_in spelled table_in tables_of tree_bytes unit_bytes units_bytes
    with_shape with_table whole_units chosen_entries row_of_path copies first_with followed_by imported_by imported_in inside once unit_for without_imports written
new = expanded_sections same forms file

-- DW_AT_type of the first unit's variable is DW_FORM_ref_addr of the copy, at 32
info_is : new.info ≡
    0x0f ∷ 0 ∷ 0 ∷ 0 ∷ 5 ∷ 0 ∷ 1 ∷ 8 ∷ 0 ∷ 0 ∷ 0 ∷ 0 ∷ 1 ∷ 2 ∷ 0x20 ∷ 0 ∷ 0 ∷ 0 ∷ 0
    ∷ 0x0e ∷ 0 ∷ 0 ∷ 0 ∷ 5 ∷ 0 ∷ 1 ∷ 8 ∷ 0x0d ∷ 0 ∷ 0 ∷ 0 ∷ 1 ∷ 2 ∷ 0x76 ∷ 0 ∷ 1 ∷ 0 ∷ []
unfolding new
info_is = refl

-- the copy's name is DW_FORM_string, and its file DW_FORM_udata
abbrevs_are : new.abbrevs ≡
    1 ∷ 0x11 ∷ 1 ∷ 0 ∷ 0 ∷ 2 ∷ 0x34 ∷ 0 ∷ 0x49 ∷ 0x10 ∷ 0 ∷ 0 ∷ 0
    ∷ 1 ∷ 0x11 ∷ 1 ∷ 0 ∷ 0 ∷ 2 ∷ 0x34 ∷ 0 ∷ 0x03 ∷ 0x08 ∷ 0x3a ∷ 0x0f ∷ 0 ∷ 0 ∷ 0 ∷ []
unfolding new
abbrevs_are = refl
