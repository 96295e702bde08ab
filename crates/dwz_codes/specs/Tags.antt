-- The names of tags (DWARF 5, 7.5.3) that are printed by name.
use Rattle.std.specs.Prelude.{List, [], ◌∷◌, codes}
use Rattle.dwz_codes.specs.declared.shape.Shape.TheVariants.{Nothing}
use Rattle.dwz_codes.specs.Rows.{RowView, row}

unfoldable pub tag_rows : List RowView
tag_rows =
    row 0x01 Nothing (codes "array_type") ∷
    row 0x02 Nothing (codes "class_type") ∷
    row 0x04 Nothing (codes "enumeration_type") ∷
    row 0x05 Nothing (codes "formal_parameter") ∷
    row 0x0b Nothing (codes "lexical_block") ∷
    row 0x0d Nothing (codes "member") ∷
    row 0x0f Nothing (codes "pointer_type") ∷
    row 0x11 Nothing (codes "compile_unit") ∷
    row 0x13 Nothing (codes "structure_type") ∷
    row 0x15 Nothing (codes "subroutine_type") ∷
    row 0x16 Nothing (codes "typedef") ∷
    row 0x17 Nothing (codes "union_type") ∷
    row 0x1d Nothing (codes "inlined_subroutine") ∷
    row 0x21 Nothing (codes "subrange_type") ∷
    row 0x24 Nothing (codes "base_type") ∷
    row 0x26 Nothing (codes "const_type") ∷
    row 0x27 Nothing (codes "constant") ∷
    row 0x28 Nothing (codes "enumerator") ∷
    row 0x2e Nothing (codes "subprogram") ∷
    row 0x34 Nothing (codes "variable") ∷
    row 0x35 Nothing (codes "volatile_type") ∷
    row 0x39 Nothing (codes "namespace") ∷
    row 0x3b Nothing (codes "unspecified_type") ∷
    row 0x3d Nothing (codes "imported_unit") ∷
    []
