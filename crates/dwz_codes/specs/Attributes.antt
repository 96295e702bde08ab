-- The names of attributes (DWARF 5, 7.5.4) that are printed by name.
use Rattle.std.specs.Prelude.{List, [], ◌∷◌, codes}
use Rattle.dwz_codes.specs.declared.shape.Shape.TheVariants.{Nothing}
use Rattle.dwz_codes.specs.Rows.{RowView, row}

unfoldable pub attribute_rows : List RowView
attribute_rows =
    row 0x01 Nothing (codes "sibling") ∷
    row 0x02 Nothing (codes "location") ∷
    row 0x03 Nothing (codes "name") ∷
    row 0x0b Nothing (codes "byte_size") ∷
    row 0x10 Nothing (codes "stmt_list") ∷
    row 0x11 Nothing (codes "low_pc") ∷
    row 0x12 Nothing (codes "high_pc") ∷
    row 0x13 Nothing (codes "language") ∷
    row 0x18 Nothing (codes "import") ∷
    row 0x1b Nothing (codes "comp_dir") ∷
    row 0x1c Nothing (codes "const_value") ∷
    row 0x25 Nothing (codes "producer") ∷
    row 0x27 Nothing (codes "prototyped") ∷
    row 0x2f Nothing (codes "upper_bound") ∷
    row 0x31 Nothing (codes "abstract_origin") ∷
    row 0x35 Nothing (codes "base_types") ∷
    row 0x37 Nothing (codes "count") ∷
    row 0x38 Nothing (codes "data_member_location") ∷
    row 0x39 Nothing (codes "decl_column") ∷
    row 0x3a Nothing (codes "decl_file") ∷
    row 0x3b Nothing (codes "decl_line") ∷
    row 0x3c Nothing (codes "declaration") ∷
    row 0x3e Nothing (codes "encoding") ∷
    row 0x3f Nothing (codes "external") ∷
    row 0x40 Nothing (codes "frame_base") ∷
    row 0x47 Nothing (codes "specification") ∷
    row 0x49 Nothing (codes "type") ∷
    row 0x55 Nothing (codes "ranges") ∷
    row 0x6e Nothing (codes "linkage_name") ∷
    row 0x88 Nothing (codes "alignment") ∷
    []
