-- The kinds of entries of a location list (DWARF 5, 7.7.3), with what follows the kind byte. Kind 9 is a GNU extension.
use Rattle.std.specs.Prelude.{List, [], ◌∷◌, codes}
use Rattle.dwz_codes.specs.declared.shape.Shape.TheVariants.{Nothing, Uleb, UlebUleb, Address, NestedExpr, UlebUlebExpr, AddressAddressExpr}
use Rattle.dwz_codes.specs.declared.shape.Shape.TheVariants.{AddressUlebExpr}
use Rattle.dwz_codes.specs.Rows.{RowView, row}

unfoldable pub list_kind_rows : List RowView
list_kind_rows =
    row 0x00 Nothing (codes "end_of_list") ∷
    row 0x01 Uleb (codes "base_addressx") ∷
    row 0x02 UlebUlebExpr (codes "startx_endx") ∷
    row 0x03 UlebUlebExpr (codes "startx_length") ∷
    row 0x04 UlebUlebExpr (codes "offset_pair") ∷
    row 0x05 NestedExpr (codes "default_location") ∷
    row 0x06 Address (codes "base_address") ∷
    row 0x07 AddressAddressExpr (codes "start_end") ∷
    row 0x08 AddressUlebExpr (codes "start_length") ∷
    row 0x09 UlebUleb (codes "GNU_view_pair") ∷
    []
