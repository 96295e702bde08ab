-- The forms of attribute values (DWARF 5, 7.5.6), with the layout of what each one occupies.
use Rattle.std.specs.Prelude.{List, [], ◌∷◌, codes}
use Rattle.dwz_codes.specs.declared.shape.Shape.TheVariants.{Nothing, Refused, Fixed1, Fixed2, Fixed3, Fixed4, Fixed8, Fixed16, Uleb, Sleb}
use Rattle.dwz_codes.specs.declared.shape.Shape.TheVariants.{ZeroEnded, Block1, Block2, Block4, BlockUleb, Address}
use Rattle.dwz_codes.specs.Rows.{RowView, row}

unfoldable pub form_rows : List RowView
form_rows =
    row 0x01 Address (codes "addr") ∷
    row 0x03 Block2 (codes "block2") ∷
    row 0x04 Block4 (codes "block4") ∷
    row 0x05 Fixed2 (codes "data2") ∷
    row 0x06 Fixed4 (codes "data4") ∷
    row 0x07 Fixed8 (codes "data8") ∷
    row 0x08 ZeroEnded (codes "string") ∷
    row 0x09 BlockUleb (codes "block") ∷
    row 0x0a Block1 (codes "block1") ∷
    row 0x0b Fixed1 (codes "data1") ∷
    row 0x0c Fixed1 (codes "flag") ∷
    row 0x0d Sleb (codes "sdata") ∷
    row 0x0e Fixed4 (codes "strp") ∷
    row 0x0f Uleb (codes "udata") ∷
    row 0x10 Fixed4 (codes "ref_addr") ∷
    row 0x11 Fixed1 (codes "ref1") ∷
    row 0x12 Fixed2 (codes "ref2") ∷
    row 0x13 Fixed4 (codes "ref4") ∷
    row 0x14 Fixed8 (codes "ref8") ∷
    row 0x15 Uleb (codes "ref_udata") ∷
    row 0x16 Refused (codes "indirect") ∷
    row 0x17 Fixed4 (codes "sec_offset") ∷
    row 0x18 BlockUleb (codes "exprloc") ∷
    row 0x19 Nothing (codes "flag_present") ∷
    row 0x1a Uleb (codes "strx") ∷
    row 0x1b Uleb (codes "addrx") ∷
    row 0x1c Refused (codes "ref_sup4") ∷
    row 0x1d Refused (codes "strp_sup") ∷
    row 0x1e Fixed16 (codes "data16") ∷
    row 0x1f Fixed4 (codes "line_strp") ∷
    row 0x20 Fixed8 (codes "ref_sig8") ∷
    row 0x21 Nothing (codes "implicit_const") ∷
    row 0x22 Uleb (codes "loclistx") ∷
    row 0x23 Uleb (codes "rnglistx") ∷
    row 0x24 Refused (codes "ref_sup8") ∷
    row 0x25 Fixed1 (codes "strx1") ∷
    row 0x26 Fixed2 (codes "strx2") ∷
    row 0x27 Fixed3 (codes "strx3") ∷
    row 0x28 Fixed4 (codes "strx4") ∷
    row 0x29 Fixed1 (codes "addrx1") ∷
    row 0x2a Fixed2 (codes "addrx2") ∷
    row 0x2b Fixed3 (codes "addrx3") ∷
    row 0x2c Fixed4 (codes "addrx4") ∷
    []
