-- The classes of forms, and what names say of numbers, handed on: their constructors are named here for each crate above.
pub use Rattle.dwz_codes.specs.declared.class.Class.{Class}
pub use Rattle.dwz_codes.specs.declared.class.Class.TheVariants.{Address as OfAddress, Block as OfBlock, Constant as OfConstant}
pub use Rattle.dwz_codes.specs.declared.class.Class.TheVariants.{Flag as OfFlag, Text as OfText, TextInStr as OfTextInStr}
pub use Rattle.dwz_codes.specs.declared.class.Class.TheVariants.{TextInLineStr as OfTextInLineStr, TextBySlot as OfTextBySlot}
pub use Rattle.dwz_codes.specs.declared.class.Class.TheVariants.{UnitEntry as OfUnitEntry, InfoEntry as OfInfoEntry}
pub use Rattle.dwz_codes.specs.declared.class.Class.TheVariants.{Signature as OfSignature, Offset as OfOffset}
pub use Rattle.dwz_codes.specs.declared.class.Class.TheVariants.{Expression as OfExpression, ListIndex as OfListIndex, Index as OfIndex}
pub use Rattle.dwz_codes.specs.declared.class.Class.TheVariants.{CommonEntry as OfCommonEntry, CommonText as OfCommonText, Unread}
pub use Rattle.dwz_codes.specs.Classes.{ClassRow, class_of, data_width, is_open, kept_width, names_file, names_list, unsigned_names}
unfoldable pub use Rattle.dwz_codes.specs.Classes.{class_in, class_rows}
