-- Where texts are written once the common file has texts: in that file, or as they were read.
use Rattle.std.specs.Prelude.{◌≡◌, Bool, List, ℕ, true, false, if◌then◌else◌, None}
use Rattle.dwz_def_reading.specs.Documents.{Attr}
use Rattle.dwz_def_reading.specs.Classes.{class_of}
use Rattle.dwz_def_tops.specs.Spots.{EntryName}
use Rattle.dwz_def_encoding.specs.Placing.{CommonUnit, UnitForms, has_text, text_place}
use Rattle.dwz_def_encoding.specs.Writing.{text_or_empty}
use Rattle.dwz_def_readback.specs.Files.{shared_if}
use Rattle.dwz_layout.specs.declared.known.TextAt.{TextAt}
use Rattle.dwz_layout.specs.declared.known.TextAt.TheVariants.{Pooled, Shared}
use Rattle.dwz_law_layout.specs.Knows.{IsText, is_placed}
use Rattle.dwz_encode_texts.specs.TextLaws.{unshared}

-- a text of a unit of the common file: in `.debug_str` of that file, which has these texts
abbrev pub in_common : List (List ℕ) → List ℕ → TextAt
in_common texts text = Pooled (text_place texts text)

-- a text of another unit: in the common file, if it is among the texts that the unit's file shares with it, and else where it stood
abbrev pub shared_or : List (List ℕ) → List ℕ → TextAt → TextAt
shared_or shared text own = if has_text shared text then Shared (text_place shared text) else own

-- Either, once these are the texts of the common file: by whether the entry is written there, and whether its file shares them. A text
-- of the common file that isn't among them keeps its place.
abbrev pub placed_text : (is_common shares : Bool) → List (List ℕ) → List ℕ → TextAt → TextAt
placed_text true shares texts text own = if has_text texts text then in_common texts text else own
placed_text false true texts text own = shared_or texts text own
placed_text false false texts text own = own

-- in a unit of the common file each text stands there
abbrev pub InCommonLaw : Type 0
InCommonLaw =
    (ft : UnitForms EntryName) (a : Attr EntryName) → ft.holder ≡ CommonUnit → is_placed (class_of a.form) ≡ true
    → IsText ft None a (in_common ft.texts (text_or_empty a.value.plain))

-- In any other unit a text that stands where the definition of forms says if none is shared stands there still, or in the common file.
abbrev pub SharedLaw : Type 0
SharedLaw =
    (ft : UnitForms EntryName) (a : Attr EntryName) (t : TextAt)
    → (ft.holder ≡ CommonUnit → ⊥) → is_placed (class_of a.form) ≡ true
    → IsText (unshared ft) None a t → IsText ft None a (shared_or ft.shared (text_or_empty a.value.plain) t)

-- In another file each text stands where it does with the texts that the file shares, or none.
abbrev pub PlacedLaw : Type 0
PlacedLaw =
    (shares : Bool) (texts : List (List ℕ)) (text : List ℕ) (own : TextAt)
    → placed_text false shares texts text own ≡ shared_or (shared_if shares texts) text own
