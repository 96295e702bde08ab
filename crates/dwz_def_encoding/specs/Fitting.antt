-- Whether numbers and places fit where they are written.
use Rattle.std.specs.Prelude.{◌≡◌, ℕ, suc, ◌+◌, ◌-◌, ◌<◌, ◌≤◌, ◌^◌, max, Bool, true, false, List, [], ◌∷◌}
use Rattle.dwz_def_reading.specs.Documents.{Attr, Compile, DwUnit, Entries, Expr, Kind, Loc, Node, OfType, Part, Partial, Plain, Same}
use Rattle.dwz_def_reading.specs.Documents as document
use Rattle.dwz_def_reading.specs.Entries.{Mode}
use Rattle.dwz_def_reading.specs.Lists.{Each, In}
use Rattle.dwz_def_reading.specs.Classes.{OfCommonEntry, OfExpression, OfInfoEntry, OfListIndex, OfOffset, OfUnitEntry}
use Rattle.dwz_def_reading.specs.Classes.{Class, class_of}
use Rattle.dwz_def_reading.specs.Patching.{FitsIn}
use Rattle.dwz_def_reading.specs.Trees.{End, Entry, size}
use Rattle.dwz_def_reading.specs.Values.{written_rows}
use Rattle.dwz_def_reading.specs.Rows.{RowView}
use Rattle.dwz_def_tops.specs.Alike.{joined_parts}
use Rattle.dwz_def_encoding.specs.Placing.{FitsSections, UnitsStand, sections}
use Rattle.dwz_def_encoding.specs.Sound.{SoundUnit}
use Rattle.dwz_def_encoding.specs.Writing.{Numbering, base_place}

-- ---- numbers of entries

-- the number of a key fits four bytes, counted from the unit, at or behind which it stands; or from the first byte of all
abbrev pub FitsUnit : {K : Type 0} → Numbering K → ℕ → K → Type 0
FitsUnit n unit k = (unit ≤ n.place k) × (n.place k - unit < 2 ^ 32)

abbrev pub FitsInfo : {K : Type 0} → Numbering K → K → Type 0
FitsInfo n k = n.place k < 2 ^ 32

-- Each operand names one of these entries, in order, and the number of that one fits it. None is 0: where numbers are counted from the
-- unit, an entry of the unit stands behind its first byte.
abbrev pub OperandsFit : {K : Type 0} → Numbering K → ℕ → List Part → List K → Type 0
OperandsFit n unit [] [] = Unit {0}
OperandsFit n unit (Same bytes ∷ parts) refs = OperandsFit n unit parts refs
OperandsFit n unit (document.Operand width uleb base ∷ parts) (k ∷ refs) =
    (0 < n.place k - base_place unit base) × FitsIn uleb width (n.place k - base_place unit base) × OperandsFit n unit parts refs
OperandsFit n unit _ _ = ⊥

abbrev pub ExprFits : {K : Type 0} → Numbering K → ℕ → Plain → List K → Type 0
ExprFits n unit (Expr parts) refs = OperandsFit n unit parts refs
ExprFits n unit _ refs = ⊥

-- the same of the expressions of a location list, whose operands stand in `.debug_loclists`
abbrev pub ListFits : {K : Type 0} → Numbering K → ℕ → Plain → List K → Type 0
ListFits n unit (Loc exprs) refs = OperandsFit n unit (joined_parts exprs) refs
ListFits n unit _ refs = Unit {0}

-- the numbers that an attribute of a class stores, or those of its list, in a unit that begins at a place
abbrev pub FitsAs : {K : Type 0} → Class → Numbering K → ℕ → Attr K → Type 0
FitsAs OfUnitEntry n unit a = Each (FitsUnit n unit) a.value.refs
FitsAs OfInfoEntry n unit a = Each (FitsInfo n) a.value.refs
FitsAs OfCommonEntry n unit a = Each (FitsInfo n) a.value.refs
FitsAs OfExpression n unit a = ExprFits n unit a.value.plain a.value.refs
FitsAs OfOffset n unit a = ListFits n unit a.value.plain a.value.refs
FitsAs OfListIndex n unit a = ListFits n unit a.value.plain a.value.refs
FitsAs _ n unit a = Unit {0}

abbrev pub AttrFits : {K : Type 0} → Numbering K → ℕ → Attr K → Type 0
AttrFits n unit a = FitsAs (class_of a.form) n unit a

abbrev pub NodeFits : {K : Type 0} → Numbering K → ℕ → Node K → Type 0
NodeFits n unit e = Each (AttrFits n unit) e.attrs

abbrev pub EntriesFit : {K : Type 0} → Numbering K → ℕ → Entries K → Type 0
EntriesFit n unit End = Unit {0}
EntriesFit n unit (Entry e children next) = NodeFits n unit e × EntriesFit n unit children × EntriesFit n unit next

abbrev pub KindFits : {K : Type 0} → Numbering K → ℕ → Kind K → Type 0
KindFits n unit Compile = Unit {0}
KindFits n unit (OfType signature main) = FitsUnit n unit main
KindFits n unit Partial = Unit {0}

pub record UnitFits {K : Type 0} (n : Numbering K) (u : DwUnit K) : Type 0 where
  pub kind : KindFits n (n.place u.at) u.kind
  pub root : NodeFits n (n.place u.at) u.root
  pub below : EntriesFit n (n.place u.at) u.below

-- ---- operands, which keep their widths

-- P holds of each attribute
abbrev pub EachAttr : {K : Type 0} → (Attr K → Type 0) → Entries K → Type 0
EachAttr P End = Unit {0}
EachAttr P (Entry e children next) = Each P e.attrs × EachAttr P children × EachAttr P next

-- the number needs no more bytes: groups of seven bits of a ULEB128 number, or bytes of a fixed width
abbrev pub FitsWidth : Bool → ℕ → ℕ → Type 0
FitsWidth true width number = number < 128 ^ width
FitsWidth false width number = number < 256 ^ width

-- each operand has room for the number of the entry that it names
abbrev pub OperandsHaveRoom : {K : Type 0} → Numbering K → ℕ → List Part → List K → Type 0
OperandsHaveRoom n unit [] [] = Unit {0}
OperandsHaveRoom n unit (Same bytes ∷ parts) refs = OperandsHaveRoom n unit parts refs
OperandsHaveRoom n unit (document.Operand width uleb base ∷ parts) (k ∷ refs) = FitsWidth uleb width (n.place k - base_place unit base)
    × OperandsHaveRoom n unit parts refs
OperandsHaveRoom n unit _ _ = ⊥

-- so of an expression, and of a location list
abbrev pub PlainHasRoom : {K : Type 0} → Numbering K → ℕ → Plain → List K → Type 0
PlainHasRoom n unit (Expr parts) refs = OperandsHaveRoom n unit parts refs
PlainHasRoom n unit (Loc exprs) refs = OperandsHaveRoom n unit (joined_parts exprs) refs
PlainHasRoom n unit _ refs = Unit {0}

abbrev pub HasRoomAs : {K : Type 0} → Class → Numbering K → ℕ → Attr K → Type 0
HasRoomAs OfExpression n unit a = PlainHasRoom n unit a.value.plain a.value.refs
HasRoomAs OfOffset n unit a = PlainHasRoom n unit a.value.plain a.value.refs
HasRoomAs OfListIndex n unit a = PlainHasRoom n unit a.value.plain a.value.refs
HasRoomAs _ n unit a = Unit {0}

abbrev pub HasRoom : {K : Type 0} → Numbering K → ℕ → Attr K → Type 0
HasRoom n unit a = HasRoomAs (class_of a.form) n unit a

abbrev pub UnitHasRoom : {K : Type 0} → Numbering K → DwUnit K → Type 0
UnitHasRoom n u = Each (HasRoom n (n.place u.at)) u.root.attrs × EachAttr (HasRoom n (n.place u.at)) u.below

-- ---- how much is read

-- how deep entries are below each other
unfoldable pub depth : {K : Type 0} → Entries K → ℕ
depth End = 0
depth (Entry e children next) = max (suc (depth children)) (depth next)

unfoldable pub entry_total : {K : Type 0} → List (DwUnit K) → ℕ
entry_total [] = 0
entry_total (u ∷ units) = size u.below + 1 + entry_total units

unfoldable pub deepest : {K : Type 0} → List (DwUnit K) → ℕ
deepest [] = 0
deepest (u ∷ units) = max (suc (depth u.below)) (deepest units)

-- the forms of what is read back: also those that lead to a supplementary file
abbrev pub all_forms : ℕ → Bool → List RowView
all_forms tag is_root = written_rows

-- just as many and as deep entries as there are
abbrev pub mode_for : {K : Type 0} → List (DwUnit K) → Mode
mode_for units = record { entries = entry_total units; depth = deepest units; whole = true; partial = true; forms = all_forms }

-- units of all types and the forms of a supplementary file are read, and so many and so deep entries as there are
pub record IsRoomy {K : Type 0} (units : List (DwUnit K)) (mode : Mode) : Type 0 where
  pub whole : mode.whole ≡ true
  pub partial : mode.partial ≡ true
  pub forms : mode.forms ≡ all_forms
  pub entries : entry_total units ≤ mode.entries
  pub depth : Each (λ u. suc (depth u.below) ≤ mode.depth) units

-- ---- what can be written

-- Units of a file that are sound, and stand at these places; their operands have room for the numbers of what they name; their sections,
-- and those of the common file, have fewer than 2^32 - 16 bytes.
pub record AreWritable {K : Type 0} (n : Numbering K) (common : List K) (units : List (DwUnit K)) : Type 0 where
  pub sound : Each SoundUnit units
  pub stands : UnitsStand n units 0
  pub room : Each (UnitHasRoom n) units
  pub fits : FitsSections (sections n units)
  pub common_fits : (k : K) → In k common → n.place k < 2 ^ 32
