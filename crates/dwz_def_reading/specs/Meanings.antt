-- What stored values mean (DWARF 5, 7.5.4 to 7.5.6): the relation, the function, and why a value means nothing.
use Rattle.std.specs.Prelude.{◌≡◌, ℕ, ℤ, pos, negsuc, ◌+◌, ◌-◌, ◌<◌, Bool, true, false, List, [], ◌∷◌, ◌++◌}
use Rattle.std.specs.Prelude.{length, map, Option, Some, None, ◌==◌, ◌||◌, not, if◌then◌else◌}
use Rattle.std.specs.List.{list_any}
use Rattle.dwz_model.specs.declared.place.Base.{Base}
use Rattle.dwz_model.specs.declared.place.Base.TheVariants.{Unit as FromUnit, Info as FromInfo}
use Rattle.dwz_bytes.specs.Spelling.{reach}
use Rattle.dwz_def_reading.specs.declared.exprs.Operand.{Operand}
use Rattle.dwz_def_reading.specs.Documents.{Addr, Attr, Block, Compile, DwUnit, Entries, Expr, File, Flag, Index, Kind, Loc, Node, Num, OfType}
use Rattle.dwz_def_reading.specs.Documents.{Partial, Sec, Sig, Text, Value, only, ref}
use Rattle.dwz_def_reading.specs.Entries.{RawAttr, RawEntry}
use Rattle.dwz_def_reading.specs.Exprs.{ExprContext, Expression, SpellsExpr, parts_of}
use Rattle.dwz_def_reading.specs.LineTables.{FileTable, IsFileTable, TextSections, nth_path}
pub use Rattle.dwz_model.specs.Lists.{In}
unfoldable pub use Rattle.dwz_codes.specs.Rows.{has}
use Rattle.dwz_def_reading.specs.LocLists.{LocList, SpellsList}
use Rattle.dwz_def_reading.specs.Sequences.{StandsFrom}
use Rattle.dwz_def_reading.specs.Shared.{operands_of}
use Rattle.dwz_def_reading.specs.Texts.{IsSlot, IsTextAt}
use Rattle.dwz_def_reading.specs.Trees.{End, Entry, Forest}
use Rattle.dwz_def_reading.specs.Units.{CompileUnit, PartialUnit, RawKind, RawUnit, TypeUnit}
use Rattle.dwz_def_reading.specs.Values.{Bytes, Number, Raw}
use Rattle.dwz_def_reading.specs.Classes.{Class, class_of, kept_width, names_file, names_list}
use Rattle.dwz_def_reading.specs.Classes.{OfAddress, OfBlock, OfCommonEntry, OfCommonText, OfConstant, OfExpression, OfFlag, OfIndex}
use Rattle.dwz_def_reading.specs.Classes.{OfInfoEntry, OfListIndex, OfOffset, OfSignature, OfText, OfTextBySlot, OfTextInLineStr, OfTextInStr}
use Rattle.dwz_def_reading.specs.Classes.{OfUnitEntry, Unread}

-- ---- what a value's meaning stands on

-- the sections that values speak of; one that isn't there counts as empty
pub record Sources : Type 0 where
  pub strs : List ℕ
  pub line_strs : List ℕ
  pub offsets : List ℕ
  pub line : List ℕ
  pub lists : List ℕ

-- what a supplementary file (7.3.6) gives to those that refer to it: the places of the entries of its `.debug_info`, what stands for
-- each place in documents, and its `.debug_str`
pub record Common (P : Type 0) : Type 0 where
  pub entries : List ℕ
  pub place : ℕ → P
  pub strs : List ℕ

-- what surrounds the units of a file: its sections, the places of all entries of its `.debug_info`, what stands for each place in
-- documents, and the supplementary file, where there is one
pub record Around (P : Type 0) : Type 0 where
  pub sources : Sources
  pub all : List ℕ
  pub place : ℕ → P
  pub common : Option (Common P)

-- the same, with the unit's place and its root, and the places of the unit's entries
pub record MeaningContext (P : Type 0) : Type 0 where
  pub around : Around P
  pub unit : ℕ
  pub root : RawEntry
  pub own : List ℕ

unfoldable pub first_raw : ℕ → List RawAttr → Option RawAttr
first_raw name [] = None
first_raw name (a ∷ attrs) = if a.pair.name == name then Some a else first_raw name attrs

abbrev pub number_of : Raw → ℤ
number_of (Number z) = z
number_of (Bytes bytes) = pos 0

abbrev pub bytes_of : Raw → List ℕ
bytes_of (Number z) = []
bytes_of (Bytes bytes) = bytes

-- the number of an attribute without a sign
abbrev pub offset_of : RawAttr → ℕ
offset_of a = reach (number_of a.raw)

abbrev pub base_in : Option RawAttr → Option ℕ
base_in None = None
base_in (Some a) = if a.pair.form == 0x17 then Some (offset_of a) else None

-- the offset that the root's first attribute of a name holds, where it has the form sec_offset
abbrev pub offset_by : {P : Type 0} → ℕ → MeaningContext P → Option ℕ
offset_by name s = base_in (first_raw name s.root.attrs)

-- DW_AT_str_offsets_base, DW_AT_loclists_base, DW_AT_stmt_list
abbrev pub str_offsets_base : {P : Type 0} → MeaningContext P → Option ℕ
str_offsets_base s = offset_by 0x72 s

abbrev pub loclists_base : {P : Type 0} → MeaningContext P → Option ℕ
loclists_base s = offset_by 0x8c s

abbrev pub stmt_list : {P : Type 0} → MeaningContext P → Option ℕ
stmt_list s = offset_by 0x10 s

-- ---- what operands name

-- where a number leads that is counted from the unit's first byte, or from the section's
abbrev pub leads_to : {P : Type 0} → MeaningContext P → Base → ℕ → ℕ
leads_to s FromUnit number = s.unit + number
leads_to s FromInfo number = number

-- the entries that may stand there: those of the unit, or all
abbrev pub entries_for : {P : Type 0} → MeaningContext P → Base → List ℕ
entries_for s FromUnit = s.own
entries_for s FromInfo = s.around.all

abbrev pub target_of : {P : Type 0} → MeaningContext P → Operand → ℕ
target_of s o = leads_to s o.base o.number

-- an expression of the unit, in a section
abbrev pub expr_context : {P : Type 0} → MeaningContext P → ℕ → ExprContext
expr_context s section = record { section = section; names = λ o. has (target_of s o) (entries_for s o.base) }

abbrev pub targets : {P : Type 0} → MeaningContext P → List Operand → List P
targets s operands = map (λ o. s.around.place (target_of s o)) operands

-- ---- the relation: what a value means

-- the text at an offset of the section
pub record IsTextIn {P : Type 0} (section : List ℕ) (offset : ℕ) (v : Value P) : Type 0 where
  pub text : List ℕ
  pub stands : IsTextAt section offset text
  pub value : v ≡ only (Text text)

-- the text at the offset that stands in a slot
pub record IsTextBySlot {P : Type 0} (s : MeaningContext P) (index : ℕ) (v : Value P) : Type 0 where
  pub base : ℕ
  pub is_base : str_offsets_base s ≡ Some base
  pub offset : ℕ
  pub slot : IsSlot s.around.sources.offsets base index offset
  pub text : IsTextIn s.around.sources.strs offset v

-- the entry that begins at a place, one of these
abbrev pub IsEntryAmong : {P : Type 0} → (ℕ → P) → List ℕ → ℕ → Value P → Type 0
IsEntryAmong place places p v = In p places × (v ≡ ref (place p))

-- an entry, or a text, of the supplementary file
abbrev pub IsCommonEntry : {P : Type 0} → MeaningContext P → ℕ → Value P → Type 0
IsCommonEntry {P} s p v = (c : Common P) × (s.around.common ≡ Some c) × IsEntryAmong c.place c.entries p v

abbrev pub IsCommonText : {P : Type 0} → MeaningContext P → ℕ → Value P → Type 0
IsCommonText {P} s offset v = (c : Common P) × (s.around.common ≡ Some c) × IsTextIn c.strs offset v

-- ---- files (2.14): the row of the unit's line table

abbrev pub text_sections_of : Sources → TextSections
text_sections_of sources = record { strs = sources.strs; line_strs = sources.line_strs }

-- the path in the row of that number; none is negative
abbrev pub path_by : FileTable → ℤ → Option (List ℕ)
path_by t (pos n) = nth_path t.paths n
path_by t (negsuc n) = None

pub record IsFileRow {P : Type 0} (s : MeaningContext P) (place : ℕ) (number : ℤ) (v : Value P) : Type 0 where
  pub table : FileTable
  pub stands : IsFileTable (text_sections_of s.around.sources) s.around.sources.line place table
  pub path : List ℕ
  pub is_path : path_by table number ≡ Some path
  pub value : v ≡ only (File (Some path))

-- in a unit without a line table 0 is no file, and no other number is one
abbrev pub IsFileBy : {P : Type 0} → Option ℕ → MeaningContext P → ℤ → Value P → Type 0
IsFileBy None s number v = (number ≡ pos 0) × (v ≡ only (File None))
IsFileBy (Some place) s number v = IsFileRow s place number v

abbrev pub IsFileNumber : {P : Type 0} → MeaningContext P → RawAttr → Value P → Type 0
IsFileNumber s a v = IsFileBy (stmt_list s) s (number_of a.raw) v

-- ---- expressions (2.5) and location lists (2.6.2)

-- where the bytes of a block begin
abbrev pub block_begins : RawAttr → ℕ
block_begins a = a.end - length (bytes_of a.raw)

abbrev pub expr_value : {P : Type 0} → MeaningContext P → Expression → Value P
expr_value s e = record { plain = Expr (parts_of e); refs = targets s e.operands; address = e.address }

pub record IsExpression {P : Type 0} (s : MeaningContext P) (a : RawAttr) (v : Value P) : Type 0 where
  pub expression : Expression
  pub spelled : SpellsExpr (expr_context s 1) expression (block_begins a) (bytes_of a.raw)
  pub value : v ≡ expr_value s expression

-- one of them has an address
abbrev pub any_with_address : List Expression → Bool
any_with_address exprs = list_any (λ e. e.address) exprs

-- the expressions of a list, in order
abbrev pub loc_value : {P : Type 0} → MeaningContext P → LocList → Value P
loc_value s l =
    record { plain = Loc (map parts_of l.exprs); refs = targets s (operands_of l.exprs); address = any_with_address l.exprs }

-- the list at a place of `.debug_loclists`
pub record IsLocList {P : Type 0} (s : MeaningContext P) (place : ℕ) (v : Value P) : Type 0 where
  pub list : LocList
  pub within : place < length s.around.sources.lists
  pub stands : StandsFrom (SpellsList (expr_context s 7)) s.around.sources.lists place list
  pub value : v ≡ loc_value s list

-- the list at the offset that stands in a slot, counted from the base (7.29)
pub record IsListBySlot {P : Type 0} (s : MeaningContext P) (index : ℕ) (v : Value P) : Type 0 where
  pub base : ℕ
  pub is_base : loclists_base s ≡ Some base
  pub offset : ℕ
  pub slot : IsSlot s.around.sources.lists base index offset
  pub list : IsLocList s (base + offset) v

abbrev pub IfSo : Bool → Type 0 → Type 0 → Type 0
IfSo true P Q = P
IfSo false P Q = Q

-- the number of a constant
abbrev pub constant_value : {P : Type 0} → RawAttr → Value P
constant_value a = only (Num (kept_width a.pair.name a.pair.form (offset_of a)) (number_of a.raw))

abbrev pub flag_value : {P : Type 0} → RawAttr → Value P
flag_value a = only (Flag (a.pair.form == 0x19 || not (offset_of a == 0)))

-- a value of that class
abbrev pub MeansAs : {P : Type 0} → Class → MeaningContext P → RawAttr → Value P → Type 0
MeansAs OfAddress s a v = v ≡ only (Addr (offset_of a))
MeansAs OfBlock s a v = v ≡ only (Block (bytes_of a.raw))
MeansAs OfConstant s a v = IfSo (names_file a.pair.name) (IsFileNumber s a v) (v ≡ constant_value a)
MeansAs OfFlag s a v = v ≡ flag_value a
MeansAs OfText s a v = v ≡ only (Text (bytes_of a.raw))
MeansAs OfTextInStr s a v = IsTextIn s.around.sources.strs (offset_of a) v
MeansAs OfTextInLineStr s a v = IsTextIn s.around.sources.line_strs (offset_of a) v
MeansAs OfTextBySlot s a v = IsTextBySlot s (offset_of a) v
MeansAs OfUnitEntry s a v = IsEntryAmong s.around.place s.own (s.unit + offset_of a) v
MeansAs OfInfoEntry s a v = IsEntryAmong s.around.place s.around.all (offset_of a) v
MeansAs OfSignature s a v = v ≡ only (Sig (offset_of a))
MeansAs OfOffset s a v = IfSo (names_list a.pair.name) (IsLocList s (offset_of a) v) (v ≡ only (Sec (offset_of a)))
MeansAs OfExpression s a v = IsExpression s a v
MeansAs OfListIndex s a v = IsListBySlot s (offset_of a) v
MeansAs OfIndex s a v = v ≡ only (Index (offset_of a))
MeansAs OfCommonEntry s a v = IsCommonEntry s (offset_of a) v
MeansAs OfCommonText s a v = IsCommonText s (offset_of a) v
MeansAs Unread s a v = ⊥

abbrev pub MeansValue : {P : Type 0} → MeaningContext P → RawAttr → Value P → Type 0
MeansValue s a v = MeansAs (class_of a.pair.form) s a v

pub record MeansAttr {P : Type 0} (s : MeaningContext P) (a : RawAttr) (b : Attr P) : Type 0 where
  pub name : b.name ≡ a.pair.name
  pub form : b.form ≡ a.pair.form
  pub raw : b.raw ≡ number_of a.raw
  pub value : MeansValue s a b.value

-- DW_AT_sibling means nothing of its own and is left out
unfoldable pub without_siblings : List RawAttr → List RawAttr
without_siblings [] = []
without_siblings (a ∷ attrs) = if a.pair.name == 0x01 then without_siblings attrs else a ∷ without_siblings attrs

abbrev pub MeanAttrs : {P : Type 0} → MeaningContext P → List RawAttr → List (Attr P) → Type 0
MeanAttrs s [] [] = Unit {0}
MeanAttrs s (a ∷ attrs) (b ∷ others) = MeansAttr s a b × MeanAttrs s attrs others
MeanAttrs s _ _ = ⊥

pub record MeansNode {P : Type 0} (s : MeaningContext P) (e : RawEntry) (d : Node P) : Type 0 where
  pub place : d.at ≡ s.around.place e.at
  pub tag : d.tag ≡ e.tag
  pub attrs : MeanAttrs s (without_siblings e.attrs) d.attrs

abbrev pub MeanEntries : {P : Type 0} → MeaningContext P → Forest RawEntry → Entries P → Type 0
MeanEntries s End End = Unit {0}
MeanEntries s (Entry e f g) (Entry d f' g') = MeansNode s e d × MeanEntries s f f' × MeanEntries s g g'
MeanEntries s _ _ = ⊥

-- the type of a type unit is an entry of that unit
abbrev pub MeansKind : {P : Type 0} → MeaningContext P → RawKind → Kind P → Type 0
MeansKind s CompileUnit k = k ≡ Compile
MeansKind s PartialUnit k = k ≡ Partial
MeansKind s (TypeUnit signature type_offset) k = In (s.unit + type_offset) s.own
    × (k ≡ OfType signature (s.around.place (s.unit + type_offset)))

-- the places of entries, in order
unfoldable pub places_in : Forest RawEntry → List ℕ
places_in End = []
places_in (Entry e children next) = e.at ∷ places_in children ++ places_in next

abbrev pub places_of : RawUnit → List ℕ
places_of u = u.root.at ∷ places_in u.below

unfoldable pub all_places : List RawUnit → List ℕ
all_places [] = []
all_places (u ∷ units) = places_of u ++ all_places units

abbrev pub scope_of : {P : Type 0} → Around P → RawUnit → MeaningContext P
scope_of around u = record { around = around; unit = u.at; root = u.root; own = places_of u }

pub record MeansUnit {P : Type 0} (around : Around P) (u : RawUnit) (v : DwUnit P) : Type 0 where
  pub place : v.at ≡ around.place u.at
  pub kind : MeansKind (scope_of around u) u.kind v.kind
  pub root : MeansNode (scope_of around u) u.root v.root
  pub below : MeanEntries (scope_of around u) u.below v.below

abbrev pub MeanUnits : {P : Type 0} → Around P → List RawUnit → List (DwUnit P) → Type 0
MeanUnits around [] [] = Unit {0}
MeanUnits around (u ∷ units) (v ∷ others) = MeansUnit around u v × MeanUnits around units others
MeanUnits around _ _ = ⊥

-- the units of a file by itself: each place stands for itself
abbrev pub alone : Sources → List RawUnit → Around ℕ
alone sources units = record { sources = sources; all = all_places units; place = λ n. n; common = None }
