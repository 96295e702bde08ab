-- What the units that are written mean: the same units, with places for keys.
use Rattle.std.specs.Prelude.{◌≡◌, ℕ, ◌+◌, ◌-◌, pos, List, [], ◌∷◌, ◌++◌, map, Option, Some, None}
use Rattle.dwz_def_reading.specs.Documents.{Attr, Compile, DwUnit, Entries, Expr, File, Kind, Loc, Node, OfType, Part, Partial, Same, Sec, Text, attr_map, kind_map, only, value_map}
use Rattle.dwz_def_reading.specs.Entries.{Mode, RawAttr}
use Rattle.dwz_def_reading.specs.Lists.{Each, In}
use Rattle.dwz_def_reading.specs.Meanings.{Around, Common, IfSo, MeanUnits, MeansAttr, MeaningContext, all_places, any_with_address, loclists_base, number_of, path_by}
use Rattle.dwz_def_reading.specs.Classes.{OfCommonEntry, OfCommonText, OfConstant}
use Rattle.dwz_def_reading.specs.Classes.{Class}
use Rattle.dwz_def_reading.specs.Classes.{OfExpression, OfInfoEntry, OfListIndex, OfOffset, OfTextBySlot, OfTextInLineStr, OfTextInStr}
use Rattle.dwz_def_reading.specs.Classes.{OfUnitEntry}
use Rattle.dwz_def_reading.specs.Classes.{class_of, names_file, names_list}
use Rattle.dwz_def_reading.specs.Base.{Base}
use Rattle.dwz_def_reading.specs.Base.TheVariants.{Unit as FromUnit, Info as FromInfo}
use Rattle.dwz_def_reading.specs.Documents as document
use Rattle.dwz_def_reading.specs.declared.exprs.Operand.{Operand}
use Rattle.dwz_def_reading.specs.NamedLists.{NamesList}
use Rattle.dwz_def_reading.specs.PatchedLists.{IsPatched}
use Rattle.dwz_def_reading.specs.Shared.{NamedList, NoneShared, own_operands}
use Rattle.dwz_def_tops.specs.Alike.{joined_parts}
use Rattle.dwz_def_reading.specs.Exprs.{ExprContext, Expression, SpellsExpr, parts_of}
use Rattle.dwz_def_reading.specs.LineTables.{FileTable, IsFileTable, TextSections}
use Rattle.dwz_def_encoding.specs.Bases.{Bases, bases_in}
use Rattle.dwz_def_reading.specs.Spelling.{reach}
use Rattle.dwz_def_reading.specs.Texts.{IsSlot, IsTextAt}
use Rattle.dwz_def_reading.specs.Trees.{End, Entry}
use Rattle.dwz_def_reading.specs.Units.{RawUnit, SpellsUnits}
use Rattle.dwz_def_encoding.specs.Placing.{UnitSections}
use Rattle.dwz_def_tops.specs.Shown.{keys, units_keys}
use Rattle.dwz_def_encoding.specs.Writing.{Numbering, base_place, stored}

-- ---- the units with places for keys; the number of an attribute is the one that it stores there

abbrev pub placed_attr : {K P : Type 0} → Numbering K → (K → P) → ℕ → Attr K → Attr P
placed_attr n g unit a = record { name = a.name; form = a.form; raw = number_of (stored n unit a); value = value_map g a.value }

abbrev pub placed_node : {K P : Type 0} → Numbering K → (K → P) → ℕ → Node K → Node P
placed_node n g unit e = record { at = g e.at; tag = e.tag; attrs = map (placed_attr n g unit) e.attrs }

unfoldable pub placed_entries : {K P : Type 0} → Numbering K → (K → P) → ℕ → Entries K → Entries P
placed_entries n g unit End = End
placed_entries n g unit (Entry e children next) = Entry (placed_node n g unit e) (placed_entries n g unit children)
    (placed_entries n g unit next)

abbrev pub placed_unit : {K P : Type 0} → Numbering K → (K → P) → DwUnit K → DwUnit P
placed_unit n g u = record {
  at = g u.at;
  kind = kind_map g u.kind;
  root = placed_node n g (n.place u.at) u.root;
  below =
      placed_entries n g (n.place u.at) u.below;
}

abbrev pub placed_units : {K P : Type 0} → Numbering K → (K → P) → List (DwUnit K) → List (DwUnit P)
placed_units n g units = map (placed_unit n g) units

-- ---- what is asked of units so that they mean that

-- the names of a unit's entries, and of those of all units
abbrev pub entry_keys : {K : Type 0} → DwUnit K → List K
entry_keys u = u.root.at ∷ keys u.below

unfoldable pub all_entry_keys : {K : Type 0} → List (DwUnit K) → List K
all_entry_keys [] = []
all_entry_keys (u ∷ units) = entry_keys u ++ all_entry_keys units

-- the attribute was read in a file, and its places have names
pub record WasRead {K : Type 0} (a : Attr K) : Type 0 where
  pub scope : MeaningContext ℕ
  pub old : RawAttr
  pub read : Attr ℕ
  pub means : MeansAttr scope old read
  pub name : ℕ → K
  pub same : a ≡ attr_map name read

-- What units are written for: the sections that they speak of, and what of `.debug_str` of the common file they speak of;
-- `.debug_loclists` as it was read, the lists that units named there, and by the place of a unit the names after of places before that it
-- named; the keys of all entries of the file, and of those of the common file.
pub record Tells (K : Type 0) : Type 0 where
  pub strs : List ℕ
  pub line_strs : List ℕ
  pub offsets : List ℕ
  pub line : List ℕ
  pub common_strs : List ℕ
  pub lists : List ℕ
  pub named : List NamedList
  pub name : (unit place : ℕ) → K
  pub all : List K
  pub common : List K

-- what is known of a unit: its key, the keys of its entries, and where its slots, its line table and its lists begin
pub record Own (K : Type 0) : Type 0 where
  pub at : K
  pub keys : List K
  pub bases : Bases

abbrev pub own_of : {K : Type 0} → DwUnit K → Own K
own_of u = record { at = u.at; keys = entry_keys u; bases = bases_in u }

-- its text stands in the section, at the number that it stores
pub record TextSays {K : Type 0} (section : List ℕ) (a : Attr K) : Type 0 where
  pub text : List ℕ
  pub stands : IsTextAt section (reach a.raw) text
  pub value : a.value ≡ only (Text text)

-- its text stands in `.debug_str`, at the offset in a slot
pub record SlotSays {K : Type 0} (t : Tells K) (slots : Option ℕ) (a : Attr K) : Type 0 where
  pub base : ℕ
  pub is_base : slots ≡ Some base
  pub offset : ℕ
  pub slot : IsSlot t.offsets base (reach a.raw) offset
  pub text : List ℕ
  pub stands : IsTextAt t.strs offset text
  pub value : a.value ≡ only (Text text)

-- its file is the row with that number of the line table at a place of the section
pub record RowSays {K : Type 0} (texts : TextSections) (section : List ℕ) (place : ℕ) (a : Attr K) : Type 0 where
  pub table : FileTable
  pub stands : IsFileTable texts section place table
  pub path : List ℕ
  pub is_path : path_by table a.raw ≡ Some path
  pub value : a.value ≡ only (File (Some path))

-- the same of the line table of a unit, or there is none, and it is no file
abbrev pub FileSays : {K : Type 0} → TextSections → List ℕ → Option ℕ → Attr K → Type 0
FileSays texts section None a = (a.raw ≡ pos 0) × (a.value ≡ only (File None))
FileSays texts section (Some place) a = RowSays texts section place a

-- the sections in which line tables have texts
abbrev pub told_texts : {K : Type 0} → Tells K → TextSections
told_texts t = record { strs = t.strs; line_strs = t.line_strs }

-- an operand names an entry of its unit, or of any unit of the file, as its number is counted
abbrev pub OperandIn : {K : Type 0} → Tells K → Own K → Base → K → Type 0
OperandIn t own FromUnit k = In k own.keys
OperandIn t own FromInfo k = In k t.all

abbrev pub OperandsIn : {K : Type 0} → Tells K → Own K → List Part → List K → Type 0
OperandsIn t own [] [] = Unit {0}
OperandsIn t own (Same bytes ∷ parts) refs = OperandsIn t own parts refs
OperandsIn t own (document.Operand width uleb base ∷ parts) (k ∷ refs) = OperandIn t own base k × OperandsIn t own parts refs
OperandsIn t own _ _ = ⊥

-- the parts are those of an expression, the value has an address if that has, and its operands name such entries
pub record ExprSays {K : Type 0} (t : Tells K) (own : Own K) (a : Attr K) : Type 0 where
  pub context : ExprContext
  pub expression : Expression
  pub start : ℕ
  pub bytes : List ℕ
  pub spelled : SpellsExpr context expression start bytes
  pub plain : a.value.plain ≡ Expr (parts_of expression)
  pub address : a.value.address ≡ expression.address
  pub operands : OperandsIn t own (parts_of expression) a.value.refs

-- where a number led that was counted from the unit, or from the section
abbrev pub place_counted : Base → ℕ → ℕ → ℕ
place_counted FromUnit unit number = unit + number
place_counted FromInfo unit number = number

abbrev pub led_to : ℕ → Operand → ℕ
led_to unit o = place_counted o.base unit o.number

-- It names a list that was read, which is one of those of the file, and has an address if that has; the list's operands name entries of
-- the unit, or of any unit of the file, as their numbers are counted: those that they named.
pub record ListSays {K : Type 0} (t : Tells K) (own : Own K) (a : Attr K) : Type 0 where
  pub scope : MeaningContext ℕ
  pub section : scope.around.sources.lists ≡ t.lists
  pub base : loclists_base scope ≡ own.bases.lists
  pub unit : t.name scope.unit scope.unit ≡ own.at
  pub old : RawAttr
  pub name : old.pair.name ≡ a.name
  pub form : old.pair.form ≡ a.form
  pub raw : number_of old.raw ≡ a.raw
  pub list : NamedList
  pub there : In list t.named
  pub names : NamesList scope old list
  pub plain : a.value.plain ≡ Loc (map parts_of list.list.exprs)
  pub address : a.value.address ≡ any_with_address list.list.exprs
  pub refs : a.value.refs ≡ map (λ o. t.name list.unit (led_to list.unit o)) (own_operands list)
  pub operands : OperandsIn t own (joined_parts (map parts_of list.list.exprs)) a.value.refs

-- A reference names an entry of its unit, of any unit of the file, or of the common file, as its form says; a text stands where its
-- form says, a file where its number does; an expression and a location list name entries so too; any other offset is the number that
-- is stored; any other attribute was read.
abbrev pub SaysAs : {K : Type 0} → Class → Tells K → Own K → Attr K → Type 0
SaysAs OfUnitEntry t own a = Each (λ k. In k own.keys) a.value.refs
SaysAs OfInfoEntry t own a = Each (λ k. In k t.all) a.value.refs
SaysAs OfCommonEntry t own a = Each (λ k. In k t.common) a.value.refs
SaysAs OfTextInStr t own a = TextSays t.strs a
SaysAs OfTextInLineStr t own a = TextSays t.line_strs a
SaysAs OfTextBySlot t own a = SlotSays t own.bases.slots a
SaysAs OfExpression t own a = ExprSays t own a
SaysAs OfOffset t own a = IfSo (names_list a.name) (ListSays t own a) (a.value ≡ only (Sec (reach a.raw)))
SaysAs OfListIndex t own a = ListSays t own a
SaysAs OfCommonText t own a = TextSays t.common_strs a
SaysAs OfConstant t own a = IfSo (names_file a.name) (FileSays (told_texts t) t.line own.bases.line a) (WasRead a)
SaysAs _ t own a = WasRead a

abbrev pub AttrSays : {K : Type 0} → Tells K → Own K → Attr K → Type 0
AttrSays t own a = SaysAs (class_of a.form) t own a

abbrev pub NodeSays : {K : Type 0} → Tells K → Own K → Node K → Type 0
NodeSays t own e = Each (AttrSays t own) e.attrs

abbrev pub EntriesSay : {K : Type 0} → Tells K → Own K → Entries K → Type 0
EntriesSay t own End = Unit {0}
EntriesSay t own (Entry e children next) = NodeSays t own e × EntriesSay t own children × EntriesSay t own next

-- the type of a type unit is an entry of that unit
abbrev pub KindSays : {K : Type 0} → List K → Kind K → Type 0
KindSays own Compile = Unit {0}
KindSays own (OfType signature main) = In main own
KindSays own Partial = Unit {0}

pub record UnitSays {K : Type 0} (t : Tells K) (u : DwUnit K) : Type 0 where
  pub kind : KindSays (entry_keys u) u.kind
  pub root : NodeSays t (own_of u) u.root
  pub below : EntriesSay t (own_of u) u.below

abbrev pub UnitsSay : {K : Type 0} → Tells K → List (DwUnit K) → Type 0
UnitsSay t units = Each (UnitSays t) units

-- ---- where they are read back

-- the number of an operand after, in a unit that had that place: that of what it named, counted as before
abbrev pub number_after : {K : Type 0} → Numbering K → (ℕ → K) → ℕ → Operand → ℕ
number_after n name unit o = n.place (name (led_to unit o)) - base_place (n.place (name unit)) o.base

-- the section has these numbers in place of those that were read (DWARF 5, 7.7.3), and else the bytes that were there
pub record AreRenumbered {K : Type 0} (n : Numbering K) (t : Tells K) (new : List ℕ) : Type 0 where
  pub number : ℕ → ℕ
  pub are : (l : NamedList) → In l t.named → (o : Operand) → In o (own_operands l) → number o.at ≡ number_after n (t.name l.unit) l.unit o
  pub patched : IsPatched t.named number t.lists new

-- The file's own places, and those that the common file gives, are where its keys stand; its sections are those that are spoken of, the
-- common file has the texts that are, and location lists, which shared nothing, have the numbers of where things stand.
pub record IsAround {K P : Type 0} (n : Numbering K) (g : K → P) (t : Tells K) (keys : List K) (around : Around P) : Type 0 where
  pub strs : around.sources.strs ≡ t.strs
  pub line_strs : around.sources.line_strs ≡ t.line_strs
  pub offsets : around.sources.offsets ≡ t.offsets
  pub line : around.sources.line ≡ t.line
  pub common_strs : (at : ℕ) (text : List ℕ) → IsTextAt t.common_strs at text → (c : Common P) × (around.common ≡ Some c)
      × IsTextAt c.strs at text
  pub none_shared : NoneShared t.named
  pub lists : AreRenumbered n t around.sources.lists
  pub all : around.all ≡ map n.place t.all
  pub place : (k : K) → In k keys → around.place (n.place k) ≡ g k
  pub common : (k : K) → In k t.common → (c : Common P) × (around.common ≡ Some c) × In (n.place k) c.entries × (c.place (n.place k) ≡ g k)

-- ---- what sections say

-- they spell units that stand at the places of their keys, entry by entry, and mean the units with places for keys where these are told
pub record Spells {K : Type 0} (n : Numbering K) (s : UnitSections) (mode : Mode) (units : List (DwUnit K)) : Type 0 where
  pub raw : List RawUnit
  pub spelled : SpellsUnits s.abbrevs mode 0 raw 0 s.info
  pub places : all_places raw ≡ map n.place (all_entry_keys units)
  pub means : (place : K → ℕ) (t : Tells K) (around : Around ℕ) → t.all ≡ all_entry_keys units
      → IsAround n place t (units_keys units) around → UnitsSay t units → MeanUnits around raw (placed_units n place units)
