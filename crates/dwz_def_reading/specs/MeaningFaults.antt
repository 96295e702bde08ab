-- Why a value means nothing: the faults of values, attributes, entries and units.
use Rattle.std.specs.Prelude.{◌≡◌, ◌≢◌, ◌⊎◌, ℕ, ℤ, pos, ◌+◌, ◌<◌, ◌≤◌, true, List, [], ◌∷◌}
use Rattle.std.specs.Prelude.{length, drop, Option, Some, None}
use Rattle.dwz_model.specs.declared.fault.Fault.{Fault}
use Rattle.dwz_model.specs.declared.fault.Reason.TheVariants.{BadFile, BadList, BadReference, BadString}
use Rattle.dwz_def_reading.specs.Documents.{DwUnit, Entries, Kind, Node}
use Rattle.dwz_def_reading.specs.Documents.{Value}
use Rattle.dwz_def_reading.specs.Entries.{RawAttr, RawEntry}
use Rattle.dwz_def_reading.specs.Exprs.{IsExprFault}
use Rattle.dwz_def_reading.specs.Faults.{info_fault}
use Rattle.dwz_def_reading.specs.LineTables.{FileTable, IsFileTable, IsNoFileTable, bad_line_table}
use Rattle.dwz_model.specs.Lists.{In}
use Rattle.dwz_def_reading.specs.LocLists.{IsListFault}
use Rattle.dwz_def_reading.specs.Texts.{IsSlot, NoZero, slot_place}
use Rattle.dwz_def_reading.specs.Trees.{End, Entry, Forest}
use Rattle.dwz_def_reading.specs.Units.{CompileUnit, PartialUnit, RawKind, RawUnit, TypeUnit}
use Rattle.dwz_def_reading.specs.Meanings.{Around, Common, MeanEntries, MeaningContext, MeansKind, MeansNode, MeansUnit, MeansValue}
use Rattle.dwz_def_reading.specs.Meanings.{bytes_of}
use Rattle.dwz_def_reading.specs.Meanings.{block_begins, expr_context, loclists_base, number_of, offset_of, path_by, scope_of, stmt_list}
use Rattle.dwz_def_reading.specs.Meanings.{str_offsets_base, text_sections_of, without_siblings}
use Rattle.dwz_def_reading.specs.Classes.{Class, class_of, names_file, names_list}
use Rattle.dwz_def_reading.specs.Meant.{type_offset_at, unread}
use Rattle.dwz_def_reading.specs.Classes.{OfCommonEntry, OfCommonText, OfConstant, OfExpression, OfInfoEntry, OfListIndex, OfOffset}
use Rattle.dwz_def_reading.specs.Classes.{OfTextBySlot, OfTextInLineStr, OfTextInStr, OfUnitEntry, Unread}

-- ---- why a value means nothing

-- no text stands at the offset
abbrev pub IsNoText : List ℕ → ℕ → Type 0
IsNoText section offset = NoZero (drop offset section)

-- the unit has no base, or the slot isn't whole, or no text stands at its offset
pub record HasBadOffset {P : Type 0} (s : MeaningContext P) (index : ℕ) : Type 0 where
  pub base : ℕ
  pub is_base : str_offsets_base s ≡ Some base
  pub cause : (length s.around.sources.offsets < slot_place base index + 4)
      ⊎ ((offset : ℕ) × IsSlot s.around.sources.offsets base index offset × IsNoText s.around.sources.strs offset)

abbrev pub IsNoSlot : {P : Type 0} → MeaningContext P → ℕ → Type 0
IsNoSlot s index = (str_offsets_base s ≡ None) ⊎ HasBadOffset s index

abbrev pub IsBadString : RawAttr → Type 0 → Fault → Type 0
IsBadString a What f = (f ≡ info_fault a.at BadString) × What

abbrev pub IsBadReference : ℕ → List ℕ → ℕ → Fault → Type 0
IsBadReference at places p f = (f ≡ info_fault at BadReference) × (In p places → ⊥)

-- there is no supplementary file, or no entry of it begins there, or no text of it stands at the offset
abbrev pub IsNoCommonEntry : {P : Type 0} → MeaningContext P → ℕ → Type 0
IsNoCommonEntry {P} s p = (s.around.common ≡ None) ⊎ ((c : Common P) × (s.around.common ≡ Some c) × (In p c.entries → ⊥))

abbrev pub IsNoCommonText : {P : Type 0} → MeaningContext P → ℕ → Type 0
IsNoCommonText {P} s offset = (s.around.common ≡ None) ⊎ ((c : Common P) × (s.around.common ≡ Some c) × IsNoText c.strs offset)

-- a line table stands there, and none of its rows has the number
pub record HasNoRow {P : Type 0} (s : MeaningContext P) (place : ℕ) (number : ℤ) : Type 0 where
  pub table : FileTable
  pub stands : IsFileTable (text_sections_of s.around.sources) s.around.sources.line place table
  pub none : path_by table number ≡ None

-- the unit has no line table, and the number isn't 0; or its table is bad; or no row has the number
abbrev pub HasFileFaultBy : {P : Type 0} → Option ℕ → MeaningContext P → RawAttr → Fault → Type 0
HasFileFaultBy None s a f = (f ≡ info_fault a.at BadFile) × (number_of a.raw ≢ pos 0)
HasFileFaultBy (Some place) s a f =
    ((f ≡ bad_line_table place) × IsNoFileTable (text_sections_of s.around.sources) s.around.sources.line place)
    ⊎ ((f ≡ info_fault a.at BadFile) × HasNoRow s place (number_of a.raw))

-- the place is outside the section, or the list that begins there has the fault
abbrev pub HasListFault : {P : Type 0} → MeaningContext P → RawAttr → ℕ → Fault → Type 0
HasListFault s a place f =
    ((f ≡ info_fault a.at BadList) × (length s.around.sources.lists ≤ place))
    ⊎ ((place < length s.around.sources.lists) × IsListFault (expr_context s 7) place (drop place s.around.sources.lists) f)

-- the slot isn't whole, or the list at its offset has the fault
pub record HasFaultBySlot {P : Type 0} (s : MeaningContext P) (a : RawAttr) (index : ℕ) (f : Fault) : Type 0 where
  pub base : ℕ
  pub is_base : loclists_base s ≡ Some base
  pub cause : ((f ≡ info_fault a.at BadList) × (length s.around.sources.lists < slot_place base index + 4))
      ⊎ ((offset : ℕ) × IsSlot s.around.sources.lists base index offset × HasListFault s a (base + offset) f)

abbrev pub HasSlotFault : {P : Type 0} → MeaningContext P → RawAttr → ℕ → Fault → Type 0
HasSlotFault s a index f = ((f ≡ info_fault a.at BadList) × (loclists_base s ≡ None)) ⊎ HasFaultBySlot s a index f

abbrev pub HasFaultAs : {P : Type 0} → Class → MeaningContext P → RawAttr → Fault → Type 0
HasFaultAs OfConstant s a f = (names_file a.pair.name ≡ true) × HasFileFaultBy (stmt_list s) s a f
HasFaultAs OfTextInStr s a f = IsBadString a (IsNoText s.around.sources.strs (offset_of a)) f
HasFaultAs OfTextInLineStr s a f = IsBadString a (IsNoText s.around.sources.line_strs (offset_of a)) f
HasFaultAs OfTextBySlot s a f = IsBadString a (IsNoSlot s (offset_of a)) f
HasFaultAs OfUnitEntry s a f = IsBadReference a.at s.own (s.unit + offset_of a) f
HasFaultAs OfInfoEntry s a f = IsBadReference a.at s.around.all (offset_of a) f
HasFaultAs OfOffset s a f = (names_list a.pair.name ≡ true) × HasListFault s a (offset_of a) f
HasFaultAs OfExpression s a f = IsExprFault (expr_context s 1) (block_begins a) (bytes_of a.raw) f
HasFaultAs OfListIndex s a f = HasSlotFault s a (offset_of a) f
HasFaultAs OfCommonEntry s a f = (f ≡ info_fault a.at BadReference) × IsNoCommonEntry s (offset_of a)
HasFaultAs OfCommonText s a f = (f ≡ info_fault a.at BadString) × IsNoCommonText s (offset_of a)
HasFaultAs Unread s a f = f ≡ unread a
HasFaultAs _ s a f = ⊥

abbrev pub HasFault : {P : Type 0} → MeaningContext P → RawAttr → Fault → Type 0
HasFault s a f = HasFaultAs (class_of a.pair.form) s a f

-- the first of the attributes that has a fault has that one
abbrev pub HaveFault : {P : Type 0} → MeaningContext P → List RawAttr → Fault → Type 0
HaveFault s [] f = ⊥
HaveFault {P} s (a ∷ attrs) f = HasFault s a f ⊎ (((v : Value P) × MeansValue s a v) × HaveFault s attrs f)

abbrev pub HasNodeFault : {P : Type 0} → MeaningContext P → RawEntry → Fault → Type 0
HasNodeFault s e f = HaveFault s (without_siblings e.attrs) f

-- the first of the entries, in preorder, that has a fault has that one
abbrev pub HasEntryFault : {P : Type 0} → MeaningContext P → Forest RawEntry → Fault → Type 0
HasEntryFault s End f = ⊥
HasEntryFault {P} s (Entry e children next) f =
    HasNodeFault s e f
    ⊎ (((d : Node P) × MeansNode s e d)
    × (HasEntryFault s children f ⊎ (((below : Entries P) × MeanEntries s children below) × HasEntryFault s next f)))

abbrev pub HasKindFault : {P : Type 0} → MeaningContext P → RawKind → Fault → Type 0
HasKindFault s CompileUnit f = ⊥
HasKindFault s PartialUnit f = ⊥
HasKindFault s (TypeUnit signature type_offset) f = IsBadReference (type_offset_at s.unit) s.own (s.unit + type_offset) f

-- a type unit's type comes before its entries
abbrev pub HasUnitFault : {P : Type 0} → Around P → RawUnit → Fault → Type 0
HasUnitFault {P} around u f =
    HasKindFault (scope_of around u) u.kind f
    ⊎ (((kind : Kind P) × MeansKind (scope_of around u) u.kind kind)
    × (HasNodeFault (scope_of around u) u.root f
    ⊎ (((root : Node P) × MeansNode (scope_of around u) u.root root) × HasEntryFault (scope_of around u) u.below f)))

-- the first of the units that has a fault has that one
abbrev pub HaveUnitFault : {P : Type 0} → Around P → List RawUnit → Fault → Type 0
HaveUnitFault around [] f = ⊥
HaveUnitFault {P} around (u ∷ units) f =
    HasUnitFault around u f ⊎ (((v : DwUnit P) × MeansUnit around u v) × HaveUnitFault around units f)

-- ---- one answer

-- x has a property, and nothing else has it
pub record IsTheOne {X : Type 0} (Is : X → Type 0) (x : X) : Type 0 where
  pub is : Is x
  pub alone : (y : X) → Is y → y ≡ x

-- just one of two holds: one thing has the one property and nothing the other, or the other way round
abbrev pub ExactlyOne : {X Y : Type 0} → (X → Type 0) → (Y → Type 0) → Type 0
ExactlyOne {X} {Y} Is Other =
    ((x : X) × IsTheOne Is x × ((y : Y) → Other y → ⊥)) ⊎ ((y : Y) × IsTheOne Other y × ((x : X) → Is x → ⊥))
