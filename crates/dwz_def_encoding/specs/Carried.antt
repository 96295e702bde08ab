-- Inner: units with what was read in a file, before the forms of their references are chosen.
use Rattle.std.specs.Prelude.{◌≡◌, ◌≢◌, ◌⊎◌, ℕ, pos, ◌<◌, ◌≤◌, ◌^◌, Bool, true, false, List, length, Option, Some, None}
use Rattle.dwz_def_reading.specs.Forms.{form_rows}
use Rattle.dwz_def_reading.specs.Abbrevs.{SpellsPair}
use Rattle.dwz_def_reading.specs.Documents.{Attr, DwUnit, Entries, Expr, File, Node, Plain, Sec, only, ref}
use Rattle.dwz_def_reading.specs.LinesWritten.{AreTexts}
use Rattle.dwz_def_reading.specs.ElfLayout.{too_large}
use Rattle.dwz_def_reading.specs.Entries.{RawAttr}
use Rattle.dwz_def_reading.specs.Lists.{Each, In}
use Rattle.dwz_def_reading.specs.Meanings.{IfSo}
use Rattle.dwz_def_reading.specs.Classes.{OfCommonText, OfConstant, OfExpression, OfListIndex, OfOffset, OfTextBySlot}
use Rattle.dwz_def_reading.specs.Classes.{Class}
use Rattle.dwz_def_reading.specs.Meanings.{MeaningContext, Sources}
use Rattle.dwz_def_reading.specs.Classes.{OfTextInLineStr, OfTextInStr, Unread}
use Rattle.dwz_def_reading.specs.Classes.{class_of, names_file, names_list}
use Rattle.dwz_def_reading.specs.Trees.{End, Entry}
use Rattle.dwz_def_reading.specs.Values.{AreBytes, SpellsValue}
use Rattle.dwz_def_tops.specs.Seen.{Named, Seen, all_seen}
use Rattle.dwz_def_tops.specs.Shown.{units_keys}
use Rattle.dwz_def_encoding.specs.Bases.{Bases, bases_in, bases_of}
use Rattle.dwz_def_encoding.specs.Fitting.{EachAttr}
use Rattle.dwz_def_encoding.specs.Placing.{CommonUnit, Forms, NewUnit, OldUnit, UnitRole, holder_of, lines_bytes, texts_bytes}
use Rattle.dwz_def_encoding.specs.Writing.{text_or_empty}
use Rattle.dwz_def_encoding.specs.Meant.{KindSays, ListSays, OperandsIn, Own, Tells, WasRead, entry_keys, own_of}
use Rattle.dwz_def_encoding.specs.Sound.{SoundKind}

-- where an attribute may have been read: in which unit of which file, and what it was there
abbrev pub From : Type 1
From = MeaningContext ℕ → RawAttr → Type 0

-- in the file with these sections, or in any file
abbrev pub OfFile : Sources → From
OfFile sources s a = s.around.sources ≡ sources

abbrev pub OfAny : From
OfAny s a = Unit {0}

-- which attributes are carried: not those that name a text of a common file
abbrev pub IsBuiltAs : Class → Type 0
IsBuiltAs OfCommonText = ⊥
IsBuiltAs Unread = ⊥
IsBuiltAs _ = Unit {0}

abbrev pub IsBuilt : ℕ → Type 0
IsBuilt form = IsBuiltAs (class_of form)

-- an attribute other than DW_AT_sibling, as a file stores it: its name and form stand in a declaration, and bytes spell its value
pub record IsStored (old : RawAttr) : Type 0 where
  pub pair_bytes : List ℕ
  pub pair : SpellsPair pair_bytes old.pair
  pub no_sibling : old.pair.name ≢ 0x01
  pub bytes : List ℕ
  pub are_bytes : AreBytes bytes
  pub spelled : SpellsValue form_rows old.pair bytes old.raw

-- the attribute was read in a file with such sources, which stores it so, in a unit of which that is known
pub record CameFrom {K : Type 0} (from : From) (origin : Bases) (a : Attr K) : Type 0 where
  pub was_read : WasRead a
  pub file : from was_read.scope was_read.old
  pub unit : bases_of was_read.scope ≡ origin
  pub stored : IsStored was_read.old
  pub built : IsBuilt a.form

-- DW_AT_import, which names an entry of any unit
pub record Imports {K : Type 0} (a : Attr K) : Type 0 where
  pub name : a.name ≡ 0x18
  pub form : a.form ≡ 0x10
  pub target : K
  pub value : a.value ≡ ref target

-- DW_AT_stmt_list of a partial unit, which names a line table
pub record NamesLines {K : Type 0} (a : Attr K) : Type 0 where
  pub name : a.name ≡ 0x10
  pub form : a.form ≡ 0x17
  pub place : ℕ
  pub raw : a.raw ≡ pos place
  pub fits : place < 2 ^ 32
  pub value : a.value ≡ only (Sec place)

abbrev pub CarriedAttr : {K : Type 0} → From → Bases → Attr K → Type 0
CarriedAttr from origin a = CameFrom from origin a ⊎ (Imports a ⊎ NamesLines a)

pub record CarriedNode {K : Type 0} (from : From) (origin : Bases) (e : Node K) : Type 0 where
  pub some_tag : 0 < e.tag
  pub tag_fits : e.tag ≤ 0xffff
  pub attrs : Each (CarriedAttr from origin) e.attrs

abbrev pub CarriedEntries : {K : Type 0} → From → Bases → Entries K → Type 0
CarriedEntries from origin End = Unit {0}
CarriedEntries from origin (Entry e children next) = CarriedNode from origin e × CarriedEntries from origin children
    × CarriedEntries from origin next

-- the root has the tag of its kind, and the type of a type unit is an entry of that unit
pub record CarriedUnit {K : Type 0} (from : From) (origin : Bases) (u : DwUnit K) : Type 0 where
  pub kind : SoundKind u.kind u.root.tag
  pub main : KindSays (entry_keys u) u.kind
  pub root : CarriedNode from origin u.root
  pub below : CarriedEntries from origin u.below

-- ---- what is read is carried, where its attributes are among those that are written

abbrev pub BuiltAttr : {K : Type 0} → Attr K → Type 0
BuiltAttr a = IsBuilt a.form

abbrev pub BuiltEntries : {K : Type 0} → Entries K → Type 0
BuiltEntries End = Unit {0}
BuiltEntries (Entry e children next) = Each BuiltAttr e.attrs × BuiltEntries children × BuiltEntries next

abbrev pub BuiltUnit : {K : Type 0} → DwUnit K → Type 0
BuiltUnit u = Each BuiltAttr u.root.attrs × BuiltEntries u.below

-- ---- what else is asked, so that values can be written where they are

-- each reference names an entry of the file, or of the common file
abbrev pub ClosedIn : {K : Type 0} → Tells K → List (DwUnit K) → Type 0
ClosedIn {K} t units =
    (e : Seen K) (a : Named K) (k : K) → In e (all_seen units) → In a e.attrs → In k a.value.refs → In k t.all ⊎ In k t.common

-- none of the common file's entries is one of the file
abbrev pub ApartIn : {K : Type 0} → Tells K → List (DwUnit K) → Type 0
ApartIn {K} t units = (k : K) → In k t.common → In k (units_keys units) → ⊥

-- the text of the attribute is one of these, where it has a place in a section
abbrev pub TextAs : {K : Type 0} → Class → List (List ℕ) → Attr K → Type 0
TextAs OfTextInStr texts a = In (text_or_empty a.value.plain) texts
TextAs OfTextInLineStr texts a = In (text_or_empty a.value.plain) texts
TextAs OfTextBySlot texts a = In (text_or_empty a.value.plain) texts
TextAs _ texts a = Unit {0}

abbrev pub AttrTexts : {K : Type 0} → List (List ℕ) → Attr K → Type 0
AttrTexts texts a = TextAs (class_of a.form) texts a

abbrev pub UnitTexts : {K : Type 0} → List (List ℕ) → DwUnit K → Type 0
UnitTexts texts u = Each (AttrTexts texts) u.root.attrs × EachAttr (AttrTexts texts) u.below

-- the path of a file is one of these
abbrev pub PathAs : Plain → List (List ℕ) → Type 0
PathAs (File (Some path)) paths = In path paths
PathAs _ paths = Unit {0}

abbrev pub AttrPaths : {K : Type 0} → List (List ℕ) → Attr K → Type 0
AttrPaths paths a = PathAs a.value.plain paths

abbrev pub UnitPaths : {K : Type 0} → List (List ℕ) → DwUnit K → Type 0
UnitPaths paths u = Each (AttrPaths paths) u.root.attrs × EachAttr (AttrPaths paths) u.below

-- all texts are in `.debug_str` of the common file, and all paths in its line table
pub record CommonStands {K : Type 0} (f : Forms K) (t : Tells K) (units : List (DwUnit K)) : Type 0 where
  pub strs : t.strs ≡ texts_bytes f.texts
  pub texts : Each (UnitTexts f.texts) units
  pub line : t.line ≡ lines_bytes f.paths
  pub few : length t.line < too_large
  pub are_texts : AreTexts f.paths
  pub paths : Each (UnitPaths f.paths) units

-- the texts that a file shares are those of the common file
pub record SharedStand {K : Type 0} (f : Forms K) (t : Tells K) : Type 0 where
  pub strs : t.common_strs ≡ texts_bytes f.shared
  pub few : length t.common_strs < 2 ^ 32

-- the sections that units are written for are these, and so is that of slots from which forms are chosen
pub record IsOf {K : Type 0} (numbers : List ℕ) (t : Tells K) (s : Sources) : Type 0 where
  pub strs : t.strs ≡ s.strs
  pub line_strs : t.line_strs ≡ s.line_strs
  pub offsets : t.offsets ≡ s.offsets
  pub line : t.line ≡ s.line
  pub slots : numbers ≡ s.offsets

-- the sections of a file are those that were read, and it shares texts of the common file; or they are those of the common file
abbrev pub SectionsStand : {K : Type 0} → Bool → From → Forms K → Tells K → List (DwUnit K) → Type 0
SectionsStand true from f t units = (length t.strs < 2 ^ 32) × CommonStands f t units
SectionsStand false from f t units =
    (length t.strs < 2 ^ 32)
    × ((s : MeaningContext ℕ) (a : RawAttr) → from s a → IsOf f.offsets t s.around.sources)
    × SharedStand f t

-- the attribute numbers a file of the line table
abbrev pub NumbersFile : {K : Type 0} → Attr K → Type 0
NumbersFile a = (class_of a.form ≡ OfConstant) × (names_file a.name ≡ true)

-- the line table of the common file, for a path; and none, for no file
abbrev pub LineFor : Option ℕ → Plain → Type 0
LineFor line (File (Some path)) = line ≡ Some 0
LineFor line _ = line ≡ None

-- What is asked of such an attribute: in a partial unit the root names the line table of the unit that the attribute comes from; in the
-- common file that of the common file, where there is a path.
abbrev pub FileStands : {K : Type 0} → UnitRole → (line origin : Option ℕ) → Attr K → Type 0
FileStands OldUnit line origin a = Unit {0}
FileStands NewUnit line origin a = NumbersFile a → line ≡ origin
FileStands CommonUnit line origin a = NumbersFile a → LineFor line a.value.plain

-- the values of an old unit come from it
abbrev pub ComesFromItself : UnitRole → (own origin : Bases) → Type 0
ComesFromItself OldUnit own origin = own ≡ origin
ComesFromItself _ own origin = Unit {0}

pub record BasesStand {K : Type 0} (f : Forms K) (u : DwUnit K) : Type 0 where
  pub own : ComesFromItself (holder_of f.is_common u.kind) (bases_in u) (f.origin u.at)
  pub root : Each (FileStands (holder_of f.is_common u.kind) (bases_in u).line (f.origin u.at).line) u.root.attrs
  pub below : EachAttr (FileStands (holder_of f.is_common u.kind) (bases_in u).line (f.origin u.at).line) u.below

-- the operands of an expression name entries of its unit, or of the file, as their numbers are counted, and so do those of a list
abbrev pub ExprIn : {K : Type 0} → Tells K → Own K → Plain → List K → Type 0
ExprIn t own (Expr parts) refs = OperandsIn t own parts refs
ExprIn t own _ refs = ⊥

abbrev pub OperandsStandAs : {K : Type 0} → Class → Tells K → Own K → Attr K → Type 0
OperandsStandAs OfExpression t own a = ExprIn t own a.value.plain a.value.refs
OperandsStandAs OfOffset t own a = IfSo (names_list a.name) (ListSays t own a) (Unit {0})
OperandsStandAs OfListIndex t own a = ListSays t own a
OperandsStandAs _ t own a = Unit {0}

abbrev pub AttrOperands : {K : Type 0} → Tells K → Own K → Attr K → Type 0
AttrOperands t own a = OperandsStandAs (class_of a.form) t own a

abbrev pub OperandsStand : {K : Type 0} → Tells K → DwUnit K → Type 0
OperandsStand t u = Each (AttrOperands t (own_of u)) u.root.attrs × EachAttr (AttrOperands t (own_of u)) u.below
