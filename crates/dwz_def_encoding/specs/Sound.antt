-- Inner: what can be written so that it is read again: units whose references have their forms.
use Rattle.std.specs.Prelude.{◌≡◌, ◌≢◌, ℕ, ◌<◌, ◌≤◌, ◌^◌, true, List, length}
use Rattle.dwz_def_reading.specs.Spelling.{fits_i64}
use Rattle.dwz_def_reading.specs.Documents.{Attr, Compile, DwUnit, Entries, Kind, Node, OfType, Partial, ref}
use Rattle.dwz_def_reading.specs.Classes.{OfCommonEntry, OfExpression, OfInfoEntry, OfUnitEntry, Unread}
use Rattle.dwz_def_reading.specs.Classes.{Class, class_of}
use Rattle.dwz_def_reading.specs.Trees.{End, Entry}
use Rattle.dwz_def_reading.specs.Values.{AreBytes, Raw, SpellsValue, written_rows}
use Rattle.dwz_def_reading.specs.Lists.{Each}
use Rattle.dwz_def_encoding.specs.Placing.{zeros}
use Rattle.dwz_def_encoding.specs.Writing.{expr_bytes, pair_of, stored_as}

-- some bytes spell what the attribute stores, in its form
pub record HasBytes {K : Type 0} (a : Attr K) (raw : Raw) : Type 0 where
  pub bytes : List ℕ
  pub are_bytes : AreBytes bytes
  pub spelled : SpellsValue written_rows (pair_of a) bytes raw

-- the attribute has that form, and its value is an entry
pub record NamesEntry {K : Type 0} (f : ℕ) (a : Attr K) : Type 0 where
  pub form : a.form ≡ f
  pub target : K
  pub value : a.value ≡ ref target

-- the attribute is an exprloc (7.5.5), whose length fits 64 bits
pub record StoresExpr {K : Type 0} (a : Attr K) : Type 0 where
  pub form : a.form ≡ 0x18
  pub short : length (expr_bytes zeros 0 a.value.plain a.value.refs) < 2 ^ 64

-- A value that its form can store: an entry of the unit in DW_FORM_ref4, one of any unit in DW_FORM_ref_addr, one of the common file
-- in DW_FORM_ref_sup4; an expression; and in any other form what has bytes, of which no part is the number of a key.
abbrev pub StoresAs : {K : Type 0} → Class → Attr K → Type 0
StoresAs OfUnitEntry a = NamesEntry 0x13 a
StoresAs OfInfoEntry a = NamesEntry 0x10 a
StoresAs OfCommonEntry a = NamesEntry 0x1c a
StoresAs OfExpression a = StoresExpr a
StoresAs c a = HasBytes a (stored_as c zeros 0 a)

-- an attribute other than DW_AT_sibling, as a declaration and an entry hold it, of a form that is read
pub record SoundAttr {K : Type 0} (a : Attr K) : Type 0 where
  pub some_name : 0 < a.name
  pub name_fits : a.name ≤ 0xffff
  pub no_sibling : a.name ≢ 0x01
  pub known : class_of a.form ≢ Unread
  pub constant : a.form ≡ 0x21 → fits_i64 a.raw ≡ true
  pub value : StoresAs (class_of a.form) a

pub record SoundNode {K : Type 0} (e : Node K) : Type 0 where
  pub some_tag : 0 < e.tag
  pub tag_fits : e.tag ≤ 0xffff
  pub attrs : Each SoundAttr e.attrs

abbrev pub SoundEntries : {K : Type 0} → Entries K → Type 0
SoundEntries End = Unit {0}
SoundEntries (Entry e children next) = SoundNode e × SoundEntries children × SoundEntries next

-- the tag of a root is that of its unit's kind: DW_TAG_compile_unit, DW_TAG_type_unit, DW_TAG_partial_unit
abbrev pub SoundKind : {K : Type 0} → Kind K → ℕ → Type 0
SoundKind Compile tag = tag ≡ 0x11
SoundKind (OfType signature main) tag = (tag ≡ 0x41) × (signature < 2 ^ 64)
SoundKind Partial tag = tag ≡ 0x3c

pub record SoundUnit {K : Type 0} (u : DwUnit K) : Type 0 where
  pub kind : SoundKind u.kind u.root.tag
  pub root : SoundNode u.root
  pub below : SoundEntries u.below
