-- Where each key stands: where the bytes before it end. No length depends on the numbers that are written, so there is one placement.
use Rattle.std.specs.Prelude.{◌≡◌, ℕ, ℤ, pos, suc, ◌+◌, ◌<◌, Bool, true, false, List, [], ◌∷◌, ◌++◌, length, map, Option, Some, None}
use Rattle.dwz_def_reading.specs.Spelling.{reach}
use Rattle.dwz_def_reading.specs.ElfLayout.{too_large}
use Rattle.dwz_def_reading.specs.Texts.{slot}
use Rattle.dwz_def_reading.specs.Documents.{Attr, DwUnit, Entries, File, Kind, Node, Partial, Plain}
use Rattle.dwz_def_reading.specs.LinesWritten.{header_written}
use Rattle.dwz_def_reading.specs.Classes.{OfCommonEntry, OfConstant, OfInfoEntry, OfTextBySlot, OfTextInLineStr, OfTextInStr}
use Rattle.dwz_def_reading.specs.Classes.{Class}
use Rattle.dwz_def_reading.specs.Classes.{OfUnitEntry}
use Rattle.dwz_def_reading.specs.Classes.{class_of, names_file}
use Rattle.dwz_def_reading.specs.Trees.{End, Entry}
use Rattle.dwz_def_tops.specs.Shown.{unit_keys, units_keys}
use Rattle.dwz_def_tops.specs.Spots.{same_numbers}
use Rattle.dwz_def_encoding.specs.Bases.{Bases}
use Rattle.dwz_def_encoding.specs.Writing.{DeclarationShape, Numbering, if_any, joined, node_bytes, or_zero, spelled, table_of, tables_of}
use Rattle.dwz_def_encoding.specs.Writing.{written_header_size}
use Rattle.dwz_def_encoding.specs.Writing.{text_or_empty, units_bytes, written_unit_size}

-- all numbers are 0, which serves where only lengths are asked for
abbrev pub zeros : {K : Type 0} → Numbering K
zeros = record { place = λ k. 0 }

-- ---- the relation: numbers agree with where things stand

-- each entry of a sibling list that begins at a place has the number of the place where the bytes before it end
abbrev pub Stands : {K : Type 0} → Numbering K → ℕ → List DeclarationShape → ℕ → Entries K → Type 0
Stands n unit table at End = Unit {0}
Stands n unit table at (Entry e children next) =
    (n.place e.at ≡ at) × Stands n unit table (at + length (node_bytes n unit table e children)) children
    × Stands n unit table (at + length (node_bytes n unit table e children) + length (if_any children (spelled n unit table children))) next

pub record UnitStands {K : Type 0} (n : Numbering K) (u : DwUnit K) (at : ℕ) : Type 0 where
  pub unit : n.place u.at ≡ at
  pub root : n.place u.root.at ≡ at + written_header_size u.kind
  pub below : Stands n at (table_of u) (at + written_header_size u.kind + length (node_bytes n at (table_of u) u.root u.below)) u.below

-- units stand one after the other from a place on
abbrev pub UnitsStand : {K : Type 0} → Numbering K → List (DwUnit K) → ℕ → Type 0
UnitsStand n [] at = Unit {0}
UnitsStand n (u ∷ units) at = UnitStands n u at × UnitsStand n units (at + written_unit_size n at u)

-- ---- the placement

unfoldable pub placed : {K : Type 0} → List DeclarationShape → ℕ → Entries K → List (K × ℕ)
placed table at End = []
placed table at (Entry e children next) =
    let inner = at + length (node_bytes zeros 0 table e children) in
    (e.at, at) ∷ placed table inner children ++ placed table (inner + length (if_any children (spelled zeros 0 table children))) next

unfoldable pub units_placed : {K : Type 0} → ℕ → List (DwUnit K) → List (K × ℕ)
units_placed at [] = []
units_placed at (u ∷ units) =
    (u.at, at)
    ∷ (u.root.at, at + written_header_size u.kind)
    ∷ placed (table_of u) (at + written_header_size u.kind + length (node_bytes zeros 0 (table_of u) u.root u.below)) u.below
    ++ units_placed (at + written_unit_size zeros 0 u) units

unfoldable pub number_of_key : {K : Type 0} → (K → K → Bool) → List (K × ℕ) → K → ℕ
number_of_key same [] k = 0
number_of_key same (p ∷ ps) k = elim (same p.0 k) as (λ _. ℕ) [ true ↦ p.1 | false ↦ number_of_key same ps k ]

-- the units that stand in a file after, and the file's number
pub record FileOut (K : Type 0) : Type 0 where
  pub number : ℕ
  pub units : List (DwUnit K)

-- the keys of all files, in each file from 0
unfoldable pub files_placed : {K : Type 0} → List (FileOut K) → List (K × ℕ)
files_placed [] = []
files_placed (f ∷ files) = units_placed 0 f.units ++ files_placed files

unfoldable pub files_keys : {K : Type 0} → List (FileOut K) → List K
files_keys [] = []
files_keys (f ∷ files) = units_keys f.units ++ files_keys files

abbrev pub numbering : {K : Type 0} → (K → K → Bool) → List (FileOut K) → Numbering K
numbering same files = record { place = number_of_key same (files_placed files) }

unfoldable pub has_key : {K : Type 0} → (K → K → Bool) → K → List K → Bool
has_key same k [] = false
has_key same k (x ∷ xs) = elim (same x k) as (λ _. Bool) [ true ↦ true | false ↦ has_key same k xs ]

-- the number of the file in which a key stands
unfoldable pub file_in : {K : Type 0} → (K → K → Bool) → List (FileOut K) → K → ℕ
file_in same [] k = 0
file_in same (f ∷ files) k = elim (has_key same k (units_keys f.units)) as (λ _. ℕ) [ true ↦ f.number | false ↦ file_in same files k ]

-- ---- the form of each value, by where it stands

-- an old unit; a partial unit of a file; a partial unit of the common file
pub data UnitRole : Type 0 where
  OldUnit : UnitRole
  NewUnit : UnitRole
  CommonUnit : UnitRole

abbrev pub holder_of : {K : Type 0} → Bool → Kind K → UnitRole
holder_of true kind = CommonUnit
holder_of false Partial = NewUnit
holder_of false _ = OldUnit

-- What forms are chosen by in a file: a test of keys; whether it is the common file; the texts of the common file and the paths of its line
-- table, in order; the texts that the file shares with it, which are those of the common file where the file imports from it; the slots of
-- the file; and by the key of each unit what is known of the unit that its values come from.
pub record Forms (K : Type 0) : Type 0 where
  pub same : K → K → Bool
  pub is_common : Bool
  pub texts : List (List ℕ)
  pub shared : List (List ℕ)
  pub paths : List (List ℕ)
  pub offsets : List ℕ
  pub origin : K → Bases

-- the same, and the keys of the file's units
pub record KeyedForms (K : Type 0) : Type 0 where
  pub forms : Forms K
  pub open forms use *
  pub keys : List K

-- in a unit of the file: also the keys of the unit, what holds it, and what is known of the unit that its values come from
pub record UnitForms (K : Type 0) : Type 0 where
  pub file : KeyedForms K
  pub open file use *
  pub own : List K
  pub holder : UnitRole
  pub origin_bases : Bases

-- where an entry stands that is named: in the same unit, in another of the file, or in the common file
pub data Reach : Type 0 where
  InUnit : Reach
  InFile : Reach
  InCommon : Reach

abbrev pub reach_by : (own file : Bool) → Reach
reach_by true _ = InUnit
reach_by false true = InFile
reach_by false false = InCommon

-- of the first of these keys
abbrev pub reach_of : {K : Type 0} → UnitForms K → List K → Reach
reach_of f [] = InUnit
reach_of f (k ∷ refs) = reach_by (has_key f.same k f.own) (has_key f.same k f.keys)

-- DW_FORM_ref4, DW_FORM_ref_addr, DW_FORM_ref_sup4
abbrev pub ref_form : Reach → ℕ
ref_form InUnit = 0x13
ref_form InFile = 0x10
ref_form InCommon = 0x1c

-- the form of a value, and the number of one that is no entry
pub record Chosen : Type 0 where
  pub form : ℕ
  pub raw : ℤ

abbrev pub as_read : {K : Type 0} → Attr K → Chosen
as_read a = record { form = a.form; raw = a.raw }

abbrev pub as_reference : {K : Type 0} → UnitForms K → Attr K → Chosen
as_reference f a = record { form = ref_form (reach_of f a.value.refs); raw = a.raw }

-- the place of a text among texts that stand one after the other, each with a zero byte behind it
unfoldable pub text_place : List (List ℕ) → List ℕ → ℕ
text_place [] text = 0
text_place (t ∷ texts) text = elim (same_numbers t text) as (λ _. ℕ) [ true ↦ 0 | false ↦ length t + 1 + text_place texts text ]

unfoldable pub has_text : List (List ℕ) → List ℕ → Bool
has_text [] text = false
has_text (t ∷ texts) text = elim (same_numbers t text) as (λ _. Bool) [ true ↦ true | false ↦ has_text texts text ]

-- a text of the common file: DW_FORM_strp, with its place in `.debug_str`
abbrev pub as_common : {K : Type 0} → UnitForms K → Attr K → Chosen
as_common f a = record { form = 0x0e; raw = pos (text_place f.texts (text_or_empty a.value.plain)) }

-- a text of a file that stands at an offset of `.debug_str`: where it is shared DW_FORM_strp_sup, with its place in that of the common
-- file; and else DW_FORM_strp
abbrev pub as_strp_if : {K : Type 0} → Bool → UnitForms K → Attr K → ℕ → Chosen
as_strp_if true f a at = record { form = 0x1d; raw = pos (text_place f.shared (text_or_empty a.value.plain)) }
as_strp_if false f a at = record { form = 0x0e; raw = pos at }

abbrev pub as_strp : {K : Type 0} → UnitForms K → Attr K → ℕ → Chosen
as_strp f a at = as_strp_if (has_text f.shared (text_or_empty a.value.plain)) f a at

-- a text in `.debug_str`, at the offset that was read
abbrev pub as_text : {K : Type 0} → UnitRole → UnitForms K → Attr K → Chosen
as_text CommonUnit f a = as_common f a
as_text _ f a = as_strp f a (reach a.raw)

-- a text in `.debug_line_str` is as it was read
abbrev pub as_line_text : {K : Type 0} → UnitRole → UnitForms K → Attr K → Chosen
as_line_text CommonUnit f a = as_common f a
as_line_text _ f a = as_read a

-- the number in a slot
abbrev pub slot_number : List ℕ → Option ℕ → ℕ → ℕ
slot_number offsets None index = 0
slot_number offsets (Some base) index = or_zero (slot offsets base index)

-- a text by its slot is as it was read; in a partial unit, which has no base, it is a text at the offset that is in the slot
abbrev pub as_slot : {K : Type 0} → UnitRole → UnitForms K → Attr K → Chosen
as_slot OldUnit f a = as_read a
as_slot NewUnit f a = as_strp f a (slot_number f.offsets f.origin_bases.slots (reach a.raw))
as_slot CommonUnit f a = as_common f a

-- where a path is among paths
unfoldable pub path_index : List (List ℕ) → List ℕ → ℕ
path_index [] path = 0
path_index (p ∷ paths) path = elim (same_numbers p path) as (λ _. ℕ) [ true ↦ 0 | false ↦ suc (path_index paths path) ]

-- paths are numbered from 1; no file is 0
abbrev pub file_number : List (List ℕ) → Plain → ℕ
file_number paths (File (Some path)) = suc (path_index paths path)
file_number paths _ = 0

-- the number of a file is as it was read, or in the common file DW_FORM_udata, with the number of its path there
abbrev pub as_file : {K : Type 0} → UnitRole → UnitForms K → Attr K → Chosen
as_file CommonUnit f a = record { form = 0x0f; raw = pos (file_number f.paths a.value.plain) }
as_file _ f a = as_read a

-- any other constant is as it was read
abbrev pub as_constant : {K : Type 0} → Bool → UnitForms K → Attr K → Chosen
as_constant true f a = as_file f.holder f a
as_constant false f a = as_read a

abbrev pub fit_as : {K : Type 0} → Class → UnitForms K → Attr K → Chosen
fit_as OfConstant f a = as_constant (names_file a.name) f a
fit_as OfUnitEntry f a = as_reference f a
fit_as OfInfoEntry f a = as_reference f a
fit_as OfCommonEntry f a = as_reference f a
fit_as OfTextInStr f a = as_text f.holder f a
fit_as OfTextInLineStr f a = as_line_text f.holder f a
fit_as OfTextBySlot f a = as_slot f.holder f a
fit_as _ f a = as_read a

abbrev pub with_form : {K : Type 0} → Attr K → Chosen → Attr K
with_form a c = record { name = a.name; form = c.form; raw = c.raw; value = a.value }

abbrev pub fit_attr : {K : Type 0} → UnitForms K → Attr K → Attr K
fit_attr f a = with_form a (fit_as (class_of a.form) f a)

abbrev pub fit_node : {K : Type 0} → UnitForms K → Node K → Node K
fit_node f e = record { at = e.at; tag = e.tag; attrs = map (fit_attr f) e.attrs }

unfoldable pub fit : {K : Type 0} → UnitForms K → Entries K → Entries K
fit f End = End
fit f (Entry e children next) = Entry (fit_node f e) (fit f children) (fit f next)

abbrev pub with_keys : {K : Type 0} → Forms K → List K → KeyedForms K
with_keys f keys = record { forms = f; keys = keys }

abbrev pub unit_forms : {K : Type 0} → KeyedForms K → DwUnit K → UnitForms K
unit_forms f u = record { file = f; own = unit_keys u; holder = holder_of f.is_common u.kind; origin_bases = f.origin u.at }

abbrev pub fit_unit : {K : Type 0} → KeyedForms K → DwUnit K → DwUnit K
fit_unit f u = record { at = u.at; kind = u.kind; root = fit_node (unit_forms f u) u.root; below = fit (unit_forms f u) u.below }

-- the units of a file
unfoldable pub fit_units : {K : Type 0} → Forms K → List (DwUnit K) → List (DwUnit K)
fit_units f units = map (fit_unit (with_keys f (units_keys units))) units

-- ---- the texts of the common file, and the paths of its line table: in order of first use, each once

abbrev pub add_unless : Bool → List (List ℕ) → List ℕ → List (List ℕ)
add_unless true texts text = texts
add_unless false texts text = texts ++ text ∷ []

abbrev pub with_common_text : List (List ℕ) → List ℕ → List (List ℕ)
with_common_text texts text = add_unless (has_text texts text) texts text

-- attributes in order add to what was found
unfoldable pub attrs_with : {K : Type 0} → (List (List ℕ) → Attr K → List (List ℕ)) → List (List ℕ) → List (Attr K) → List (List ℕ)
attrs_with add found [] = found
attrs_with add found (a ∷ attrs) = attrs_with add (add found a) attrs

unfoldable pub entries_with : {K : Type 0} → (List (List ℕ) → Attr K → List (List ℕ)) → List (List ℕ) → Entries K → List (List ℕ)
entries_with add found End = found
entries_with add found (Entry e children next) = entries_with add (entries_with add (attrs_with add found e.attrs) children) next

unfoldable pub units_with : {K : Type 0} → (List (List ℕ) → Attr K → List (List ℕ)) → List (List ℕ) → List (DwUnit K) → List (List ℕ)
units_with add found [] = found
units_with add found (u ∷ units) = units_with add (entries_with add (attrs_with add found u.root.attrs) u.below) units

-- with the text of an attribute that has a place in a section
abbrev pub text_as : {K : Type 0} → Class → List (List ℕ) → Attr K → List (List ℕ)
text_as OfTextInStr texts a = with_common_text texts (text_or_empty a.value.plain)
text_as OfTextInLineStr texts a = with_common_text texts (text_or_empty a.value.plain)
text_as OfTextBySlot texts a = with_common_text texts (text_or_empty a.value.plain)
text_as _ texts a = texts

abbrev pub attr_text : {K : Type 0} → List (List ℕ) → Attr K → List (List ℕ)
attr_text texts a = text_as (class_of a.form) texts a

abbrev pub texts_of : {K : Type 0} → List (List ℕ) → List (DwUnit K) → List (List ℕ)
texts_of texts units = units_with attr_text texts units

-- with the path of a file
abbrev pub path_as : Plain → List (List ℕ) → List (List ℕ)
path_as (File (Some path)) paths = with_common_text paths path
path_as _ paths = paths

abbrev pub attr_path : {K : Type 0} → List (List ℕ) → Attr K → List (List ℕ)
attr_path paths a = path_as a.value.plain paths

abbrev pub paths_of : {K : Type 0} → List (List ℕ) → List (DwUnit K) → List (List ℕ)
paths_of paths units = units_with attr_path paths units

-- `.debug_line` of the common file: a header of its paths, where there are any
abbrev pub lines_bytes : List (List ℕ) → List ℕ
lines_bytes [] = []
lines_bytes (path ∷ paths) = header_written (path ∷ paths)

-- `.debug_str` of the common file
unfoldable pub texts_bytes : List (List ℕ) → List ℕ
texts_bytes [] = []
texts_bytes (t ∷ texts) = t ++ 0 ∷ texts_bytes texts

-- ---- the sections

-- `.debug_info` and `.debug_abbrev`
pub record UnitSections : Type 0 where
  pub info : List ℕ
  pub abbrevs : List ℕ

-- the bytes of a file's units whose values have their forms, under the places of the keys of all files
unfoldable pub sections : {K : Type 0} → Numbering K → List (DwUnit K) → UnitSections
sections n units = record { info = units_bytes n (tables_of [] units) units; abbrevs = joined (tables_of [] units) }

-- neither section may have so many bytes
abbrev pub FitsSections : UnitSections → Type 0
FitsSections s = (length s.info < too_large) × (length s.abbrevs < too_large)
