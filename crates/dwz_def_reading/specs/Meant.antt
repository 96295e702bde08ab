-- What a value, an attribute, an entry or a unit means, or its first fault, as a function.
use Rattle.std.specs.Prelude.{ℕ, ℤ, pos, negsuc, ◌+◌, Bool, false, List, [], ◌∷◌}
use Rattle.std.specs.Prelude.{length, Option, Some, None, Result, Ok, Err, ◌==◌, nat_lt, if◌then◌else◌}
use Rattle.dwz_model.specs.declared.fault.Fault.{Fault}
use Rattle.dwz_model.specs.declared.fault.Reason.TheVariants.{BadFile, BadList, BadReference, BadString, UnsupportedForm}
use Rattle.dwz_bytes.specs.Reading.{◌>>=◌}
use Rattle.dwz_def_reading.specs.Documents.{Addr, Attr, Block, Compile, DwUnit, Entries, File, Index, Kind, Node, OfType}
use Rattle.dwz_def_reading.specs.Documents.{Partial, Sec, Sig, Text, Value, only, ref}
use Rattle.dwz_def_reading.specs.Entries.{RawAttr, RawEntry}
use Rattle.dwz_def_reading.specs.Exprs.{Expression, expr_at}
use Rattle.dwz_def_reading.specs.Faults.{info_fault}
use Rattle.dwz_def_reading.specs.LineTables.{FileTable, file_table_at}
use Rattle.dwz_codes.specs.Rows.{has}
use Rattle.dwz_def_reading.specs.LocLists.{LocList, list_at}
use Rattle.dwz_def_reading.specs.Sequences.{read_from}
use Rattle.dwz_def_reading.specs.Texts.{slot, text_at}
use Rattle.dwz_def_reading.specs.Trees.{End, Entry, Forest}
use Rattle.dwz_def_reading.specs.Units.{CompileUnit, PartialUnit, RawKind, RawUnit, TypeUnit}
use Rattle.dwz_def_reading.specs.Meanings.{Around, Common, MeaningContext, block_begins, bytes_of, constant_value, expr_context, expr_value}
use Rattle.dwz_def_reading.specs.Meanings.{flag_value}
use Rattle.dwz_def_reading.specs.Meanings.{loc_value, loclists_base, number_of, offset_of, path_by, scope_of, stmt_list, str_offsets_base}
use Rattle.dwz_def_reading.specs.Meanings.{text_sections_of, without_siblings}
use Rattle.dwz_def_reading.specs.Classes.{Class, class_of, names_file, names_list}
use Rattle.dwz_def_reading.specs.Classes.{OfAddress, OfBlock, OfCommonEntry, OfCommonText, OfConstant, OfExpression, OfFlag, OfIndex}
use Rattle.dwz_def_reading.specs.Classes.{OfInfoEntry, OfListIndex, OfOffset, OfSignature, OfText, OfTextBySlot, OfTextInLineStr, OfTextInStr}
use Rattle.dwz_def_reading.specs.Classes.{OfUnitEntry, Unread}

-- ---- the function: what a value means, or its fault

-- a form that has no class isn't read, so no value has it
abbrev pub unread : RawAttr → Fault
unread a = info_fault a.at (UnsupportedForm a.pair.form)

abbrev pub text_or : {P : Type 0} → RawAttr → Option (List ℕ) → Result (Value P) Fault
text_or a None = Err (info_fault a.at BadString)
text_or a (Some text) = Ok (only (Text text))

abbrev pub text_by : {P : Type 0} → MeaningContext P → RawAttr → Option ℕ → Result (Value P) Fault
text_by s a None = Err (info_fault a.at BadString)
text_by s a (Some offset) = text_or a (text_at s.around.sources.strs offset)

abbrev pub text_from : {P : Type 0} → MeaningContext P → RawAttr → Option ℕ → Result (Value P) Fault
text_from s a None = Err (info_fault a.at BadString)
text_from s a (Some base) = text_by s a (slot s.around.sources.offsets base (offset_of a))

abbrev pub entry_among : {P : Type 0} → (ℕ → P) → List ℕ → ℕ → ℕ → Result (Value P) Fault
entry_among place places at p = if has p places then Ok (ref (place p)) else Err (info_fault at BadReference)

abbrev pub common_entry : {P : Type 0} → RawAttr → Option (Common P) → Result (Value P) Fault
common_entry a None = Err (info_fault a.at BadReference)
common_entry a (Some c) = entry_among c.place c.entries a.at (offset_of a)

abbrev pub common_text : {P : Type 0} → RawAttr → Option (Common P) → Result (Value P) Fault
common_text a None = Err (info_fault a.at BadString)
common_text a (Some c) = text_or a (text_at c.strs (offset_of a))

abbrev pub path_or : {P : Type 0} → RawAttr → Option (List ℕ) → Result (Value P) Fault
path_or a None = Err (info_fault a.at BadFile)
path_or a (Some path) = Ok (only (File (Some path)))

abbrev pub row_of_table : {P : Type 0} → RawAttr → FileTable → Result (Value P) Fault
row_of_table a t = path_or a (path_by t (number_of a.raw))

abbrev pub is_zero : ℤ → Bool
is_zero (pos n) = n == 0
is_zero (negsuc n) = false

abbrev pub file_by : {P : Type 0} → Option ℕ → MeaningContext P → RawAttr → Result (Value P) Fault
file_by None s a = if is_zero (number_of a.raw) then Ok (only (File None)) else Err (info_fault a.at BadFile)
file_by (Some place) s a = file_table_at (text_sections_of s.around.sources) s.around.sources.line place >>= row_of_table a

abbrev pub expr_said : {P : Type 0} → MeaningContext P → Expression → Result (Value P) Fault
expr_said s e = Ok (expr_value s e)

abbrev pub expr_meaning : {P : Type 0} → MeaningContext P → RawAttr → Result (Value P) Fault
expr_meaning s a = expr_at (expr_context s 1) (record { at = block_begins a; rest = bytes_of a.raw }) >>= expr_said s

abbrev pub loc_said : {P : Type 0} → MeaningContext P → LocList → Result (Value P) Fault
loc_said s l = Ok (loc_value s l)

-- what stands at a place of `.debug_loclists`
abbrev pub list_read : {P : Type 0} → MeaningContext P → ℕ → Result LocList Fault
list_read s place = read_from (list_at (expr_context s 7)) s.around.sources.lists place

abbrev pub list_meaning : {P : Type 0} → MeaningContext P → RawAttr → ℕ → Result (Value P) Fault
list_meaning s a place = if nat_lt place (length s.around.sources.lists) then list_read s place >>= loc_said s else Err
    (info_fault a.at BadList)

abbrev pub list_by : {P : Type 0} → MeaningContext P → RawAttr → ℕ → Option ℕ → Result (Value P) Fault
list_by s a base None = Err (info_fault a.at BadList)
list_by s a base (Some offset) = list_meaning s a (base + offset)

abbrev pub list_from : {P : Type 0} → MeaningContext P → RawAttr → Option ℕ → Result (Value P) Fault
list_from s a None = Err (info_fault a.at BadList)
list_from s a (Some base) = list_by s a base (slot s.around.sources.lists base (offset_of a))

abbrev pub as_class : {P : Type 0} → Class → MeaningContext P → RawAttr → Result (Value P) Fault
as_class OfAddress s a = Ok (only (Addr (offset_of a)))
as_class OfBlock s a = Ok (only (Block (bytes_of a.raw)))
as_class OfConstant s a = if names_file a.pair.name then file_by (stmt_list s) s a else Ok (constant_value a)
as_class OfFlag s a = Ok (flag_value a)
as_class OfText s a = Ok (only (Text (bytes_of a.raw)))
as_class OfTextInStr s a = text_or a (text_at s.around.sources.strs (offset_of a))
as_class OfTextInLineStr s a = text_or a (text_at s.around.sources.line_strs (offset_of a))
as_class OfTextBySlot s a = text_from s a (str_offsets_base s)
as_class OfUnitEntry s a = entry_among s.around.place s.own a.at (s.unit + offset_of a)
as_class OfInfoEntry s a = entry_among s.around.place s.around.all a.at (offset_of a)
as_class OfSignature s a = Ok (only (Sig (offset_of a)))
as_class OfOffset s a = if names_list a.pair.name then list_meaning s a (offset_of a) else Ok (only (Sec (offset_of a)))
as_class OfExpression s a = expr_meaning s a
as_class OfListIndex s a = list_from s a (loclists_base s)
as_class OfIndex s a = Ok (only (Index (offset_of a)))
as_class OfCommonEntry s a = common_entry a s.around.common
as_class OfCommonText s a = common_text a s.around.common
as_class Unread s a = Err (unread a)

unfoldable pub meaning : {P : Type 0} → MeaningContext P → RawAttr → Result (Value P) Fault
meaning s a = as_class (class_of a.pair.form) s a

abbrev pub attr_with : {P : Type 0} → RawAttr → Value P → Attr P
attr_with a v = record { name = a.pair.name; form = a.pair.form; raw = number_of a.raw; value = v }

abbrev pub with_attr : {P : Type 0} → RawAttr → Value P → List (Attr P) → Result (List (Attr P)) Fault
with_attr a v attrs = Ok (attr_with a v ∷ attrs)

unfoldable pub attrs_meaning : {P : Type 0} → MeaningContext P → List RawAttr → Result (List (Attr P)) Fault
attrs_meaning s [] = Ok []
attrs_meaning s (a ∷ attrs) = meaning s a >>= λ v. attrs_meaning s attrs >>= with_attr a v

abbrev pub node_with : {P : Type 0} → MeaningContext P → RawEntry → List (Attr P) → Result (Node P) Fault
node_with s e attrs = Ok (record { at = s.around.place e.at; tag = e.tag; attrs = attrs })

abbrev pub node_meaning : {P : Type 0} → MeaningContext P → RawEntry → Result (Node P) Fault
node_meaning s e = attrs_meaning s (without_siblings e.attrs) >>= node_with s e

abbrev pub with_next : {P : Type 0} → Node P → Entries P → Entries P → Result (Entries P) Fault
with_next d children next = Ok (Entry d children next)

-- an entry's own attributes come first, then its children, then the entries behind it
unfoldable pub entries_meaning : {P : Type 0} → MeaningContext P → Forest RawEntry → Result (Entries P) Fault
entries_meaning s End = Ok End
entries_meaning s (Entry e children next) =
    node_meaning s e >>= λ d. entries_meaning s children >>= λ below. entries_meaning s next >>= with_next d below

-- the place of the field type_offset in the header
abbrev pub type_offset_at : ℕ → ℕ
type_offset_at unit = unit + 20

abbrev pub kind_meaning : {P : Type 0} → MeaningContext P → RawKind → Result (Kind P) Fault
kind_meaning s CompileUnit = Ok Compile
kind_meaning s PartialUnit = Ok Partial
kind_meaning s (TypeUnit signature type_offset) =
    if has (s.unit + type_offset) s.own then Ok (OfType signature (s.around.place (s.unit + type_offset))) else Err
    (info_fault (type_offset_at s.unit) BadReference)

abbrev pub unit_with : {P : Type 0} → Around P → RawUnit → Kind P → Node P → Entries P → Result (DwUnit P) Fault
unit_with around u kind root below = Ok (record { at = around.place u.at; kind = kind; root = root; below = below })

abbrev pub unit_meaning : {P : Type 0} → Around P → RawUnit → Result (DwUnit P) Fault
unit_meaning around u =
    kind_meaning (scope_of around u) u.kind
    >>= λ kind. node_meaning (scope_of around u) u.root >>= λ root. entries_meaning (scope_of around u) u.below >>= unit_with around u kind
    root

abbrev pub unit_then : {P : Type 0} → DwUnit P → List (DwUnit P) → Result (List (DwUnit P)) Fault
unit_then u units = Ok (u ∷ units)

unfoldable pub units_meaning : {P : Type 0} → Around P → List RawUnit → Result (List (DwUnit P)) Fault
units_meaning around [] = Ok []
units_meaning around (u ∷ units) = unit_meaning around u >>= λ v. units_meaning around units >>= unit_then v
