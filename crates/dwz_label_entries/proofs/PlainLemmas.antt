-- Which values name entries, by their class.
use Rattle.std.proofs.Common.{◌≡◌, ℕ, ◌+◌, Bool, true, false, List, [], length, Option, Some, None, Result, Ok, Err, refl, sym, ap, subst, ◌∙◌}
use Rattle.std.specs.Prelude.{if◌then◌else◌}
use Rattle.dwz_label_entries.specs.Plain.{is_simple}
use Rattle.dwz_def_reading.specs.Entries.{RawAttr}
use Rattle.dwz_def_reading.specs.Faults.{info_fault}
use Rattle.dwz_def_reading.specs.Rows.{has}
use Rattle.dwz_def_reading.specs.Texts.{slot, text_at}
use Rattle.dwz_def_reading.specs.Documents.{File, Plain, Ref, Sec, Text, Value, only, ref}
use Rattle.dwz_def_reading.specs.Meanings.{Common}
use Rattle.dwz_def_reading.specs.Classes.{OfAddress, OfBlock, OfCommonEntry, OfCommonText, OfConstant, OfExpression, OfFlag, OfIndex, OfInfoEntry, OfListIndex, OfOffset, OfSignature}
use Rattle.dwz_def_reading.specs.Classes.{Class}
use Rattle.dwz_def_reading.specs.Meanings.{MeaningContext, constant_value}
use Rattle.dwz_def_reading.specs.Classes.{OfText, OfTextBySlot, OfTextInLineStr, OfTextInStr, OfUnitEntry, Unread}
use Rattle.dwz_def_reading.specs.Classes.{class_of}
use Rattle.dwz_def_reading.specs.Meant.{as_class, common_entry, common_text, file_by, is_zero}
use Rattle.dwz_def_reading.specs.Meanings.{number_of, offset_of, path_by, stmt_list, str_offsets_base}
use Rattle.dwz_def_reading.specs.Classes.{names_file, names_list}
use Rattle.dwz_def_reading.specs.Meant.{list_meaning, meaning, path_or, row_of_table, text_by, text_from, text_or}
use Rattle.dwz_def_reading.specs.Meanings.{text_sections_of}
use Rattle.dwz_model.specs.declared.fault.Fault.{Fault}
use Rattle.dwz_model.specs.declared.fault.Reason.TheVariants.{BadFile, BadReference}
use Rattle.dwz_def_reading.specs.LineTables.{file_table_at}
use Rattle.dwz_def_reading.proofs.PartLemmas.{bind_ok}
use Rattle.dwz_graph.specs.Named.{refs_beside, value_refs}
use Rattle.dwz_graph.specs.Parts.{numbers_file}
use Rattle.dwz_graph.proofs.PlainBeside.{none_beside}

-- ---- values that name nothing

abbrev NamesNone : Result (Value ℕ) Fault → Type 0
NamesNone r = (v : Value ℕ) → r ≡ Ok v → v.refs ≡ []

of_only : (plain : Plain) → NamesNone (Ok (only plain))
of_only plain v e = let is : only plain ≡ v = cc in sym (ap (λ (w : Value ℕ). w.refs) is)

of_err : (f : Fault) → NamesNone (Err f)
of_err f v e = absurd cc

of_text : (a : RawAttr) (o : Option (List ℕ)) → NamesNone (text_or a o)
of_text a None = of_err _
of_text a (Some text) = of_only (Text text)

of_slot : (s : MeaningContext ℕ) (a : RawAttr) (o : Option ℕ) → NamesNone (text_by s a o)
of_slot s a None = of_err _
of_slot s a (Some offset) = of_text a (text_at s.around.sources.strs offset)

of_base : (s : MeaningContext ℕ) (a : RawAttr) (o : Option ℕ) → NamesNone (text_from s a o)
of_base s a None = of_err _
of_base s a (Some base) = of_slot s a (slot s.around.sources.offsets base (offset_of a))

of_common_entry : (a : RawAttr) (o : Option (Common ℕ)) → o ≡ None → NamesNone (common_entry a o)
of_common_entry a None none = of_err _
of_common_entry a (Some c) none = absurd cc

of_common_text : (a : RawAttr) (o : Option (Common ℕ)) → NamesNone (common_text a o)
of_common_text a None = of_err _
of_common_text a (Some c) = of_text a (text_at c.strs (offset_of a))

simple_refs : (k : Class) (s : MeaningContext ℕ) (a : RawAttr) → is_simple k ≡ true → s.around.common ≡ None → NamesNone (as_class k s a)
simple_refs OfAddress s a is none = of_only _
simple_refs OfBlock s a is none = of_only _
simple_refs OfConstant s a is none = absurd cc
simple_refs OfFlag s a is none = of_only _
simple_refs OfText s a is none = of_only _
simple_refs OfTextInStr s a is none = of_text a _
simple_refs OfTextInLineStr s a is none = of_text a _
simple_refs OfTextBySlot s a is none = of_base s a (str_offsets_base s)
simple_refs OfUnitEntry s a is none = absurd cc
simple_refs OfInfoEntry s a is none = absurd cc
simple_refs OfSignature s a is none = of_only _
simple_refs OfOffset s a is none = absurd cc
simple_refs OfExpression s a is none = absurd cc
simple_refs OfListIndex s a is none = absurd cc
simple_refs OfIndex s a is none = of_only _
simple_refs OfCommonEntry s a is none = of_common_entry a s.around.common none
simple_refs OfCommonText s a is none = of_common_text a s.around.common
simple_refs Unread s a is none = of_err _

pub simple_names : (k : Class) (s : MeaningContext ℕ) (a : RawAttr) (v : Value ℕ) → is_simple k ≡ true → s.around.common ≡ None → as_class k s a ≡ Ok v → (value_refs v ≡ v.refs) × (length v.refs ≡ 0)
simple_names k s a v is none e =
    let r = simple_refs k s a is none v e in
    (ap (λ (w : List ℕ). refs_beside v.plain w) r ∙ none_beside v.plain ∙ sym r, ap (λ (w : List ℕ). length w) r)

-- ---- entries

entry_of : (place : ℕ → ℕ) (f : Fault) (p : ℕ) (b : Bool) (v : Value ℕ) → (if b then Ok (ref (place p)) else Err f) ≡ Ok v → ref (place p) ≡ v
entry_of place f p true v e = let is : ref (place p) ≡ v = cc in is
entry_of place f p false v e = absurd cc

pub unit_entry : (s : MeaningContext ℕ) (a : RawAttr) (v : Value ℕ) → as_class OfUnitEntry s a ≡ Ok v → ref (s.around.place (s.unit + offset_of a)) ≡ v
unit_entry s a v e = entry_of s.around.place (info_fault a.at BadReference) (s.unit + offset_of a) (has (s.unit + offset_of a) s.own) v e

pub info_entry : (s : MeaningContext ℕ) (a : RawAttr) (v : Value ℕ) → as_class OfInfoEntry s a ≡ Ok v → ref (s.around.place (offset_of a)) ≡ v
info_entry s a v e = entry_of s.around.place (info_fault a.at BadReference) (offset_of a) (has (offset_of a) s.around.all) v e

abbrev pub IsRefValue : Value ℕ → Type 0
IsRefValue v = (v.plain ≡ Ref) × (value_refs v ≡ v.refs) × (length v.refs ≡ 1)

ref_value : (p : ℕ) (v : Value ℕ) → ref p ≡ v → IsRefValue v
ref_value p v e = subst IsRefValue e (refl, refl, refl)

pub unit_names : (s : MeaningContext ℕ) (a : RawAttr) (v : Value ℕ) → as_class OfUnitEntry s a ≡ Ok v → IsRefValue v
unit_names s a v e = ref_value (s.around.place (s.unit + offset_of a)) v (unit_entry s a v e)

pub info_names : (s : MeaningContext ℕ) (a : RawAttr) (v : Value ℕ) → as_class OfInfoEntry s a ≡ Ok v → IsRefValue v
info_names s a v e = ref_value (s.around.place (offset_of a)) v (info_entry s a v e)

-- ---- numbers of files, and offsets of lists

pub numbers : (a : RawAttr) → names_file a.pair.name ≡ true → class_of a.pair.form ≡ OfConstant → numbers_file a ≡ true
numbers a name class = rw (name, class) refl

pub file_means : (s : MeaningContext ℕ) (a : RawAttr) (v : Value ℕ) → names_file a.pair.name ≡ true → as_class OfConstant s a ≡ Ok v → file_by (stmt_list s) s a ≡ Ok v
file_means s a v name e = ap (λ (b : Bool). if b then file_by (stmt_list s) s a else Ok (constant_value a)) (sym name) ∙ e

pub list_means : (s : MeaningContext ℕ) (a : RawAttr) (v : Value ℕ) → names_list a.pair.name ≡ true → as_class OfOffset s a ≡ Ok v → list_meaning s a (offset_of a) ≡ Ok v
list_means s a v name e = ap (λ (b : Bool). if b then list_meaning s a (offset_of a) else Ok (only (Sec (offset_of a)))) (sym name) ∙ e

abbrev NamesNothing : Value ℕ → Type 0
NamesNothing v = (value_refs v ≡ v.refs) × (length v.refs ≡ 0)

of_path : (a : RawAttr) (o : Option (List ℕ)) (v : Value ℕ) → path_or a o ≡ Ok v → NamesNothing v
of_path a None v e = absurd cc
of_path a (Some path) v e = let is : only (File (Some path)) ≡ v = cc in subst NamesNothing is (refl, refl)

of_zero : (f : Fault) (b : Bool) (v : Value ℕ) → (if b then Ok (only (File None)) else Err f) ≡ Ok v → NamesNothing v
of_zero f true v e = let is : only (File None) ≡ v = cc in subst NamesNothing is (refl, refl)
of_zero f false v e = absurd cc

pub file_names : (s : MeaningContext ℕ) (a : RawAttr) (line : Option ℕ) (v : Value ℕ) → file_by line s a ≡ Ok v → (value_refs v ≡ v.refs) × (length v.refs ≡ 0)
file_names s a None v e = of_zero (info_fault a.at BadFile) (is_zero (number_of a.raw)) v e
file_names s a (Some place) v e =
    let x = bind_ok (file_table_at (text_sections_of s.around.sources) s.around.sources.line place) (row_of_table a) v e in
    of_path a (path_by x.0 (number_of a.raw)) v x.2

-- ---- the class of a value

pub as_is : (s : MeaningContext ℕ) (a : RawAttr) (v : Value ℕ) (k kind : Class) → k ≡ class_of a.pair.form → k ≡ kind → meaning s a ≡ Ok v → as_class kind s a ≡ Ok v
unfolding meaning
as_is s a v k kind is same e = ap (λ (w : Class). as_class w s a) (sym same ∙ is) ∙ e

pub is_class : (a : RawAttr) (k kind : Class) → k ≡ class_of a.pair.form → k ≡ kind → class_of a.pair.form ≡ kind
is_class a k kind is same = sym is ∙ same

pub simple_is : (k : Class) → (k ≡ OfConstant → ⊥) → (k ≡ OfUnitEntry → ⊥) → (k ≡ OfInfoEntry → ⊥) → (k ≡ OfOffset → ⊥) → (k ≡ OfExpression → ⊥) → (k ≡ OfListIndex → ⊥)
    → is_simple k ≡ true
simple_is OfAddress a b c d e f = refl
simple_is OfBlock a b c d e f = refl
simple_is OfConstant a b c d e f = absurd (a refl)
simple_is OfFlag a b c d e f = refl
simple_is OfText a b c d e f = refl
simple_is OfTextInStr a b c d e f = refl
simple_is OfTextInLineStr a b c d e f = refl
simple_is OfTextBySlot a b c d e f = refl
simple_is OfUnitEntry a b c d e f = absurd (b refl)
simple_is OfInfoEntry a b c d e f = absurd (c refl)
simple_is OfSignature a b c d e f = refl
simple_is OfOffset a b c d e f = absurd (d refl)
simple_is OfExpression a b c d e f = absurd (e refl)
simple_is OfListIndex a b c d e f = absurd (f refl)
simple_is OfIndex a b c d e f = refl
simple_is OfCommonEntry a b c d e f = refl
simple_is OfCommonText a b c d e f = refl
simple_is Unread a b c d e f = refl
