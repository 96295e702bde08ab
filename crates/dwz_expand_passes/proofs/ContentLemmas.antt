-- What a value means by its class, and what of it is kept.
use Rattle.std.proofs.Common.{◌≡◌, ℕ, Bool, true, false, List, [], map, Option, Some, None, Result, Ok, Err, if◌then◌else◌, refl, sym, ap, ◌∙◌}
use Rattle.dwz_model.specs.declared.fault.Fault.{Fault}
use Rattle.dwz_def_reading.specs.Classes.{Class, class_of, names_file, names_list}
use Rattle.dwz_def_reading.specs.Classes.{OfAddress, OfBlock, OfCommonEntry, OfCommonText, OfConstant, OfExpression, OfFlag, OfIndex}
use Rattle.dwz_def_reading.specs.Classes.{OfInfoEntry, OfListIndex, OfOffset, OfSignature, OfText, OfTextBySlot, OfTextInLineStr, OfTextInStr, OfUnitEntry, Unread}
use Rattle.dwz_def_reading.specs.Documents.{Attr, Block, File, Plain, Sec, Text, Value, attr_map, only}
use Rattle.dwz_def_reading.specs.Entries.{RawAttr}
use Rattle.dwz_def_reading.specs.LineTables.{file_table_at}
use Rattle.dwz_def_reading.specs.Meanings.{Common, MeaningContext, bytes_of, constant_value, number_of, offset_of, path_by, stmt_list, str_offsets_base, text_sections_of}
use Rattle.dwz_def_reading.specs.Meant.{as_class, common_text, file_by, is_zero, list_meaning, meaning, path_or, row_of_table, text_by, text_from, text_or}
use Rattle.dwz_def_reading.specs.Texts.{slot, text_at}
use Rattle.dwz_def_reading.specs.Values.{Bytes, HasSpelling, Number, Raw}
use Rattle.dwz_def_reading.proofs.PartLemmas.{bind_ok}
use Rattle.dwz_def_encoding.specs.Writing.{block_in, text_or_empty}
use Rattle.dwz_def_encoding.proofs.StoredClasses.{stores_bytes}
use Rattle.dwz_def_expand.specs.Source.{Copy}
use Rattle.dwz_graph.specs.Named.{refs_beside, value_refs}
use Rattle.dwz_graph.proofs.PlainBeside.{none_beside}
use Rattle.dwz_check_labels.specs.Files.{texts_in}
use Rattle.dwz_encode.specs.Shown.{Held, Value as ValueHeld, held_as}
use Rattle.dwz_expand_passes.specs.Copied.{is_entry, said}
use Rattle.dwz_expand_passes.specs.Known.{Setting, copied, scope}
use Rattle.dwz_expand_passes.proofs.RawLemmas.{raw_bytes, raw_number}

pub as_class_of : (s : MeaningContext ℕ) (a : RawAttr) (v : Value ℕ) (c : Class) → class_of a.pair.form ≡ c → meaning s a ≡ Ok v → as_class c s a ≡ Ok v
unfolding meaning
as_class_of s a v c e means = ap (λ (d : Class). as_class d s a) (sym e) ∙ means

-- ---- values that name nothing

abbrev pub NamesNone : Result (Value ℕ) Fault → Type 0
NamesNone r = (v : Value ℕ) → r ≡ Ok v → v.refs ≡ []

of_only : (plain : Plain) → NamesNone (Ok (only plain))
of_only plain v e = (let is : only plain ≡ v = cc in sym (ap (λ (w : Value ℕ). w.refs) is))

of_err : (f : Fault) → NamesNone (Err f)
of_err f v e = absurd cc

of_text : (a : RawAttr) (o : Option (List ℕ)) → NamesNone (text_or a o)
of_text a None = of_err _
of_text a (Some text) = of_only (Text text)

of_slot : (s : MeaningContext ℕ) (a : RawAttr) (o : Option ℕ) → NamesNone (text_by s a o)
of_slot s a None = of_err _
of_slot s a (Some offset) = of_text a (text_at s.around.sources.strs offset)

of_base : (s : MeaningContext ℕ) (a : RawAttr) (o : Option ℕ) → NamesNone (text_from s a o)
of_base s a None = of_err _
of_base s a (Some base) = of_slot s a (slot s.around.sources.offsets base (offset_of a))

of_common : (a : RawAttr) (o : Option (Common ℕ)) → NamesNone (common_text a o)
of_common a None = of_err _
of_common a (Some c) = of_text a (text_at c.strs (offset_of a))

of_path : (a : RawAttr) (o : Option (List ℕ)) → NamesNone (path_or a o)
of_path a None = of_err _
of_path a (Some path) = of_only (File (Some path))

of_zero : (f : Fault) (b : Bool) → NamesNone (if b then Ok (only (File None)) else Err f)
of_zero f true = of_only (File None)
of_zero f false = of_err f

of_file : (o : Option ℕ) (s : MeaningContext ℕ) (a : RawAttr) → NamesNone (file_by o s a)
of_file None s a v e = of_zero _ (is_zero (number_of a.raw)) v e
of_file (Some place) s a v e =
    let x = bind_ok (file_table_at (text_sections_of s.around.sources) s.around.sources.line place) (row_of_table a) v e in
    of_path a (path_by x.0 (number_of a.raw)) v x.2

of_constant : (s : MeaningContext ℕ) (a : RawAttr) (b : Bool) → NamesNone (if b then file_by (stmt_list s) s a else Ok (constant_value a))
of_constant s a true = of_file (stmt_list s) s a
of_constant s a false = of_only _

of_offset : (s : MeaningContext ℕ) (a : RawAttr) (b : Bool) → b ≡ false → NamesNone (if b then list_meaning s a (offset_of a) else Ok (only (Sec (offset_of a))))
of_offset s a true e = absurd cc
of_offset s a false e = of_only _

-- values of the class may name something
abbrev pub names_some : Class → Bool
names_some OfUnitEntry = true
names_some OfInfoEntry = true
names_some OfCommonEntry = true
names_some OfExpression = true
names_some OfListIndex = true
names_some _ = false

pub refs_none : (c : Class) (s : MeaningContext ℕ) (a : RawAttr) → names_some c ≡ false → (c ≡ OfOffset → names_list a.pair.name ≡ false) → NamesNone (as_class c s a)
refs_none OfAddress s a none list = of_only _
refs_none OfBlock s a none list = of_only _
refs_none OfConstant s a none list = of_constant s a (names_file a.pair.name)
refs_none OfFlag s a none list = of_only _
refs_none OfText s a none list = of_only _
refs_none OfTextInStr s a none list = of_text a _
refs_none OfTextInLineStr s a none list = of_text a _
refs_none OfTextBySlot s a none list = of_base s a (str_offsets_base s)
refs_none OfUnitEntry s a none list = absurd cc
refs_none OfInfoEntry s a none list = absurd cc
refs_none OfSignature s a none list = of_only _
refs_none OfOffset s a none list = of_offset s a (names_list a.pair.name) (list refl)
refs_none OfExpression s a none list = absurd cc
refs_none OfListIndex s a none list = absurd cc
refs_none OfIndex s a none list = of_only _
refs_none OfCommonEntry s a none list = absurd cc
refs_none OfCommonText s a none list = of_common a s.around.common
refs_none Unread s a none list = of_err _

-- nor does what stands for it
pub names_nothing : (q : Setting) (a : RawAttr) (v : Value ℕ) → v.refs ≡ [] → value_refs (said q a v).value ≡ []
names_nothing q a v none = ap (λ (w : List ℕ). refs_beside v.plain (map q.place w)) none ∙ none_beside v.plain

-- ---- texts

-- the text that a value is
pub record IsText (o : Option (List ℕ)) (v : Value ℕ) : Type 0 where
  pub text : List ℕ
  pub there : o ≡ Some text
  pub plain : v.plain ≡ Text text

pub text_is : (a : RawAttr) (v : Value ℕ) (o : Option (List ℕ)) → text_or a o ≡ Ok v → IsText o v
text_is a v None e = absurd cc
text_is a v (Some text) e = (let is : only (Text text) ≡ v = cc in record { text = text; there = refl; plain = sym (ap (λ (w : Value ℕ). w.plain) is) })

pub record IsSlotText (s : MeaningContext ℕ) (base : Option ℕ) (a : RawAttr) (v : Value ℕ) : Type 0 where
  pub at : ℕ
  pub offset : ℕ
  pub base_is : base ≡ Some at
  pub slot_is : slot s.around.sources.offsets at (offset_of a) ≡ Some offset
  pub text : IsText (text_at s.around.sources.strs offset) v

slot_text : (s : MeaningContext ℕ) (a : RawAttr) (v : Value ℕ) (at : ℕ) (o : Option ℕ) → slot s.around.sources.offsets at (offset_of a) ≡ o → text_by s a o ≡ Ok v → IsSlotText s (Some at) a v
slot_text s a v at None is e = absurd cc
slot_text s a v at (Some offset) is e = record { at = at; offset = offset; base_is = refl; slot_is = is; text = text_is a v (text_at s.around.sources.strs offset) e }

pub slot_is : (s : MeaningContext ℕ) (a : RawAttr) (v : Value ℕ) (base : Option ℕ) → text_from s a base ≡ Ok v → IsSlotText s base a v
slot_is s a v None e = absurd cc
slot_is s a v (Some at) e = slot_text s a v at (slot s.around.sources.offsets at (offset_of a)) refl e

pub common_is : (a : RawAttr) (v : Value ℕ) (o : Option (Common ℕ)) → common_text a o ≡ Ok v → IsText (text_at (texts_in o) (offset_of a)) v
common_is a v None e = absurd cc
common_is a v (Some c) e = text_is a v (text_at c.strs (offset_of a)) e

-- ---- what is held as it was read

abbrev as_answer : Value ℕ → Result (Value ℕ) Fault
as_answer v = Ok v

abbrev pub as_value : Raw → Held (Copy ℕ)
as_value r = ValueHeld r

module _ (q : Setting) (a : RawAttr) (v : Value ℕ) (spelled : HasSpelling a.pair.form a.raw) where
  abbrev y : Attr (Copy ℕ)
  y = attr_map (copied q) (said q a v)

  number : (c : Class) → class_of a.pair.form ≡ c → stores_bytes c ≡ false → (c ≡ Unread → ⊥) → as_value a.raw ≡ ValueHeld (Number y.raw)
  number c e stores some = ap as_value (raw_number a.pair.form a.raw spelled (ap stores_bytes e ∙ stores) (λ u. some (sym e ∙ u)))

  bytes : (c : Class) → class_of a.pair.form ≡ c → stores_bytes c ≡ true → (c ≡ Unread → ⊥) → as_value a.raw ≡ ValueHeld (Bytes (bytes_of a.raw))
  bytes c e stores some = ap as_value (raw_bytes a.pair.form a.raw spelled (ap stores_bytes e ∙ stores) (λ u. some (sym e ∙ u)))

  of_plain : (plain : Plain) → as_answer (only plain) ≡ Ok v → plain ≡ y.value.plain
  of_plain plain e = (let is : only plain ≡ v = cc in ap (λ (w : Value ℕ). w.plain) is)

  -- values of the class are no entries, and no expressions
  pub held_raw : (c : Class) → class_of a.pair.form ≡ c → is_entry c ≡ false → (c ≡ OfExpression → ⊥) → as_class c (scope q) a ≡ Ok v → ValueHeld a.raw ≡ held_as c y
  held_raw OfAddress e entry other means = number OfAddress e refl (λ u. cc)
  held_raw OfBlock e entry other means = bytes OfBlock e refl (λ u. cc) ∙ ap (λ (p : Plain). ValueHeld (Bytes (block_in p))) (of_plain (Block (bytes_of a.raw)) means)
  held_raw OfConstant e entry other means = number OfConstant e refl (λ u. cc)
  held_raw OfFlag e entry other means = number OfFlag e refl (λ u. cc)
  held_raw OfText e entry other means = bytes OfText e refl (λ u. cc) ∙ ap (λ (p : Plain). ValueHeld (Bytes (text_or_empty p))) (of_plain (Text (bytes_of a.raw)) means)
  held_raw OfTextInStr e entry other means = number OfTextInStr e refl (λ u. cc)
  held_raw OfTextInLineStr e entry other means = number OfTextInLineStr e refl (λ u. cc)
  held_raw OfTextBySlot e entry other means = number OfTextBySlot e refl (λ u. cc)
  held_raw OfUnitEntry e entry other means = absurd cc
  held_raw OfInfoEntry e entry other means = absurd cc
  held_raw OfSignature e entry other means = number OfSignature e refl (λ u. cc)
  held_raw OfOffset e entry other means = number OfOffset e refl (λ u. cc)
  held_raw OfExpression e entry other means = absurd (other refl)
  held_raw OfListIndex e entry other means = number OfListIndex e refl (λ u. cc)
  held_raw OfIndex e entry other means = number OfIndex e refl (λ u. cc)
  held_raw OfCommonEntry e entry other means = absurd cc
  held_raw OfCommonText e entry other means = number OfCommonText e refl (λ u. cc)
  held_raw Unread e entry other means = absurd cc
