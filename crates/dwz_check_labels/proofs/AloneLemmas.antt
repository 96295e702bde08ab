-- What a value means beside a common file that it doesn't speak of, it means without one.
use Rattle.std.proofs.Common.{◌≡◌, ℕ, ◌+◌, ◌++◌, List, length, map, Option, Some, None, Result, Ok, Err, refl, sym, ap, subst, ◌∙◌}
use Rattle.std.specs.Prelude.{if◌then◌else◌, nat_lt, Bool, true, false}
use Rattle.dwz_def_reading.specs.Classes.{Class, class_of}
use Rattle.dwz_def_reading.specs.Classes.{OfAddress, OfBlock, OfCommonEntry, OfCommonText, OfConstant, OfExpression, OfFlag, OfIndex}
use Rattle.dwz_def_reading.specs.Classes.{OfInfoEntry, OfListIndex, OfOffset, OfSignature, OfText, OfTextBySlot, OfTextInLineStr, OfTextInStr, OfUnitEntry, Unread}
use Rattle.dwz_def_reading.specs.Documents.{Ref, Text, Value, only, ref}
use Rattle.dwz_def_reading.specs.Entries.{RawAttr}
use Rattle.dwz_def_reading.specs.Meanings.{Common, MeaningContext, offset_of}
use Rattle.dwz_def_reading.specs.Rows.{has}
use Rattle.dwz_def_reading.specs.Faults.{info_fault}
use Rattle.dwz_model.specs.declared.fault.Fault.{Fault}
use Rattle.dwz_model.specs.declared.fault.Reason.TheVariants.{BadList, BadReference}
use Rattle.dwz_def_reading.specs.Meant.{as_class, common_entry, common_text, meaning, text_or}
use Rattle.dwz_def_reading.specs.Texts.{slot, text_at}
use Rattle.dwz_def_reading.specs.declared.exprs.Operand.{Operand}
use Rattle.dwz_model.specs.declared.place.Base.{Base}
use Rattle.dwz_model.specs.declared.place.Base.TheVariants.{Unit as FromUnit, Info as FromInfo}
use Rattle.dwz_def_reading.specs.Reading.{◌>>=◌}
use Rattle.dwz_def_reading.specs.Classes.{names_file, names_list}
use Rattle.dwz_def_reading.specs.Documents.{Expr, Loc, Sec}
use Rattle.dwz_def_reading.specs.Exprs.{expr_at, parts_of}
use Rattle.dwz_def_reading.specs.LocLists.{list_at}
use Rattle.dwz_def_reading.specs.Sequences.{read_from}
use Rattle.dwz_def_reading.specs.Shared.{operands_of}
use Rattle.dwz_def_reading.specs.Meanings.{any_with_address, block_begins, bytes_of, constant_value, entries_for, expr_context, leads_to}
use Rattle.dwz_def_reading.specs.Meanings.{loclists_base, stmt_list, str_offsets_base, target_of, targets}
use Rattle.dwz_def_reading.specs.Meant.{expr_meaning, file_by, list_by, list_from, list_meaning, list_read, loc_said, text_by, text_from}
use Rattle.dwz_graph.specs.Named.{value_refs}
use Rattle.dwz_def_reading.specs.Exprs.{first_unnamed}
use Rattle.dwz_def_reading.specs.LineTables.{FileTable}
use Rattle.dwz_graph.specs.Operands.{is_named}
use Rattle.dwz_label_entries.specs.declared.named.Named.{Named}
use Rattle.dwz_label_entries.specs.declared.named.Named.TheVariants.{Kept, Next}
use Rattle.dwz_label_entries.specs.Plain.{KnowsLine, NamesSo, TellsPlain}
use Rattle.dwz_label.specs.Labels.{plain_label}
use Rattle.dwz_check_labels.specs.Files.{texts_in}

-- the same without a common file
abbrev pub alone_scope : MeaningContext ℕ → MeaningContext ℕ
alone_scope s = record {
  around = record { sources = s.around.sources; all = s.around.all; place = s.around.place; common = None };
  unit = s.unit;
  root = s.root;
  own = s.own;
}

module _ (s : MeaningContext ℕ) where
  leads_alone : (b : Base) (n : ℕ) → leads_to (alone_scope s) b n ≡ leads_to s b n
  leads_alone FromUnit n = refl
  leads_alone FromInfo n = refl

  entries_alone : (b : Base) → entries_for (alone_scope s) b ≡ entries_for s b
  entries_alone FromUnit = refl
  entries_alone FromInfo = refl

  pub target_alone : (o : Operand) → target_of (alone_scope s) o ≡ target_of s o
  target_alone o = leads_alone o.base o.number

  pub named_alone : (o : Operand) → has (target_of (alone_scope s) o) (entries_for (alone_scope s) o.base) ≡ has (target_of s o) (entries_for s o.base)
  named_alone o = λ i. has (target_alone o i) (entries_alone o.base i)

  pub targets_alone : (os : List Operand) → targets (alone_scope s) os ≡ targets s os
  targets_alone os = λ i. map (λ o. s.around.place (target_alone o i)) os

  context_alone : (section : ℕ) → expr_context (alone_scope s) section ≡ expr_context s section
  context_alone section = λ i. record { section = section; names = λ o. named_alone o i }

  expr_alone : (a : RawAttr) → expr_meaning (alone_scope s) a ≡ expr_meaning s a
  expr_alone a = λ i. expr_at (context_alone 1 i) (record { at = block_begins a; rest = bytes_of a.raw })
      >>= λ e. Ok (record { plain = Expr (parts_of e); refs = targets_alone e.operands i; address = e.address })

  read_alone : (place : ℕ) → (list_read (alone_scope s) place >>= loc_said (alone_scope s)) ≡ (list_read s place >>= loc_said s)
  read_alone place = λ i. read_from (list_at (context_alone 7 i)) s.around.sources.lists place
      >>= λ l. Ok (record { plain = Loc (map parts_of l.exprs); refs = targets_alone (operands_of l.exprs) i; address = any_with_address l.exprs })

  list_alone : (a : RawAttr) (place : ℕ) → list_meaning (alone_scope s) a place ≡ list_meaning s a place
  list_alone a place = ap (λ (r : Result (Value ℕ) Fault). if nat_lt place (length s.around.sources.lists) then r else Err (info_fault a.at BadList)) (read_alone place)

  by_alone : (a : RawAttr) (base : ℕ) (o : Option ℕ) → list_by (alone_scope s) a base o ≡ list_by s a base o
  by_alone a base None = refl
  by_alone a base (Some offset) = list_alone a (base + offset)

  from_alone : (a : RawAttr) (o : Option ℕ) → list_from (alone_scope s) a o ≡ list_from s a o
  from_alone a None = refl
  from_alone a (Some base) = by_alone a base (slot s.around.sources.lists base (offset_of a))

  file_alone : (a : RawAttr) (o : Option ℕ) → file_by o (alone_scope s) a ≡ file_by o s a
  file_alone a None = refl
  file_alone a (Some place) = refl

  slot_alone : (a : RawAttr) (o : Option ℕ) → text_by (alone_scope s) a o ≡ text_by s a o
  slot_alone a None = refl
  slot_alone a (Some offset) = refl

  text_alone : (a : RawAttr) (o : Option ℕ) → text_from (alone_scope s) a o ≡ text_from s a o
  text_alone a None = refl
  text_alone a (Some base) = slot_alone a (slot s.around.sources.offsets base (offset_of a))

pub as_alone : (k : Class) (s : MeaningContext ℕ) (a : RawAttr) → (k ≡ OfCommonEntry → ⊥) → (k ≡ OfCommonText → ⊥) → as_class k (alone_scope s) a ≡ as_class k s a
as_alone OfAddress s a e t = refl
as_alone OfBlock s a e t = refl
as_alone OfConstant s a e t = ap (λ (r : Result (Value ℕ) Fault). if names_file a.pair.name then r else Ok (constant_value a)) (file_alone s a (stmt_list s))
as_alone OfFlag s a e t = refl
as_alone OfText s a e t = refl
as_alone OfTextInStr s a e t = refl
as_alone OfTextInLineStr s a e t = refl
as_alone OfTextBySlot s a e t = text_alone s a (str_offsets_base s)
as_alone OfUnitEntry s a e t = refl
as_alone OfInfoEntry s a e t = refl
as_alone OfSignature s a e t = refl
as_alone OfOffset s a e t = ap (λ (r : Result (Value ℕ) Fault). if names_list a.pair.name then r else Ok (only (Sec (offset_of a)))) (list_alone s a (offset_of a))
as_alone OfExpression s a e t = expr_alone s a
as_alone OfListIndex s a e t = from_alone s a (loclists_base s)
as_alone OfIndex s a e t = refl
as_alone OfCommonEntry s a e t = absurd (e refl)
as_alone OfCommonText s a e t = absurd (t refl)
as_alone Unread s a e t = refl

pub means_alone : (k : Class) (s : MeaningContext ℕ) (a : RawAttr) (v : Value ℕ) → k ≡ class_of a.pair.form → (k ≡ OfCommonEntry → ⊥) → (k ≡ OfCommonText → ⊥) → meaning s a ≡ Ok v
    → meaning (alone_scope s) a ≡ Ok v
unfolding meaning
means_alone k s a v is e t means =
    ap (λ (w : Class). as_class w (alone_scope s) a) (sym is) ∙ as_alone k s a e t ∙ ap (λ (w : Class). as_class w s a) is ∙ means

-- ---- values that the common file has

abbrev IsRef : Value ℕ → Type 0
IsRef v = (v.plain ≡ Ref) × (value_refs v ≡ v.refs) × (length v.refs ≡ 1)

entry_of : (place : ℕ → ℕ) (f : Fault) (p : ℕ) (b : Bool) (v : Value ℕ) → (if b then Ok (ref (place p)) else Err f) ≡ Ok v → IsRef v
entry_of place f p true v e = let is : ref (place p) ≡ v = cc in subst IsRef is (refl, refl, refl)
entry_of place f p false v e = absurd cc

of_entry : (a : RawAttr) (o : Option (Common ℕ)) (v : Value ℕ) → common_entry a o ≡ Ok v → IsRef v
of_entry a None v e = absurd cc
of_entry a (Some c) v e = entry_of c.place (info_fault a.at BadReference) (offset_of a) (has (offset_of a) c.entries) v e

pub common_names : (s : MeaningContext ℕ) (a : RawAttr) (v : Value ℕ) → as_class OfCommonEntry s a ≡ Ok v → (v.plain ≡ Ref) × (value_refs v ≡ v.refs) × (length v.refs ≡ 1)
common_names s a v e = of_entry a s.around.common v e

-- the text stands in the common file
pub record IsText (strs : List ℕ) (a : RawAttr) (v : Value ℕ) : Type 0 where
  pub text : List ℕ
  pub stands : text_at strs (offset_of a) ≡ Some text
  pub value : only (Text text) ≡ v

of_text : (strs : List ℕ) (a : RawAttr) (o : Option (List ℕ)) (v : Value ℕ) → text_at strs (offset_of a) ≡ o → text_or a o ≡ Ok v → IsText strs a v
of_text strs a None v is e = absurd cc
of_text strs a (Some text) v is e = let same : only (Text text) ≡ v = cc in record { text = text; stands = is; value = same }

of_common : (a : RawAttr) (o : Option (Common ℕ)) (v : Value ℕ) → common_text a o ≡ Ok v → IsText (texts_in o) a v
of_common a None v e = absurd cc
of_common a (Some c) v e = of_text c.strs a (text_at c.strs (offset_of a)) v refl e

pub text_names : (s : MeaningContext ℕ) (a : RawAttr) (v : Value ℕ) → as_class OfCommonText s a ≡ Ok v → IsText (texts_in s.around.common) a v
text_names s a v e = of_common a s.around.common v e

-- ---- what is told without one

pub line_alone : (s : MeaningContext ℕ) (a : RawAttr) (tables : List FileTable) (line : Option ℕ) → KnowsLine s a tables line → KnowsLine (alone_scope s) a tables line
line_alone s a tables None h = h
line_alone s a tables (Some number) h = h

unnamed_alone : (s : MeaningContext ℕ) (os : List Operand) → first_unnamed (is_named (alone_scope s)) os ≡ first_unnamed (is_named s) os
unnamed_alone s os = λ i. first_unnamed (λ o. named_alone s o i) os

names_beside : (s : MeaningContext ℕ) (v : Value ℕ) (os : List Operand) (named : Named) → NamesSo (alone_scope s) v os named → NamesSo s v os named
names_beside s v os (Next count) h = h
names_beside s v os Kept h = (h.0, h.1 ∙ targets_alone s os, sym (unnamed_alone s os) ∙ h.2)

pub plain_beside : (s : MeaningContext ℕ) (v : Value ℕ) (os : List Operand) (old new : List ℕ) (named : Named) → TellsPlain (alone_scope s) v os old new named → TellsPlain s v os old new named
plain_beside s v os old new named h = record { bytes = h.bytes; names = names_beside s v os named h.names }

pub text_told : (s : MeaningContext ℕ) (v : Value ℕ) (os : List Operand) (old new text : List ℕ) → only (Text text) ≡ v → new ≡ old ++ plain_label (Text text) → TellsPlain s v os old new (Next 0)
text_told s v os old new text is e = subst (λ (w : Value ℕ). TellsPlain s w os old new (Next 0)) is (record { bytes = e; names = (refl, refl) })
