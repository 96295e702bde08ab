-- Which values have a mark of their own, by their class; and what is told of a value.
use Rattle.std.proofs.Common.{◌≡◌, ℕ, ◌+◌, Bool, true, false, List, [], ◌∷◌, ◌++◌, length, map, drop, Option, Some, None, Result, Ok, Err, eqb, refl, sym, ap, subst, ◌∙◌, arith}
use Rattle.std.specs.List.{flat_map}
use Rattle.std.specs.Prelude.{IfOk, if◌then◌else◌, nat_lt}
use Rattle.std.proofs.lemmas.List.{append-nil}
use Rattle.dwz_def_reading.specs.Reading.{◌>>=◌}
use Rattle.dwz_def_reading.specs.Classes.{Class, OfAddress, OfBlock, OfCommonEntry, OfCommonText, OfConstant, OfExpression, OfFlag, OfIndex, OfInfoEntry, OfListIndex, OfOffset}
use Rattle.dwz_def_reading.specs.Classes.{OfSignature, OfText, OfTextBySlot, OfTextInLineStr, OfTextInStr, OfUnitEntry, Unread, names_file, names_list}
use Rattle.dwz_def_reading.specs.Documents.{File, Plain, Ref, Sec, Text, Value, only}
use Rattle.dwz_def_reading.specs.Entries.{RawAttr}
use Rattle.dwz_def_reading.specs.Exprs.{expr_at}
use Rattle.dwz_def_reading.specs.Faults.{info_fault}
use Rattle.dwz_def_reading.specs.LineTables.{file_table_at}
use Rattle.dwz_def_reading.specs.Meanings.{Common, MeaningContext, block_begins, bytes_of, constant_value, expr_context, flag_value, loclists_base, number_of}
use Rattle.dwz_def_reading.specs.Meanings.{offset_of, path_by, stmt_list, str_offsets_base, text_sections_of}
use Rattle.dwz_def_reading.specs.Meant.{as_class, common_entry, common_text, expr_said, file_by, is_zero, list_by, list_from, list_meaning, list_read, loc_said, path_or, row_of_table, text_by, text_from, text_or}
use Rattle.dwz_def_reading.specs.Texts.{slot, text_at}
use Rattle.dwz_def_reading.proofs.PartLemmas.{bind_ok}
use Rattle.dwz_def_tops.specs.Spots.{EntryName}
use Rattle.dwz_graph.specs.Named.{refs_beside, value_refs}
use Rattle.dwz_graph.proofs.PlainBeside.{none_beside}
use Rattle.dwz_label_marks.specs.Marks.{Mark, Plainly, count_marks, direct, plain_mark, target_marks, usual}
use Rattle.dwz_label_marks.specs.Told.{Adds}
use Rattle.dwz_label_words.specs.Told.{TellsValue}
use Rattle.dwz_model.specs.declared.fault.Fault.{Fault}
use Rattle.dwz_model.specs.declared.fault.Reason.TheVariants.{BadFile, BadList}

-- ---- values without a mark of their own

abbrev HasName : Result (Value ℕ) Fault → Type 0
HasName r = (v : Value ℕ) → r ≡ Ok v → direct v.plain ≡ None

of_value : (w : Value ℕ) → direct w.plain ≡ None → HasName (Ok w)
of_value w none v e = let is : w ≡ v = cc in subst (λ (x : Value ℕ). direct x.plain ≡ None) is none

of_err : (f : Fault) → HasName (Err f)
of_err f v e = absurd cc

of_text : (a : RawAttr) (o : Option (List ℕ)) → HasName (text_or a o)
of_text a None = of_err _
of_text a (Some text) = of_value (only (Text text)) refl

of_slot : (s : MeaningContext ℕ) (a : RawAttr) (o : Option ℕ) → HasName (text_by s a o)
of_slot s a None = of_err _
of_slot s a (Some offset) = of_text a (text_at s.around.sources.strs offset)

of_base : (s : MeaningContext ℕ) (a : RawAttr) (o : Option ℕ) → HasName (text_from s a o)
of_base s a None = of_err _
of_base s a (Some base) = of_slot s a (slot s.around.sources.offsets base (offset_of a))

of_expr : (s : MeaningContext ℕ) (a : RawAttr) → HasName (as_class OfExpression s a)
of_expr s a v e =
    let x = bind_ok (expr_at (expr_context s 1) (record { at = block_begins a; rest = bytes_of a.raw })) (expr_said s) v e in
    let said : expr_said s x.0 ≡ Ok v = x.2 in
    of_value _ refl v said

of_list : (s : MeaningContext ℕ) (a : RawAttr) (place : ℕ) → HasName (list_meaning s a place)
of_list s a place = go (nat_lt place (length s.around.sources.lists)) where
  go : (b : Bool) → HasName (if b then (list_read s place >>= loc_said s) else Err (info_fault a.at BadList))
  go false v e = of_err _ v e
  go true v e =
      let x = bind_ok (list_read s place) (loc_said s) v e in
      let said : loc_said s x.0 ≡ Ok v = x.2 in
      of_value _ refl v said

of_list_slot : (s : MeaningContext ℕ) (a : RawAttr) (base : ℕ) (o : Option ℕ) → HasName (list_by s a base o)
of_list_slot s a base None = of_err _
of_list_slot s a base (Some offset) = of_list s a (base + offset)

of_list_base : (s : MeaningContext ℕ) (a : RawAttr) (o : Option ℕ) → HasName (list_from s a o)
of_list_base s a None = of_err _
of_list_base s a (Some base) = of_list_slot s a base (slot s.around.sources.lists base (offset_of a))

of_offset : (s : MeaningContext ℕ) (a : RawAttr) → HasName (as_class OfOffset s a)
of_offset s a = go (names_list a.pair.name) where
  go : (b : Bool) → HasName (if b then list_meaning s a (offset_of a) else Ok (only (Sec (offset_of a))))
  go true = of_list s a (offset_of a)
  go false = of_value (only (Sec (offset_of a))) refl

of_common_entry : (a : RawAttr) (o : Option (Common ℕ)) → o ≡ None → HasName (common_entry a o)
of_common_entry a None none = of_err _
of_common_entry a (Some c) none = absurd cc

of_common_text : (a : RawAttr) (o : Option (Common ℕ)) → HasName (common_text a o)
of_common_text a None = of_err _
of_common_text a (Some c) = of_text a (text_at c.strs (offset_of a))

pub other_name : (k : Class) (s : MeaningContext ℕ) (a : RawAttr) → s.around.common ≡ None → (k ≡ OfConstant → ⊥) → (k ≡ OfFlag → ⊥) → (k ≡ OfTextInStr → ⊥)
    → (k ≡ OfUnitEntry → ⊥) → (k ≡ OfInfoEntry → ⊥) → (v : Value ℕ) → as_class k s a ≡ Ok v → direct v.plain ≡ None
other_name OfAddress s a none b c d e f = of_value _ refl
other_name OfBlock s a none b c d e f = of_value _ refl
other_name OfConstant s a none b c d e f = absurd (b refl)
other_name OfFlag s a none b c d e f = absurd (c refl)
other_name OfText s a none b c d e f = of_value _ refl
other_name OfTextInStr s a none b c d e f = absurd (d refl)
other_name OfTextInLineStr s a none b c d e f = of_text a _
other_name OfTextBySlot s a none b c d e f = of_base s a (str_offsets_base s)
other_name OfUnitEntry s a none b c d e f = absurd (e refl)
other_name OfInfoEntry s a none b c d e f = absurd (f refl)
other_name OfSignature s a none b c d e f = of_value _ refl
other_name OfOffset s a none b c d e f = of_offset s a
other_name OfExpression s a none b c d e f = of_expr s a
other_name OfListIndex s a none b c d e f = of_list_base s a (loclists_base s)
other_name OfIndex s a none b c d e f = of_value _ refl
other_name OfCommonEntry s a none b c d e f = of_common_entry a s.around.common none
other_name OfCommonText s a none b c d e f = of_common_text a s.around.common
other_name Unread s a none b c d e f = of_err _

-- ---- values with a mark of their own that name no entry

abbrev NamesNone : Result (Value ℕ) Fault → Type 0
NamesNone r = (v : Value ℕ) → r ≡ Ok v → usual v.plain ≡ 0

none_of : (w : Value ℕ) → usual w.plain ≡ 0 → NamesNone (Ok w)
none_of w none v e = let is : w ≡ v = cc in subst (λ (x : Value ℕ). usual x.plain ≡ 0) is none

none_err : (f : Fault) → NamesNone (Err f)
none_err f v e = absurd cc

none_path : (a : RawAttr) (o : Option (List ℕ)) → NamesNone (path_or a o)
none_path a None = none_err _
none_path a (Some path) = none_of (only (File (Some path))) refl

none_zero : (f : Fault) (b : Bool) → NamesNone (if b then Ok (only (File None)) else Err f)
none_zero f true = none_of (only (File None)) refl
none_zero f false = none_err f

none_file : (line : Option ℕ) (s : MeaningContext ℕ) (a : RawAttr) → NamesNone (file_by line s a)
none_file None s a v e = none_zero (info_fault a.at BadFile) (is_zero (number_of a.raw)) v e
none_file (Some place) s a v e =
    let x = bind_ok (file_table_at (text_sections_of s.around.sources) s.around.sources.line place) (row_of_table a) v e in
    none_path a (path_by x.0 (number_of a.raw)) v x.2

pub constant_none : (s : MeaningContext ℕ) (a : RawAttr) → NamesNone (as_class OfConstant s a)
constant_none s a = go (names_file a.pair.name) where
  go : (b : Bool) → NamesNone (if b then file_by (stmt_list s) s a else Ok (constant_value a))
  go true v e = none_file (stmt_list s) s a v e
  go false v e = none_of (constant_value a) refl v e

pub flag_is : (s : MeaningContext ℕ) (a : RawAttr) (v : Value ℕ) → as_class OfFlag s a ≡ Ok v → (flag_value {P = ℕ} a).plain ≡ v.plain
flag_is s a v e = let is : flag_value {P = ℕ} a ≡ v = cc in ap (λ (x : Value ℕ). x.plain) is

pub text_is : (a : RawAttr) (o : Option (List ℕ)) (v : Value ℕ) → text_or a o ≡ Ok v → (text : List ℕ) × (o ≡ Some text) × (Text text ≡ v.plain)
text_is a None v e = absurd cc
text_is a (Some text) v e = let is : only (Text text) ≡ v = cc in (text, refl, ap (λ (x : Value ℕ). x.plain) is)

-- ---- what names no entry

pub named_none : (p : Plain) → direct p ≡ None → usual p ≡ 0
named_none Ref e = absurd cc
named_none _ e = refl

no_refs : (refs : List ℕ) → length refs ≡ 0 → refs ≡ []
no_refs [] l = refl
no_refs (x ∷ refs) l = absurd (omega arith)

told_marks : (name : ℕ → EntryName) (plain : Plain) (refs : List ℕ) → usual plain ≡ 0 → refs ≡ []
    → plain_mark plain ∷ [] ≡ count_marks (eqb (length (map name refs)) (usual plain)) (length (map name refs)) ++ (plain_mark plain ∷ flat_map target_marks (map name refs))
told_marks name plain refs none empty =
    subst (λ (w : List ℕ). plain_mark plain ∷ [] ≡ count_marks (eqb (length (map name w)) (usual plain)) (length (map name w)) ++ (plain_mark plain ∷ flat_map target_marks (map name w)))
    (sym empty) (ap (λ (n : ℕ). count_marks (eqb 0 n) 0 ++ (plain_mark plain ∷ [])) (sym none))

-- the mark of a value that names none is all that is told of it
pub told_alone : (name : ℕ → EntryName) (v : Value ℕ) (names : List (List ℕ)) (refs old new : List ℕ) → usual v.plain ≡ 0 → length v.refs ≡ usual v.plain
    → Adds names (plain_mark v.plain ∷ []) old new → TellsValue name v names refs refs old new
told_alone name v names refs old new none many x =
    let empty = no_refs v.refs (many ∙ none) in
    record {
      marks = subst (λ (m : List Mark). Adds names m old new) (told_marks name v.plain v.refs none empty) x;
      ends = ap (λ (w : List ℕ). drop (length w) refs) (sym (ap (λ (w : List ℕ). refs_beside v.plain w) empty ∙ none_beside v.plain));
    }

-- ---- a reference

pub one_ref : (refs : List ℕ) → length refs ≡ 1 → (p : ℕ) × (refs ≡ p ∷ [])
one_ref [] l = absurd (omega arith)
one_ref (p ∷ []) l = (p, refl)
one_ref (p ∷ q ∷ refs) l = absurd (omega arith)

pub told_entry : (name : ℕ → EntryName) (v : Value ℕ) (names : List (List ℕ)) (refs others old new : List ℕ) → v.plain ≡ Ref → value_refs v ≡ v.refs → length v.refs ≡ 1
    → (p : ℕ) → v.refs ≡ p ∷ [] → Adds names (Plainly 3 ∷ target_marks (name p)) old new × (others ≡ drop 1 refs) → TellsValue name v names refs others old new
told_entry name v names refs others old new is same one p here t =
    record {
      marks = subst (λ (m : List Mark). Adds names m old new) (entry_marks name v.plain v.refs p is here) t.0;
      ends = t.1 ∙ ap (λ (k : ℕ). drop k refs) (sym (ap (λ (w : List ℕ). length w) same ∙ one));
    }
  where
    entry_marks : (name : ℕ → EntryName) (plain : Plain) (refs : List ℕ) (p : ℕ) → plain ≡ Ref → refs ≡ p ∷ []
        → Plainly 3 ∷ target_marks (name p) ≡ count_marks (eqb (length (map name refs)) (usual plain)) (length (map name refs)) ++ (plain_mark plain ∷ flat_map target_marks (map name refs))
    entry_marks name plain refs p is one =
        subst (λ (w : List ℕ). Plainly 3 ∷ target_marks (name p) ≡ count_marks (eqb (length (map name w)) (usual plain)) (length (map name w)) ++ (plain_mark plain ∷ flat_map target_marks (map name w)))
        (sym one)
        (subst (λ (x : Plain). Plainly 3 ∷ target_marks (name p) ≡ count_marks (eqb 1 (usual x)) 1 ++ (plain_mark x ∷ (target_marks (name p) ++ []))) (sym is)
        (ap (λ (m : List Mark). Plainly 3 ∷ m) (sym (append-nil (target_marks (name p))))))

pub weaker : {T E : Type 0} (r : Result T E) (P Q : T → Type 0) → ((x : T) → P x → Q x) → IfOk r P → IfOk r Q
weaker (Ok x) P Q f h = f x h
weaker (Err e) P Q f h = h
