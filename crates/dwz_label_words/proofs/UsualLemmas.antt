-- A value without an operand names an entry only as a reference.
use Rattle.std.proofs.Common.{◌≡◌, ℕ, Bool, true, false, List, [], ◌∷◌, ◌++◌, ◌||◌, ◌+◌, length, map, Option, Some, None, Ok, Err, refl, sym, ap, subst, ◌∙◌}
use Rattle.std.specs.List.{list_any}
use Rattle.std.specs.Prelude.{if◌then◌else◌, nat_lt}
use Rattle.dwz_def_reading.specs.Classes.{Class, OfAddress, OfBlock, OfCommonEntry, OfCommonText, OfConstant, OfExpression, OfFlag, OfIndex, OfInfoEntry, OfListIndex, OfOffset}
use Rattle.dwz_def_reading.specs.Classes.{OfSignature, OfText, OfTextBySlot, OfTextInLineStr, OfTextInStr, OfUnitEntry, Unread, class_of, names_file, names_list}
use Rattle.dwz_def_reading.specs.declared.exprs.Operand.{Operand}
use Rattle.dwz_def_reading.specs.Documents.{Attr, Node, Sec, Value, only}
use Rattle.dwz_def_reading.specs.Entries.{RawAttr}
use Rattle.dwz_def_reading.specs.Exprs.{Expression, expr_at, parts_from, parts_of}
use Rattle.dwz_def_reading.specs.Faults.{info_fault}
use Rattle.dwz_def_reading.specs.Lists.{Each}
use Rattle.dwz_def_reading.specs.Meanings.{without_siblings}
use Rattle.dwz_graph.specs.Rows.{RowsMean}
use Rattle.dwz_graph.proofs.TreeLemmas.{node_attrs}
use Rattle.dwz_label_words.specs.Told.{AreUsual, IsUsual}
use Rattle.dwz_label_words.specs.Usual.{AreFree}
use Rattle.dwz_unit.specs.Rows.{EntryRow}
use Rattle.dwz_def_reading.specs.Meanings.{MeaningContext, block_begins, bytes_of, constant_value, expr_context, expr_value, loc_value, loclists_base, offset_of, stmt_list, targets}
use Rattle.dwz_def_reading.specs.Meant.{as_class, expr_said, file_by, list_by, list_from, list_meaning, list_read, loc_said, meaning, attr_with, attrs_meaning, with_attr}
use Rattle.dwz_def_reading.specs.Reading.{◌>>=◌}
use Rattle.dwz_def_reading.specs.Shared.{operands_of}
use Rattle.dwz_def_reading.specs.Texts.{slot, text_at}
use Rattle.dwz_def_reading.proofs.PartLemmas.{bind_ok}
use Rattle.dwz_def_tops.specs.Alike.{has_operand, is_operand}
use Rattle.dwz_label_entries.specs.Plain.{is_simple}
use Rattle.dwz_label_entries.proofs.PlainLemmas.{IsRefValue, file_names, info_names, simple_names, unit_names}
use Rattle.dwz_label_marks.specs.Marks.{usual}
use Rattle.dwz_label_words.proofs.ValueLemmas.{constant_none, flag_is, named_none, other_name, text_is}
use Rattle.dwz_model.specs.declared.fault.Reason.TheVariants.{BadList}

abbrev IsUsualValue : Value ℕ → Type 0
IsUsualValue v = length v.refs ≡ usual v.plain

-- ---- simple values name nothing

simple : (k : Class) (s : MeaningContext ℕ) (a : RawAttr) (v : Value ℕ) → s.around.common ≡ None → is_simple k ≡ true → (k ≡ OfConstant → ⊥) → (k ≡ OfFlag → ⊥) → (k ≡ OfTextInStr → ⊥)
    → (k ≡ OfUnitEntry → ⊥) → (k ≡ OfInfoEntry → ⊥) → as_class k s a ≡ Ok v → IsUsualValue v
simple k s a v none is b c d e f h = (simple_names k s a v is none h).1 ∙ sym (named_none v.plain (other_name k s a none b c d e f v h))

-- ---- numbers, flags and texts

constant : (s : MeaningContext ℕ) (a : RawAttr) (v : Value ℕ) → as_class OfConstant s a ≡ Ok v → IsUsualValue v
constant s a v e = many (names_file a.pair.name) v e ∙ sym (constant_none s a v e) where
  many : (b : Bool) (w : Value ℕ) → (if b then file_by (stmt_list s) s a else Ok (constant_value a)) ≡ Ok w → length w.refs ≡ 0
  many true w h = (file_names s a (stmt_list s) w h).1
  many false w h = let is : constant_value {P = ℕ} a ≡ w = cc in ap (λ (x : Value ℕ). length x.refs) (sym is)

flag : (s : MeaningContext ℕ) (a : RawAttr) (v : Value ℕ) → s.around.common ≡ None → as_class OfFlag s a ≡ Ok v → IsUsualValue v
flag s a v none e = (simple_names OfFlag s a v refl none e).1 ∙ ap usual (flag_is s a v e)

text : (s : MeaningContext ℕ) (a : RawAttr) (v : Value ℕ) → s.around.common ≡ None → as_class OfTextInStr s a ≡ Ok v → IsUsualValue v
text s a v none e = (simple_names OfTextInStr s a v refl none e).1 ∙ ap usual (text_is a (text_at s.around.sources.strs (offset_of a)) v e).2

entry : (v : Value ℕ) → IsRefValue v → IsUsualValue v
entry v n = n.2 ∙ sym (ap usual n.0)

-- ---- expressions

or_false : (a b : Bool) → (a || b) ≡ false → (a ≡ false) × (b ≡ false)
or_false true b h = absurd cc
or_false false b h = (refl, h)

no_operands : (at : ℕ) (bytes : List ℕ) (operands : List Operand) → list_any is_operand (parts_from at bytes operands) ≡ false → operands ≡ []
unfolding parts_from
no_operands at bytes [] h = refl
no_operands at bytes (o ∷ operands) h = absurd cc

none_in_list : (exprs : List Expression) → list_any (list_any is_operand) (map parts_of exprs) ≡ false → operands_of exprs ≡ []
unfolding operands_of
none_in_list [] h = refl
none_in_list (e ∷ exprs) h =
    let both = or_false (list_any is_operand (parts_of e)) (list_any (list_any is_operand) (map parts_of exprs)) h in
    let first = no_operands e.at e.bytes e.operands both.0 in
    let rest = none_in_list exprs both.1 in
    λ i. first i ++ rest i

expression : (s : MeaningContext ℕ) (a : RawAttr) (v : Value ℕ) → as_class OfExpression s a ≡ Ok v → has_operand v.plain ≡ false → IsUsualValue v
expression s a v e free =
    let x = bind_ok (expr_at (expr_context s 1) (record { at = block_begins a; rest = bytes_of a.raw })) (expr_said s) v e in
    let said : expr_said s x.0 ≡ Ok v = x.2 in
    let is : expr_value s x.0 ≡ v = cc in
    let none = no_operands x.0.at x.0.bytes x.0.operands (ap (λ (w : Value ℕ). has_operand w.plain) is ∙ free) in
    subst IsUsualValue is (ap (λ (w : List Operand). length (targets s w)) none)

list : (s : MeaningContext ℕ) (a : RawAttr) (place : ℕ) (v : Value ℕ) → list_meaning s a place ≡ Ok v → has_operand v.plain ≡ false → IsUsualValue v
list s a place v e free = go (nat_lt place (length s.around.sources.lists)) e where
  go : (b : Bool) → (if b then (list_read s place >>= loc_said s) else Err (info_fault a.at BadList)) ≡ Ok v → IsUsualValue v
  go false h = absurd cc
  go true h =
      let x = bind_ok (list_read s place) (loc_said s) v h in
      let said : loc_said s x.0 ≡ Ok v = x.2 in
      let is : loc_value s x.0 ≡ v = cc in
      let none = none_in_list x.0.exprs (ap (λ (w : Value ℕ). has_operand w.plain) is ∙ free) in
      subst IsUsualValue is (ap (λ (w : List Operand). length (targets s w)) none)

list_slot : (s : MeaningContext ℕ) (a : RawAttr) (base : ℕ) (o : Option ℕ) (v : Value ℕ) → list_by s a base o ≡ Ok v → has_operand v.plain ≡ false → IsUsualValue v
list_slot s a base None v e free = absurd cc
list_slot s a base (Some offset) v e free = list s a (base + offset) v e free

list_index : (s : MeaningContext ℕ) (a : RawAttr) (o : Option ℕ) (v : Value ℕ) → list_from s a o ≡ Ok v → has_operand v.plain ≡ false → IsUsualValue v
list_index s a None v e free = absurd cc
list_index s a (Some base) v e free = list_slot s a base (slot s.around.sources.lists base (offset_of a)) v e free

offset : (s : MeaningContext ℕ) (a : RawAttr) (v : Value ℕ) → as_class OfOffset s a ≡ Ok v → has_operand v.plain ≡ false → IsUsualValue v
offset s a v e free = go (names_list a.pair.name) e where
  go : (b : Bool) → (if b then list_meaning s a (offset_of a) else Ok (only (Sec (offset_of a)))) ≡ Ok v → IsUsualValue v
  go true h = list s a (offset_of a) v h free
  go false h = let is : only (Sec (offset_of a)) ≡ v = cc in subst IsUsualValue is refl

-- ---- each class

by_class : (k : Class) (s : MeaningContext ℕ) (a : RawAttr) (v : Value ℕ) → s.around.common ≡ None → has_operand v.plain ≡ false → as_class k s a ≡ Ok v → IsUsualValue v
by_class OfAddress s a v none free h = simple OfAddress s a v none refl (λ e. cc) (λ e. cc) (λ e. cc) (λ e. cc) (λ e. cc) h
by_class OfBlock s a v none free h = simple OfBlock s a v none refl (λ e. cc) (λ e. cc) (λ e. cc) (λ e. cc) (λ e. cc) h
by_class OfConstant s a v none free h = constant s a v h
by_class OfFlag s a v none free h = flag s a v none h
by_class OfText s a v none free h = simple OfText s a v none refl (λ e. cc) (λ e. cc) (λ e. cc) (λ e. cc) (λ e. cc) h
by_class OfTextInStr s a v none free h = text s a v none h
by_class OfTextInLineStr s a v none free h = simple OfTextInLineStr s a v none refl (λ e. cc) (λ e. cc) (λ e. cc) (λ e. cc) (λ e. cc) h
by_class OfTextBySlot s a v none free h = simple OfTextBySlot s a v none refl (λ e. cc) (λ e. cc) (λ e. cc) (λ e. cc) (λ e. cc) h
by_class OfUnitEntry s a v none free h = entry v (unit_names s a v h)
by_class OfInfoEntry s a v none free h = entry v (info_names s a v h)
by_class OfSignature s a v none free h = simple OfSignature s a v none refl (λ e. cc) (λ e. cc) (λ e. cc) (λ e. cc) (λ e. cc) h
by_class OfOffset s a v none free h = offset s a v h free
by_class OfExpression s a v none free h = expression s a v h free
by_class OfListIndex s a v none free h = list_index s a (loclists_base s) v h free
by_class OfIndex s a v none free h = simple OfIndex s a v none refl (λ e. cc) (λ e. cc) (λ e. cc) (λ e. cc) (λ e. cc) h
by_class OfCommonEntry s a v none free h = simple OfCommonEntry s a v none refl (λ e. cc) (λ e. cc) (λ e. cc) (λ e. cc) (λ e. cc) h
by_class OfCommonText s a v none free h = simple OfCommonText s a v none refl (λ e. cc) (λ e. cc) (λ e. cc) (λ e. cc) (λ e. cc) h
by_class Unread s a v none free h = absurd cc

pub usual_value : (s : MeaningContext ℕ) (a : RawAttr) (v : Value ℕ) → s.around.common ≡ None → meaning s a ≡ Ok v → has_operand v.plain ≡ false → IsUsualValue v
unfolding meaning
usual_value s a v none e free = by_class (class_of a.pair.form) s a v none free e

-- ---- entries

usual_attrs : (s : MeaningContext ℕ) (values : List RawAttr) (attrs : List (Attr ℕ)) → s.around.common ≡ None → attrs_meaning s values ≡ Ok attrs
    → Each (λ a. has_operand a.value.plain ≡ false) attrs → Each IsUsual attrs
unfolding attrs_meaning
usual_attrs s [] attrs none e free = let z : [] ≡ attrs = cc in subst (λ (w : List (Attr ℕ)). Each IsUsual w) z tt
usual_attrs s (a ∷ values) attrs none e free =
    let x = bind_ok (meaning s a) (λ v. attrs_meaning s values >>= with_attr a v) attrs e in
    let y = bind_ok (attrs_meaning s values) (with_attr a x.0) attrs x.2 in
    let z : attr_with a x.0 ∷ y.0 ≡ attrs = cc in
    let each = subst (λ (w : List (Attr ℕ)). Each (λ b. has_operand b.value.plain ≡ false) w) (sym z) free in
    let first = usual_value s a x.0 none x.1 each.0 in
    let rest = usual_attrs s values y.0 none y.1 each.1 in
    subst (λ (w : List (Attr ℕ)). Each IsUsual w) z (first, rest)

pub usual_rows : (s : MeaningContext ℕ) (rows : List EntryRow) (ds : List (Node ℕ)) → s.around.common ≡ None → RowsMean s rows ds → Each AreFree ds → Each AreUsual ds
usual_rows s [] [] none m free = tt
usual_rows s [] (d ∷ ds) none m free = absurd m
usual_rows s (row ∷ rows) [] none m free = absurd m
usual_rows s (row ∷ rows) (d ∷ ds) none m free =
    (usual_attrs s (without_siblings row.entry.attrs) d.attrs none (node_attrs s row.entry d m.0).0 free.0, usual_rows s rows ds none m.1 free.1)
