-- Which values are numbers, by their class.
use Rattle.std.proofs.Common.{◌≡◌, ℕ, ◌+◌, Bool, true, false, List, Option, Some, None, Result, Ok, Err, refl, sym, ap, subst, ◌∙◌}
use Rattle.std.specs.Prelude.{if◌then◌else◌}
use Rattle.dwz_label_entries.proofs.FirstLemmas.{FirstIs, first_is}
use Rattle.dwz_label_entries.proofs.ListLemmas.{list_named}
use Rattle.dwz_graph.proofs.TreeLemmas.{node_attrs}
use Rattle.dwz_def_reading.specs.Entries.{RawAttr, RawEntry}
use Rattle.dwz_def_reading.specs.Texts.{slot, text_at}
use Rattle.dwz_def_reading.proofs.PartLemmas.{bind_ok}
use Rattle.dwz_def_reading.specs.Documents.{Attr, Node, Plain, Sec, Text, Value, first_named, number_in, number_of_attr, only, ref}
use Rattle.dwz_def_reading.specs.Exprs.{expr_at}
use Rattle.dwz_def_reading.specs.Meanings.{Common}
use Rattle.dwz_def_reading.specs.Classes.{OfAddress, OfBlock, OfCommonEntry, OfCommonText, OfConstant, OfExpression, OfFlag, OfIndex, OfInfoEntry, OfListIndex, OfOffset, OfSignature}
use Rattle.dwz_def_reading.specs.Classes.{Class}
use Rattle.dwz_def_reading.specs.Meanings.{MeaningContext, bytes_of, constant_value}
use Rattle.dwz_def_reading.specs.Classes.{OfText, OfTextBySlot, OfTextInLineStr, OfTextInStr, OfUnitEntry, Unread}
use Rattle.dwz_def_reading.specs.Meant.{as_class, attr_with, common_entry, common_text}
use Rattle.dwz_def_reading.specs.Meanings.{block_begins, expr_context, expr_value, first_raw, has, loclists_base}
use Rattle.dwz_def_reading.specs.Classes.{names_file, names_list}
use Rattle.dwz_def_reading.specs.Meant.{expr_said, file_by, list_by, list_from, list_meaning, meaning}
use Rattle.dwz_def_reading.specs.Meanings.{number_of, offset_of, stmt_list, str_offsets_base}
use Rattle.dwz_def_reading.specs.Meant.{node_meaning, text_by, text_from, text_or}
use Rattle.dwz_model.specs.declared.fault.Fault.{Fault}

abbrev NoNumber : Result (Value ℕ) Fault → Type 0
NoNumber r = (v : Value ℕ) → r ≡ Ok v → number_in v.plain ≡ None

of_value : (v w : Value ℕ) → w ≡ v → number_in w.plain ≡ None → number_in v.plain ≡ None
of_value v w e n = ap (λ (x : Value ℕ). number_in x.plain) (sym e) ∙ n

of_only : (plain : Plain) → number_in plain ≡ None → NoNumber (Ok (only plain))
of_only plain n v e = of_value v (only plain) (let z : only plain ≡ v = cc in z) n

of_err : (f : Fault) → NoNumber (Err f)
of_err f v e = absurd cc

of_text : (a : RawAttr) (o : Option (List ℕ)) → NoNumber (text_or a o)
of_text a None = of_err _
of_text a (Some text) = of_only (Text text) refl

of_slot : (s : MeaningContext ℕ) (a : RawAttr) (o : Option ℕ) → NoNumber (text_by s a o)
of_slot s a None = of_err _
of_slot s a (Some offset) = of_text a (text_at s.around.sources.strs offset)

of_base : (s : MeaningContext ℕ) (a : RawAttr) (o : Option ℕ) → NoNumber (text_from s a o)
of_base s a None = of_err _
of_base s a (Some base) = of_slot s a (slot s.around.sources.offsets base (offset_of a))

of_entry : (place : ℕ → ℕ) (p : ℕ) (f : Fault) (b : Bool) → NoNumber (if b then Ok (ref (place p)) else Err f)
of_entry place p f true v e = of_value v (ref (place p)) (let z : ref (place p) ≡ v = cc in z) refl
of_entry place p f false v e = absurd cc

of_common_entry : (a : RawAttr) (o : Option (Common ℕ)) → NoNumber (common_entry a o)
of_common_entry a None = of_err _
of_common_entry a (Some c) = of_entry c.place (offset_of a) _ (has (offset_of a) c.entries)

of_common_text : (a : RawAttr) (o : Option (Common ℕ)) → NoNumber (common_text a o)
of_common_text a None = of_err _
of_common_text a (Some c) = of_text a (text_at c.strs (offset_of a))

of_list : (s : MeaningContext ℕ) (a : RawAttr) (place : ℕ) → NoNumber (list_meaning s a place)
of_list s a place v e = let l = list_named s a v place e in of_value v _ l.2 refl

of_offset : (s : MeaningContext ℕ) (a : RawAttr) (b : Bool) → NoNumber (if b then list_meaning s a (offset_of a) else Ok (only (Sec (offset_of a))))
of_offset s a true = of_list s a (offset_of a)
of_offset s a false = of_only (Sec (offset_of a)) refl

of_list_by : (s : MeaningContext ℕ) (a : RawAttr) (base : ℕ) (o : Option ℕ) → NoNumber (list_by s a base o)
of_list_by s a base None = of_err _
of_list_by s a base (Some offset) = of_list s a (base + offset)

of_list_from : (s : MeaningContext ℕ) (a : RawAttr) (o : Option ℕ) → NoNumber (list_from s a o)
of_list_from s a None = of_err _
of_list_from s a (Some base) = of_list_by s a base (slot s.around.sources.lists base (offset_of a))

of_expr : (s : MeaningContext ℕ) (a : RawAttr) → NoNumber (as_class OfExpression s a)
of_expr s a v e =
    let x = bind_ok (expr_at (expr_context s 1) (record { at = block_begins a; rest = bytes_of a.raw })) (expr_said s) v e in
    of_value v _ (let z : expr_value s x.0 ≡ v = (let y = x.2 in cc) in z) refl

pub no_number_as : (k : Class) (s : MeaningContext ℕ) (a : RawAttr) → (k ≡ OfConstant → ⊥) → NoNumber (as_class k s a)
no_number_as OfAddress s a ne = of_only _ refl
no_number_as OfBlock s a ne = of_only _ refl
no_number_as OfConstant s a ne = absurd (ne refl)
no_number_as OfFlag s a ne = of_only _ refl
no_number_as OfText s a ne = of_only _ refl
no_number_as OfTextInStr s a ne = of_text a _
no_number_as OfTextInLineStr s a ne = of_text a _
no_number_as OfTextBySlot s a ne = of_base s a (str_offsets_base s)
no_number_as OfUnitEntry s a ne = of_entry s.around.place (s.unit + offset_of a) _ (has (s.unit + offset_of a) s.own)
no_number_as OfInfoEntry s a ne = of_entry s.around.place (offset_of a) _ (has (offset_of a) s.around.all)
no_number_as OfSignature s a ne = of_only _ refl
no_number_as OfOffset s a ne = of_offset s a (names_list a.pair.name)
no_number_as OfExpression s a ne = of_expr s a
no_number_as OfListIndex s a ne = of_list_from s a (loclists_base s)
no_number_as OfIndex s a ne = of_only _ refl
no_number_as OfCommonEntry s a ne = of_common_entry a s.around.common
no_number_as OfCommonText s a ne = of_common_text a s.around.common
no_number_as Unread s a ne = of_err _

pub no_number : (k : Class) (s : MeaningContext ℕ) (a : RawAttr) (v : Value ℕ) → (k ≡ OfConstant → ⊥) → as_class k s a ≡ Ok v → number_in v.plain ≡ None
no_number k s a v ne e = no_number_as k s a ne v e

-- the number of an attribute that numbers no file
pub a_number : (s : MeaningContext ℕ) (a : RawAttr) (v : Value ℕ) → a.pair.name ≡ 0x13 → as_class OfConstant s a ≡ Ok v → number_in v.plain ≡ Some (number_of a.raw)
a_number s a v name e =
    let plain : Ok (constant_value a) ≡ Ok v = ap (λ (n : ℕ). if names_file n then file_by (stmt_list s) s a else Ok (constant_value a)) (sym name) ∙ e in
    let z : constant_value a ≡ v = cc in
    sym (ap (λ (w : Value ℕ). number_in w.plain) z)

-- of the first value the number is that of the first attribute
pub of_first : (s : MeaningContext ℕ) (a : RawAttr) (b : Attr ℕ) (v : Value ℕ) → attr_with a v ≡ b → number_of_attr (Some b) ≡ number_in v.plain
of_first s a b v e = sym (ap (λ (w : Attr ℕ). number_in w.value.plain) e)

-- ---- of the root

none_by : (s : MeaningContext ℕ) (p : Option (Attr ℕ)) → FirstIs s None p → number_of_attr p ≡ None
none_by s None h = refl
none_by s (Some b) h = absurd h

one_by : (s : MeaningContext ℕ) (a : RawAttr) (p : Option (Attr ℕ)) → FirstIs s (Some a) p → (v : Value ℕ) × (meaning s a ≡ Ok v) × (number_of_attr p ≡ number_in v.plain)
one_by s a None h = absurd h
one_by s a (Some b) h = (h.0, h.1, of_first s a b h.0 h.2)

root_first : (s : MeaningContext ℕ) (e : RawEntry) (d : Node ℕ) → node_meaning s e ≡ Ok d → FirstIs s (first_raw 0x13 e.attrs) (first_named 0x13 d.attrs)
root_first s e d means = first_is s 0x13 (λ same. cc) e.attrs d.attrs (node_attrs s e d means).0

pub no_language : (s : MeaningContext ℕ) (e : RawEntry) (d : Node ℕ) → node_meaning s e ≡ Ok d → None ≡ first_raw 0x13 e.attrs → None ≡ number_of_attr (first_named 0x13 d.attrs)
no_language s e d means none = sym (none_by s (first_named 0x13 d.attrs) (subst (λ (w : Option RawAttr). FirstIs s w (first_named 0x13 d.attrs)) (sym none) (root_first s e d means)))

pub a_language : (s : MeaningContext ℕ) (e : RawEntry) (d : Node ℕ) (a : RawAttr) → node_meaning s e ≡ Ok d → Some a ≡ first_raw 0x13 e.attrs
    → (v : Value ℕ) × (meaning s a ≡ Ok v) × (number_of_attr (first_named 0x13 d.attrs) ≡ number_in v.plain)
a_language s e d a means some = one_by s a (first_named 0x13 d.attrs) (subst (λ (w : Option RawAttr). FirstIs s w (first_named 0x13 d.attrs)) (sym some) (root_first s e d means))
