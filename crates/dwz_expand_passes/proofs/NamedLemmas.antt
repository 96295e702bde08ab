-- What values of the classes that name entries mean, and where these are named.
use Rattle.std.proofs.Common.{◌≡◌, ℕ, ◌+◌, Bool, true, List, [], ◌∷◌, length, map, Option, Some, None, Result, Ok, refl, sym, ap, ◌∙◌}
use Rattle.std.specs.Prelude.{if◌then◌else◌}
use Rattle.dwz_model.specs.declared.fault.Fault.{Fault}
use Rattle.dwz_def_reading.specs.Classes.{Class, class_of, names_list}
use Rattle.dwz_def_reading.specs.Classes.{OfCommonEntry, OfExpression, OfInfoEntry, OfListIndex, OfOffset, OfUnitEntry}
use Rattle.dwz_def_reading.specs.Documents.{Expr, Loc, Ref, Value}
use Rattle.dwz_def_reading.specs.declared.exprs.Operand.{Operand}
use Rattle.dwz_def_reading.specs.Entries.{RawAttr}
use Rattle.dwz_def_reading.specs.Exprs.{expr_at, parts_from, parts_of}
use Rattle.dwz_def_reading.specs.Input.{Input}
use Rattle.dwz_def_reading.specs.LocLists.{LocList}
use Rattle.dwz_def_reading.specs.Meanings.{MeaningContext, block_begins, bytes_of, expr_context, expr_value, loc_value, loclists_base, offset_of, targets}
use Rattle.dwz_def_reading.specs.Meant.{as_class, expr_said, list_by, list_from, list_meaning, list_read}
use Rattle.dwz_def_reading.specs.NamedLists.{by_base, by_offset, list_of_attr, lists_as, named_at, named_by}
use Rattle.dwz_def_reading.specs.Shared.{NamedList, operands_of}
use Rattle.dwz_def_reading.specs.Texts.{slot, slot_place}
use Rattle.dwz_def_reading.proofs.PartLemmas.{bind_ok}
use Rattle.dwz_def_output.specs.Refusals.{operands_as, operands_of_attr, operands_read}
use Rattle.dwz_def_expand.specs.OneFile.{named_in_attr, nth_at}
use Rattle.dwz_expr.specs.FirstFault.{ReadsInto}
use Rattle.dwz_label_entries.proofs.ExprLemmas.{read_is}
use Rattle.dwz_label_entries.proofs.ListLemmas.{list_named}
use Rattle.dwz_label_entries.proofs.PlainLemmas.{info_names, unit_names}
use Rattle.dwz_check_labels.proofs.AloneLemmas.{common_names}
use Rattle.dwz_expand_passes.specs.Copied.{is_entry}

-- ---- entries

pub record IsOne (v : Value ℕ) : Type 0 where
  pub plain : v.plain ≡ Ref
  pub p : ℕ
  pub refs : v.refs ≡ p ∷ []

single : (xs : List ℕ) → length xs ≡ 1 → (p : ℕ) × (xs ≡ p ∷ [])
single [] e = absurd cc
single (p ∷ []) e = (p, refl)
single (p ∷ r ∷ xs) e = absurd cc

one : (v : Value ℕ) → v.plain ≡ Ref → length v.refs ≡ 1 → IsOne v
one v plain many = (let s = single v.refs many in record { plain = plain; p = s.0; refs = s.1 })

pub entry_named : (c : Class) (s : MeaningContext ℕ) (a : RawAttr) (v : Value ℕ) → is_entry c ≡ true → as_class c s a ≡ Ok v → IsOne v
entry_named OfUnitEntry s a v is e = (let n = unit_names s a v e in one v n.0 n.2)
entry_named OfInfoEntry s a v is e = (let n = info_names s a v e in one v n.0 n.2)
entry_named OfCommonEntry s a v is e = (let n = common_names s a v e in one v n.0 n.2)
entry_named _ s a v is e = absurd cc

-- ---- where

pub at_value : (s : MeaningContext ℕ) (a : RawAttr) (c : Class) → class_of a.pair.form ≡ c → is_entry c ≡ true → named_in_attr (list_of_attr s a) (operands_of_attr s a) 0 a.at ≡ (1, a.at)
unfolding list_of_attr operands_of_attr
at_value s a c e is = by c is (λ i. named_in_attr (lists_as (e i) s a) (operands_as (e i) s a) 0 a.at) where
  by : (d : Class) → is_entry d ≡ true → named_in_attr (list_of_attr s a) (operands_of_attr s a) 0 a.at ≡ named_in_attr (lists_as d s a) (operands_as d s a) 0 a.at
      → named_in_attr (list_of_attr s a) (operands_of_attr s a) 0 a.at ≡ (1, a.at)
  by OfUnitEntry is same = same
  by OfInfoEntry is same = same
  by OfCommonEntry is same = same
  by _ is same = absurd cc

-- ---- expressions

pub record IsRead (s : MeaningContext ℕ) (a : RawAttr) (v : Value ℕ) (read : List Operand) : Type 0 where
  pub plain : v.plain ≡ Expr (parts_from (block_begins a) (bytes_of a.raw) read)
  pub refs : v.refs ≡ targets s read
  pub operands : operands_as OfExpression s a ≡ read

pub expr_read : (s : MeaningContext ℕ) (a : RawAttr) (v : Value ℕ) (read : List Operand) (address : Bool) → as_class OfExpression s a ≡ Ok v
    → ReadsInto 1 (record { at = block_begins a; rest = bytes_of a.raw }) read (Ok address) → IsRead s a v read
expr_read s a v read address means reads =
    let i : Input = record { at = block_begins a; rest = bytes_of a.raw } in
    let x = bind_ok (expr_at (expr_context s 1) i) (expr_said s) v means in
    let is = read_is (expr_context s 1) i 1 read address x.0 refl reads x.1 in
    let value : expr_value s x.0 ≡ v = (let z = x.2 in cc) in
    record {
      plain = sym (ap (λ (w : Value ℕ). w.plain) value) ∙ (λ j. Expr (parts_from (is.0 j) (is.1 j) (is.2 j)));
      refs = sym (ap (λ (w : Value ℕ). w.refs) value) ∙ ap (λ (os : List Operand). targets s os) is.2;
      operands = ap operands_read x.1 ∙ is.2;
    }

pub at_operands : (s : MeaningContext ℕ) (a : RawAttr) (read : List Operand) → class_of a.pair.form ≡ OfExpression → operands_as OfExpression s a ≡ read
    → (k : ℕ) → named_in_attr (list_of_attr s a) (operands_of_attr s a) k a.at ≡ (1, nth_at read k a.at)
unfolding list_of_attr operands_of_attr
at_operands s a read e is k =
    (λ i. named_in_attr (lists_as (e i) s a) (operands_as (e i) s a) k a.at) ∙ ap (λ (os : List Operand). (1, nth_at os k a.at)) is

-- ---- location lists

-- the value is a list
pub record IsList (s : MeaningContext ℕ) (v : Value ℕ) (l : LocList) : Type 0 where
  pub plain : v.plain ≡ Loc (map parts_of l.exprs)
  pub refs : v.refs ≡ targets s (operands_of l.exprs)

list_value : (s : MeaningContext ℕ) (v : Value ℕ) (l : LocList) → loc_value s l ≡ v → IsList s v l
list_value s v l e = record { plain = sym (ap (λ (w : Value ℕ). w.plain) e); refs = sym (ap (λ (w : Value ℕ). w.refs) e) }

-- the list at a place that a value names
pub record ListAt (s : MeaningContext ℕ) (a : RawAttr) (v : Value ℕ) (place : ℕ) : Type 0 where
  pub list : LocList
  pub read : list_read s place ≡ Ok list
  pub is : IsList s v list

pub list_at_place : (s : MeaningContext ℕ) (a : RawAttr) (v : Value ℕ) (place : ℕ) → list_meaning s a place ≡ Ok v → ListAt s a v place
list_at_place s a v place means = (let n = list_named s a v place means in record { list = n.0; read = n.1; is = list_value s v n.0 n.2 })

named_list : (s : MeaningContext ℕ) (slot : Option ℕ) (place : ℕ) (l : LocList) → list_read s place ≡ Ok l → named_at s slot place ≡ record { unit = s.unit; from = place; slot = slot; list = l } ∷ []
named_list s slot place l e = ap (λ (r : Result LocList Fault). named_by s slot place r) e

pub at_list : (s : MeaningContext ℕ) (a : RawAttr) (l : LocList) → class_of a.pair.form ≡ OfOffset → names_list a.pair.name ≡ true → list_read s (offset_of a) ≡ Ok l
    → (k : ℕ) → named_in_attr (list_of_attr s a) (operands_of_attr s a) k a.at ≡ (7, nth_at (operands_of l.exprs) k a.at)
unfolding list_of_attr operands_of_attr
at_list s a l e name read k =
    (λ i. named_in_attr (lists_as (e i) s a) (operands_as (e i) s a) k a.at)
    ∙ ap (λ (b : Bool). named_in_attr (if b then named_at s None (offset_of a) else []) [] k a.at) name
    ∙ ap (λ (ls : List NamedList). named_in_attr ls [] k a.at) (named_list s None (offset_of a) l read)

-- ---- by the index of a slot

pub record ListBySlot (s : MeaningContext ℕ) (a : RawAttr) (v : Value ℕ) (base : Option ℕ) : Type 0 where
  pub at : ℕ
  pub offset : ℕ
  pub base_is : base ≡ Some at
  pub slot_is : slot s.around.sources.lists at (offset_of a) ≡ Some offset
  pub means : list_meaning s a (at + offset) ≡ Ok v

by_slot : (s : MeaningContext ℕ) (a : RawAttr) (v : Value ℕ) (at : ℕ) (o : Option ℕ) → slot s.around.sources.lists at (offset_of a) ≡ o → list_by s a at o ≡ Ok v → ListBySlot s a v (Some at)
by_slot s a v at None is e = absurd cc
by_slot s a v at (Some offset) is e = record { at = at; offset = offset; base_is = refl; slot_is = is; means = e }

pub list_by_slot : (s : MeaningContext ℕ) (a : RawAttr) (v : Value ℕ) (base : Option ℕ) → list_from s a base ≡ Ok v → ListBySlot s a v base
list_by_slot s a v None e = absurd cc
list_by_slot s a v (Some at) e = by_slot s a v at (slot s.around.sources.lists at (offset_of a)) refl e

pub at_slot_list : (s : MeaningContext ℕ) (a : RawAttr) (v : Value ℕ) (l : LocList) (h : ListBySlot s a v (loclists_base s)) → class_of a.pair.form ≡ OfListIndex → list_read s (h.at + h.offset) ≡ Ok l
    → (k : ℕ) → named_in_attr (list_of_attr s a) (operands_of_attr s a) k a.at ≡ (7, nth_at (operands_of l.exprs) k a.at)
unfolding list_of_attr operands_of_attr
at_slot_list s a v l h e read k =
    (λ i. named_in_attr (lists_as (e i) s a) (operands_as (e i) s a) k a.at)
    ∙ ap (λ (o : Option ℕ). named_in_attr (by_base s (offset_of a) o) [] k a.at) h.base_is
    ∙ ap (λ (o : Option ℕ). named_in_attr (by_offset s h.at (offset_of a) o) [] k a.at) h.slot_is
    ∙ ap (λ (ls : List NamedList). named_in_attr ls [] k a.at) (named_list s (Some (slot_place h.at (offset_of a))) (h.at + h.offset) l read)
