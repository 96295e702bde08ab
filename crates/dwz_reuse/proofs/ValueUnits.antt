-- Which units a value refers into, by the units of the entries that it names.
use Rattle.std.proofs.Common.{◌≡◌, ◌↔◌, ◌⊎◌, ℕ, Bool, true, false, List, [], ◌∷◌, ◌++◌, map, Option, None, Some, Ok, get_or, refl, sym, ap, subst, ◌∙◌, inl, inr, ⊎_elim}
use Rattle.std.specs.Prelude.{◌||◌, ◌&&◌, not}
use Rattle.std.specs.List.{list_any}
use Rattle.std.proofs.lemmas.Bool.{false≢true}
use Rattle.dwz_model.proofs.ListFacts.{in_cases, in_left, in_right}
use Rattle.dwz_def_reading.proofs.MeaningLemmas.{value_agrees}
use Rattle.dwz_def_reading.specs.Classes.{Class, class_of, names_file, names_list}
use Rattle.dwz_def_reading.specs.Classes.{OfAddress, OfBlock, OfCommonEntry, OfCommonText, OfConstant, OfExpression, OfFlag, OfIndex}
use Rattle.dwz_def_reading.specs.Classes.{OfInfoEntry, OfListIndex, OfOffset, OfSignature, OfText, OfTextBySlot, OfTextInLineStr, OfTextInStr, OfUnitEntry, Unread}
use Rattle.dwz_def_reading.specs.Documents.{Expr, Loc, Plain, Sec, Value, attr_map, only, ref}
use Rattle.dwz_def_reading.specs.Entries.{RawAttr}
use Rattle.dwz_def_reading.specs.Exprs.{Expression, parts_from, parts_of}
use Rattle.dwz_def_reading.specs.Lists.{In}
use Rattle.dwz_def_reading.specs.Meanings.{IfSo, IsFileBy, IsLocList, MeaningContext, MeansAs, constant_value, number_of, offset_of, stmt_list, targets}
use Rattle.dwz_def_reading.specs.Meant.{attr_with, meaning}
use Rattle.dwz_def_reading.specs.Shared.{operands_of}
use Rattle.dwz_def_reading.specs.declared.exprs.Operand.{Operand}
use Rattle.dwz_def_tops.proofs.Targets.{or_first, or_second}
use Rattle.dwz_def_tops.specs.Alike.{has_operand, is_in, is_operand}
use Rattle.dwz_def_tops.specs.Spots.{EntryName}
use Rattle.dwz_graph.specs.Named.{value_refs}
use Rattle.dwz_graph.specs.Names.{top_in}
use Rattle.dwz_groups.specs.declared.groups.Edge.{Edge}
use Rattle.dwz_move.proofs.NameMarks.{is_top}
use Rattle.dwz_move.specs.Bound.{AreInto}
use Rattle.dwz_move.specs.Values.{is_entry}
use Rattle.dwz_reuse.specs.Puts.{PutsIf, goes_into}

-- ---- one edge

one_edge : (unit x : ℕ) (e : Edge) → (e.key ≡ unit) → (x ≡ e.value) → record { key = unit; value = x } ≡ e
one_edge unit x e k v = λ i. record { key = sym k i; value = v i }

some_same : (x n : ℕ) → Some x ≡ Some n → x ≡ n
some_same x n e = cc

pub put_one : (unit x : ℕ) (old new : List Edge) → new ≡ old ++ record { key = unit; value = x } ∷ [] → PutsIf unit (λ n. Some x ≡ Some n) old new
put_one unit x old new is e = (
  λ i. ⊎_elim (λ (a : In e old). inl a)
      (λ (b : In e (record { key = unit; value = x } ∷ [])). ⊎_elim
      (λ (same : record { key = unit; value = x } ≡ e). inr (sym (ap (λ (w : Edge). w.key) same), ap (λ (w : Edge). Some w.value) same)) (λ no. absurd no) b)
      (in_cases e old (record { key = unit; value = x } ∷ []) (subst (λ (w : List Edge). In e w) is i)),
  λ h. subst (λ (w : List Edge). In e w) (sym is) (⊎_elim (λ (a : In e old). in_left e old (record { key = unit; value = x } ∷ []) a)
      (λ (p : (e.key ≡ unit) × (Some x ≡ Some e.value)). in_right e old (record { key = unit; value = x } ∷ []) (inl (one_edge unit x e p.0 (some_same x e.value p.1)))) h),
)

pub put_no : (unit : ℕ) (old : List Edge) (Is : ℕ → Type 0) → ((n : ℕ) → Is n → ⊥) → PutsIf unit Is old old
put_no unit old Is none e = (λ i. inl i, λ h. ⊎_elim (λ a. a) (λ (p : (e.key ≡ unit) × Is e.value). absurd (none e.value p.1)) h)

pub put_same : (unit : ℕ) (Is All : ℕ → Type 0) (old new : List Edge) → ((n : ℕ) → All n ↔ Is n) → PutsIf unit Is old new → PutsIf unit All old new
put_same unit Is All old new all h e = (
  λ i. ⊎_elim (λ a. inl a) (λ (p : (e.key ≡ unit) × Is e.value). inr (p.0, (all e.value).1 p.1)) ((h e).0 i),
  λ x. (h e).1 (⊎_elim (λ a. inl a) (λ (p : (e.key ≡ unit) × All e.value). inr (p.0, (all e.value).0 p.1)) x),
)

-- ---- operands are no references

-- it has operands, or names nothing
abbrev NoRefs : Value ℕ → Type 0
NoRefs v = (has_operand v.plain ≡ true) ⊎ (v.refs ≡ [])

abbrev FromOperands : MeaningContext ℕ → Plain → List Operand → Type 0
FromOperands s plain os = (has_operand plain ≡ true) ⊎ (targets s os ≡ [])

from_expression : (s : MeaningContext ℕ) (at : ℕ) (bytes : List ℕ) (os : List Operand) → FromOperands s (Expr (parts_from at bytes os)) os
unfolding parts_from
from_expression s at bytes [] = inr refl
from_expression s at bytes (o ∷ os) = inl refl

from_list : (s : MeaningContext ℕ) (exprs : List Expression) → FromOperands s (Loc (map parts_of exprs)) (operands_of exprs)
unfolding operands_of parts_from
from_list s [] = inr refl
from_list s (e ∷ exprs) = by e.operands refl (from_list s exprs) where
  by : (os : List Operand) → e.operands ≡ os → FromOperands s (Loc (map parts_of exprs)) (operands_of exprs) → FromOperands s (Loc (parts_of e ∷ map parts_of exprs)) (e.operands ++ operands_of exprs)
  by [] none (inl more) = inl (or_second (list_any is_operand (parts_of e)) (list_any (list_any is_operand) (map parts_of exprs)) more)
  by [] none (inr rest) = inr (ap (λ (w : List Operand). targets s (w ++ operands_of exprs)) none ∙ rest)
  by (o ∷ os) some rest = inl (or_first (list_any is_operand (parts_of e)) (list_any (list_any is_operand) (map parts_of exprs))
      (ap (λ (w : List Operand). list_any is_operand (parts_from e.at e.bytes w)) some))

module _ (s : MeaningContext ℕ) (a : RawAttr) (v : Value ℕ) where
  nothing : (plain : Plain) → v ≡ only plain → NoRefs v
  nothing plain is = inr (ap (λ (w : Value ℕ). w.refs) is)

  of_file : (o : Option ℕ) → IsFileBy o s (number_of a.raw) v → NoRefs v
  of_file None m = nothing _ m.1
  of_file (Some place) m = nothing _ m.value

  constant : (file : Bool) → IfSo file (IsFileBy (stmt_list s) s (number_of a.raw) v) (v ≡ constant_value a) → NoRefs v
  constant true m = of_file (stmt_list s) m
  constant false m = nothing _ m

  moved : (plain : Plain) (os : List Operand) → v.plain ≡ plain → v.refs ≡ targets s os → FromOperands s plain os → NoRefs v
  moved plain os p r h = ⊎_elim (λ x. inl (ap has_operand p ∙ x)) (λ y. inr (r ∙ y)) h

  list : (place : ℕ) → IsLocList s place v → NoRefs v
  list place m = moved _ _ (ap (λ (w : Value ℕ). w.plain) m.value) (ap (λ (w : Value ℕ). w.refs) m.value) (from_list s m.list.exprs)

  offset : (named : Bool) → IfSo named (IsLocList s (offset_of a) v) (v ≡ only (Sec (offset_of a))) → NoRefs v
  offset true m = list (offset_of a) m
  offset false m = nothing _ m

  wrong : true ≡ false → NoRefs v
  wrong e = absurd (false≢true (sym e))

  by_class : (c : Class) → is_entry c ≡ false → MeansAs c s a v → NoRefs v
  by_class OfAddress e m = nothing _ m
  by_class OfBlock e m = nothing _ m
  by_class OfConstant e m = constant (names_file a.pair.name) m
  by_class OfFlag e m = nothing _ m
  by_class OfText e m = nothing _ m
  by_class OfTextInStr e m = nothing _ m.value
  by_class OfTextInLineStr e m = nothing _ m.value
  by_class OfTextBySlot e m = nothing _ m.text.value
  by_class OfUnitEntry e m = wrong e
  by_class OfInfoEntry e m = wrong e
  by_class OfSignature e m = nothing _ m
  by_class OfOffset e m = offset (names_list a.pair.name) m
  by_class OfExpression e m = moved _ _ (ap (λ (w : Value ℕ). w.plain) m.value) (ap (λ (w : Value ℕ). w.refs) m.value) (from_expression s m.expression.at m.expression.bytes m.expression.operands)
  by_class OfListIndex e m = list _ m.list
  by_class OfIndex e m = nothing _ m
  by_class OfCommonEntry e m = wrong e
  by_class OfCommonText e m = nothing _ m.2.value
  by_class Unread e m = absurd m

  abbrev Is : (ℕ → EntryName) → ℕ → Type 0
  Is name n = goes_into n (attr_map name (attr_with a v)) ≡ true

  and_right : (b c : Bool) → (b && c) ≡ true → c ≡ true
  and_right true c e = e
  and_right false c e = absurd (false≢true e)

  no_more : (name : ℕ → EntryName) (n : ℕ) → NoRefs v → Is name n → ⊥
  no_more name n (inl some) h = false≢true (sym (ap (λ (b : Bool). not b && list_any (is_in n) (map name v.refs)) some) ∙ h)
  no_more name n (inr none) h = false≢true (sym (ap (λ (w : List ℕ). list_any (is_in n) (map name w)) none) ∙ and_right (not (has_operand v.plain)) _ h)

  -- what is no entry refers into no unit
  pub no_reference : is_entry (class_of a.pair.form) ≡ false → meaning s a ≡ Ok v → (name : ℕ → EntryName) (n : ℕ) → Is name n → ⊥
  no_reference e means name n h = no_more name n (by_class (class_of a.pair.form) e (((value_agrees s a).ok v).0 means)) h

  -- ---- an entry

  entry_by : (c : Class) → is_entry c ≡ true → MeansAs c s a v → (p : ℕ) × (v ≡ ref p)
  entry_by OfUnitEntry e m = (_, m.1)
  entry_by OfInfoEntry e m = (_, m.1)
  entry_by OfCommonEntry e m = (_, m.2.1)
  entry_by OfAddress e m = absurd (false≢true e)
  entry_by OfBlock e m = absurd (false≢true e)
  entry_by OfConstant e m = absurd (false≢true e)
  entry_by OfFlag e m = absurd (false≢true e)
  entry_by OfText e m = absurd (false≢true e)
  entry_by OfTextInStr e m = absurd (false≢true e)
  entry_by OfTextInLineStr e m = absurd (false≢true e)
  entry_by OfTextBySlot e m = absurd (false≢true e)
  entry_by OfSignature e m = absurd (false≢true e)
  entry_by OfOffset e m = absurd (false≢true e)
  entry_by OfExpression e m = absurd (false≢true e)
  entry_by OfListIndex e m = absurd (false≢true e)
  entry_by OfIndex e m = absurd (false≢true e)
  entry_by OfCommonText e m = absurd (false≢true e)
  entry_by Unread e m = absurd m

  or_none : (b : Bool) → ((b || false) ≡ true) ↔ (b ≡ true)
  or_none true = (λ h. h, λ h. h)
  or_none false = (λ h. h, λ h. h)

  first_is : (name : ℕ → EntryName) (into : List (Option ℕ)) (p : ℕ) → AreInto name into (p ∷ []) → get_or into 0 None ≡ top_in (name p)
  first_is name [] p h = absurd h
  first_is name (t ∷ into) p h = h.0

  -- an entry is in the unit that comes first
  pub one_reference : is_entry (class_of a.pair.form) ≡ true → meaning s a ≡ Ok v → (name : ℕ → EntryName) (into : List (Option ℕ)) → AreInto name into (value_refs v)
      → (n : ℕ) → Is name n ↔ (get_or into 0 None ≡ Some n)
  one_reference e means name into h n =
      let o = entry_by (class_of a.pair.form) e (((value_agrees s a).ok v).0 means) in
      let p = o.0 in
      let here : AreInto name into (p ∷ []) = subst (λ (w : Value ℕ). AreInto name into (value_refs w)) o.1 h in
      let first = first_is name into p here in
      let same : goes_into n (attr_map name (attr_with a v)) ≡ (is_in n (name p) || false) = ap (λ (w : Value ℕ). goes_into n (attr_map name (attr_with a w))) o.1 in
      let top = is_top n (name p) in (
        λ x. first ∙ top.0 ((or_none (is_in n (name p))).0 (sym same ∙ x)),
        λ y. same ∙ (or_none (is_in n (name p))).1 (top.1 (sym first ∙ y)),
      )
