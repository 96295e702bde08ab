-- The operands of the list that a value names.
use Rattle.std.proofs.Common.{◌≡◌, ◌∙◌, ℕ, ◌+◌, Bool, true, false, if◌then◌else◌, List, [], ◌∷◌, map, Option, Some, None, Result, Ok, ◌⊎◌, inl, inr, refl, ap}
use Rattle.std.proofs.lemmas.List.{append-nil}
use Rattle.dwz_model.specs.declared.fault.Fault.{Fault}
use Rattle.dwz_def_reading.specs.declared.exprs.Operand.{Operand}
use Rattle.dwz_def_reading.specs.Classes.{Class, OfListIndex, OfOffset, class_of, names_list}
use Rattle.dwz_def_reading.specs.Documents.{Value}
use Rattle.dwz_def_reading.specs.Entries.{RawAttr}
use Rattle.dwz_def_reading.specs.LocLists.{LocList}
use Rattle.dwz_def_reading.specs.Meanings.{MeaningContext, loclists_base, offset_of}
use Rattle.dwz_def_reading.specs.Meant.{list_read}
use Rattle.dwz_def_reading.specs.NamedLists.{by_base, by_offset, list_of_attr, lists_as, named_at, named_by}
use Rattle.dwz_def_reading.specs.Shared.{ListOperand, NamedList, of_unit, operands_in_lists, operands_of}
use Rattle.dwz_def_reading.specs.Texts.{slot, slot_place}
use Rattle.dwz_expand_passes.proofs.NamedLemmas.{ListBySlot}
use Rattle.dwz_expand.specs.Gathered.{list_operands}

named_list : (s : MeaningContext ℕ) (slot : Option ℕ) (place : ℕ) (l : LocList) → list_read s place ≡ Ok l → named_at s slot place ≡ record { unit = s.unit; from = place; slot = slot; list = l } ∷ []
named_list s slot place l e = ap (λ (r : Result LocList Fault). named_by s slot place r) e

all_same : (unit : ℕ) (os : List Operand) → map (λ (o : ListOperand). o.operand) (map (of_unit unit) os) ≡ os
all_same unit [] = refl
all_same unit (o ∷ os) = ap (λ (w : List Operand). o ∷ w) (all_same unit os)

one_list : (l : NamedList) → map (λ (o : ListOperand). o.operand) (operands_in_lists (l ∷ [])) ≡ operands_of l.list.exprs
unfolding operands_in_lists
one_list l = ap (λ (w : List ListOperand). map (λ (o : ListOperand). o.operand) w) (append-nil (map (of_unit l.unit) (operands_of l.list.exprs))) ∙ all_same l.unit (operands_of l.list.exprs)

none_listed : map (λ (o : ListOperand). o.operand) (operands_in_lists []) ≡ []
unfolding operands_in_lists
none_listed = refl

module _ (s : MeaningContext ℕ) (a : RawAttr) where
  at_place : (slot : Option ℕ) (place : ℕ) (l : LocList) → list_read s place ≡ Ok l → map (λ (o : ListOperand). o.operand) (operands_in_lists (named_at s slot place)) ≡ operands_of l.exprs
  at_place slot place l read =
      ap (λ (ls : List NamedList). map (λ (o : ListOperand). o.operand) (operands_in_lists ls)) (named_list s slot place l read)
      ∙ one_list (record { unit = s.unit; from = place; slot = slot; list = l })

  abbrev as_named : Class → List Operand
  as_named c = map (λ (o : ListOperand). o.operand) (operands_in_lists (lists_as c s a))

  pub by_class : (c : Class) → class_of a.pair.form ≡ c → list_operands s a ≡ as_named c
  unfolding list_of_attr
  by_class c e = ap (λ (d : Class). as_named d) e

  pub offset_operands : class_of a.pair.form ≡ OfOffset → names_list a.pair.name ≡ true → (l : LocList) → list_read s (offset_of a) ≡ Ok l → list_operands s a ≡ operands_of l.exprs
  offset_operands e name l read =
      by_class OfOffset e ∙ ap (λ (b : Bool). map (λ (o : ListOperand). o.operand) (operands_in_lists (if b then named_at s None (offset_of a) else []))) name ∙ at_place None (offset_of a) l read

  pub no_list : class_of a.pair.form ≡ OfOffset → names_list a.pair.name ≡ false → list_operands s a ≡ []
  no_list e name = by_class OfOffset e ∙ ap (λ (b : Bool). map (λ (o : ListOperand). o.operand) (operands_in_lists (if b then named_at s None (offset_of a) else []))) name ∙ none_listed

  pub slot_operands : class_of a.pair.form ≡ OfListIndex → (v : Value ℕ) (h : ListBySlot s a v (loclists_base s)) (l : LocList) → list_read s (h.at + h.offset) ≡ Ok l
      → list_operands s a ≡ operands_of l.exprs
  slot_operands e v h l read =
      by_class OfListIndex e
      ∙ ap (λ (o : Option ℕ). map (λ (r : ListOperand). r.operand) (operands_in_lists (by_base s (offset_of a) o))) h.base_is
      ∙ ap (λ (o : Option ℕ). map (λ (r : ListOperand). r.operand) (operands_in_lists (by_offset s h.at (offset_of a) o))) h.slot_is
      ∙ at_place (Some (slot_place h.at (offset_of a))) (h.at + h.offset) l read

  pub other_none : (c : Class) → class_of a.pair.form ≡ c → (c ≡ OfOffset → ⊥) → (c ≡ OfListIndex → ⊥) → list_operands s a ≡ []
  other_none c e offset index = by_class c e ∙ by c offset index where
    by : (d : Class) → (d ≡ OfOffset → ⊥) → (d ≡ OfListIndex → ⊥) → as_named d ≡ []
    by OfOffset offset index = absurd (offset refl)
    by OfListIndex offset index = absurd (index refl)
    by _ offset index = none_listed

pub class_cases : (c : Class) → (c ≡ OfOffset) ⊎ ((c ≡ OfListIndex) ⊎ ((c ≡ OfOffset → ⊥) × (c ≡ OfListIndex → ⊥)))
class_cases OfOffset = inl refl
class_cases OfListIndex = inr (inl refl)
class_cases _ = inr (inr ((λ e. absurd (let z = e in cc)), (λ e. absurd (let z = e in cc))))
