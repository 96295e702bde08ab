-- The location lists that units name are the same with other places.
use Rattle.std.proofs.Common.{◌≡◌, ℕ, ◌+◌, cond, List, [], ◌∷◌, ◌++◌, Option, Some, None, refl, ap, ◌∙◌}
use Rattle.dwz_def_reading.specs.Classes.{Class, class_of, names_list}
use Rattle.dwz_def_reading.specs.Classes.{OfAddress, OfBlock, OfCommonEntry, OfCommonText, OfConstant, OfExpression, OfFlag, OfIndex, OfInfoEntry, OfListIndex, OfOffset, OfSignature, OfText, OfTextBySlot}
use Rattle.dwz_def_reading.specs.Classes.{OfTextInLineStr, OfTextInStr, OfUnitEntry, Unread}
use Rattle.dwz_def_reading.specs.Entries.{RawAttr, RawEntry}
use Rattle.dwz_def_reading.specs.Meanings.{Around, Common, MeaningContext, loclists_base, offset_of, scope_of, without_siblings}
use Rattle.dwz_def_reading.specs.NamedLists.{by_base, by_offset, list_of_attr, lists_as, lists_of_attrs, lists_of_entries, lists_of_units, named_at, named_by}
use Rattle.dwz_def_reading.specs.Shared.{NamedList}
use Rattle.dwz_def_reading.specs.Texts.{slot, slot_place}
use Rattle.dwz_def_reading.specs.Trees.{End, Entry, Forest}
use Rattle.dwz_def_reading.specs.Units.{RawUnit}
use Rattle.dwz_def_reading.proofs.PlacesMapped.{same_list, there}

module _ {P Q : Type 0} (place : ℕ → Q) (common : Option (Common Q)) (s : MeaningContext P) where
  abbrev other : MeaningContext Q
  other = there place common s

  same_at : (slot : Option ℕ) (at : ℕ) → named_at other slot at ≡ named_at s slot at
  same_at slot at = ap (λ r. named_by s slot at r) (same_list place common s at)

  same_offset : (base index : ℕ) (o : Option ℕ) → by_offset other base index o ≡ by_offset s base index o
  same_offset base index None = refl
  same_offset base index (Some offset) = same_at (Some (slot_place base index)) (base + offset)

  same_base : (index : ℕ) (o : Option ℕ) → by_base other index o ≡ by_base s index o
  same_base index None = refl
  same_base index (Some base) = same_offset base index (slot s.around.sources.lists base index)

  same_class : (c : Class) (a : RawAttr) → lists_as c other a ≡ lists_as c s a
  same_class OfOffset a = ap (λ (ls : List NamedList). cond (names_list a.pair.name) ls []) (same_at None (offset_of a))
  same_class OfListIndex a = same_base (offset_of a) (loclists_base s)
  same_class OfAddress a = refl
  same_class OfBlock a = refl
  same_class OfConstant a = refl
  same_class OfFlag a = refl
  same_class OfText a = refl
  same_class OfTextInStr a = refl
  same_class OfTextInLineStr a = refl
  same_class OfTextBySlot a = refl
  same_class OfUnitEntry a = refl
  same_class OfInfoEntry a = refl
  same_class OfSignature a = refl
  same_class OfExpression a = refl
  same_class OfIndex a = refl
  same_class OfCommonEntry a = refl
  same_class OfCommonText a = refl
  same_class Unread a = refl

  same_attrs : (attrs : List RawAttr) → lists_of_attrs other attrs ≡ lists_of_attrs s attrs
  unfolding lists_of_attrs list_of_attr
  same_attrs [] = refl
  same_attrs (a ∷ attrs) = λ i. same_class (class_of a.pair.form) a i ++ same_attrs attrs i

  same_entries : (g : Forest RawEntry) → lists_of_entries other g ≡ lists_of_entries s g
  unfolding lists_of_entries
  same_entries End = refl
  same_entries (Entry e children next) = λ i. same_attrs (without_siblings e.attrs) i ++ (same_entries children i ++ same_entries next i)

same_units : {P Q : Type 0} (place : ℕ → Q) (common : Option (Common Q)) (a : Around P) (units : List RawUnit)
    → lists_of_units (record { sources = a.sources; all = a.all; place = place; common = common }) units ≡ lists_of_units a units
unfolding lists_of_units
same_units place common a [] = refl
same_units place common a (u ∷ units) = λ i. (same_attrs place common (scope_of a u) (without_siblings u.root.attrs) i ++ same_entries place common (scope_of a u) u.below i) ++ same_units place common a units i

-- units with the same sections and entries name the same lists
pub lists_mapped : {P Q : Type 0} (a : Around P) (b : Around Q) → b.sources ≡ a.sources → b.all ≡ a.all → (units : List RawUnit) → lists_of_units b units ≡ lists_of_units a units
lists_mapped {P} {Q} a b sources all units =
    let same : b ≡ record { sources = a.sources; all = a.all; place = b.place; common = b.common } = λ i. record { sources = sources i; all = all i; place = b.place; common = b.common } in
    ap (λ (c : Around Q). lists_of_units c units) same ∙ same_units b.place b.common a units
