-- The references of a file without partial units have forms of one length each.
use Rattle.std.proofs.Common.{◌≡◌, ◌==◌, ℕ, Bool, true, false, List, [], ◌∷◌, map, pos, refl, sym, subst}
use Rattle.std.specs.Prelude.{if◌then◌else◌}
use Rattle.dwz_def_encoding.proofs.WriteLengths.{Fixed, FixedAs, FixedEntries, FixedUnit}
use Rattle.dwz_def_encoding.specs.Placing.{CommonUnit, NewUnit, OldUnit, UnitRole, as_read, with_form}
use Rattle.dwz_def_expand.specs.Chosen.{Choice, chosen_as, chosen_attr, chosen_entries, chosen_units, copied_constant, copied_entry, copied_file, copied_slot, copied_string, copied_text}
use Rattle.dwz_def_expand.specs.Source.{Copy, expanded}
use Rattle.dwz_def_expand.specs.Written.{written}
use Rattle.dwz_def_cross.specs.Tops.{WithCommon}
use Rattle.dwz_def_reading.specs.Classes.{Class, OfCommonEntry, OfCommonText, OfConstant, OfInfoEntry, OfTextBySlot, OfTextInLineStr, OfTextInStr, OfUnitEntry, class_in, class_of}
use Rattle.dwz_def_reading.specs.Classes.{class_rows, names_file}
use Rattle.dwz_def_reading.specs.Documents.{Attr, DwUnit, Entries}
use Rattle.dwz_def_reading.specs.Lists.{Each}
use Rattle.dwz_def_reading.specs.Trees.{End, Entry}

module _ {K : Type 0} (a : Attr K) where
  -- what has a form of a class that names no entry
  kept : (k : Class) → class_of a.form ≡ k → FixedAs k a → Fixed (with_form a (as_read a))
  kept k e free = subst (λ (x : Class). FixedAs x a) (sym e) free

  string_fixed : Fixed (with_form a copied_string)
  unfolding class_in class_rows
  string_fixed = tt

  text_fixed : (s : UnitRole) → Fixed (with_form a (as_read a)) → Fixed (with_form a (copied_text s a))
  text_fixed OldUnit free = free
  text_fixed NewUnit free = free
  text_fixed CommonUnit free = string_fixed

  slot_fixed : (s : UnitRole) (offsets : List ℕ) (base : _) → Fixed (with_form a (as_read a)) → Fixed (with_form a (copied_slot s offsets base a))
  unfolding class_in class_rows
  slot_fixed OldUnit offsets base free = free
  slot_fixed NewUnit offsets base free = tt
  slot_fixed CommonUnit offsets base free = string_fixed

  file_fixed : (s : UnitRole) (paths : _) → Fixed (with_form a (as_read a)) → Fixed (with_form a (copied_file s paths a))
  unfolding class_in class_rows
  file_fixed OldUnit paths free = free
  file_fixed NewUnit paths free = tt
  file_fixed CommonUnit paths free = tt

  constant_fixed : (b : Bool) (s : UnitRole) (paths : _) → Fixed (with_form a (as_read a)) → Fixed (with_form a (copied_constant b s paths a))
  constant_fixed true s paths free = file_fixed s paths free
  constant_fixed false s paths free = free

module _ {P : Type 0} (c : Choice P) where
  entry_fixed : (n : ℕ) (a : Attr (Copy P)) (refs : List (Copy P)) → Fixed (with_form a (copied_entry n refs))
  unfolding class_in class_rows
  entry_fixed n a [] = refl
  entry_fixed n a (k ∷ refs) = by (k.unit == n) where
    by : (b : Bool) → Fixed (with_form a (record { form = if b then 0x13 else 0x10; raw = pos 0 }))
    by true = refl
    by false = refl

  by_class : (k : Class) (n : ℕ) (source : P) (a : Attr (Copy P)) → class_of a.form ≡ k → Fixed (with_form a (chosen_as k c n source a))
  by_class OfUnitEntry n source a e = entry_fixed n a a.value.refs
  by_class OfInfoEntry n source a e = entry_fixed n a a.value.refs
  by_class OfCommonEntry n source a e = entry_fixed n a a.value.refs
  by_class OfCommonText n source a e = string_fixed a
  by_class OfTextInStr n source a e = text_fixed a (c.role source) (kept a OfTextInStr e tt)
  by_class OfTextInLineStr n source a e = text_fixed a (c.role source) (kept a OfTextInLineStr e tt)
  by_class OfTextBySlot n source a e = slot_fixed a (c.role source) c.offsets (c.slots source) (kept a OfTextBySlot e tt)
  by_class OfConstant n source a e = constant_fixed a (names_file a.name) (c.role source) (c.paths n) (kept a OfConstant e tt)
  by_class k n source a e = kept a k e tt

  attrs_fixed : (k : Copy P) (attrs : List (Attr (Copy P))) → Each Fixed (map (chosen_attr c k) attrs)
  attrs_fixed k [] = tt
  attrs_fixed k (a ∷ attrs) = (by_class (class_of a.form) k.unit k.source a refl, attrs_fixed k attrs)

  entries_fixed : (f : Entries (Copy P)) → FixedEntries (chosen_entries c f)
  unfolding chosen_entries
  entries_fixed End = tt
  entries_fixed (Entry e children next) = (attrs_fixed e.at e.attrs, entries_fixed children, entries_fixed next)

  units_fixed : (units : List (DwUnit (Copy P))) → Each FixedUnit (chosen_units c units)
  units_fixed [] = tt
  units_fixed (u ∷ units) = ((attrs_fixed u.root.at u.root.attrs, entries_fixed u.below), units_fixed units)

pub written_fixed : {P : Type 0} (same : P → P → Bool) (c : Choice P) (w : WithCommon P) → Each FixedUnit (written same c w)
unfolding written
written_fixed same c w = units_fixed c (expanded same w)
