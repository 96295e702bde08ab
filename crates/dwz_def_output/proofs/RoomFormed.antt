-- Room for operands stays where places get names, and where values get their forms.
use Rattle.std.proofs.Common.{◌≡◌, ℕ, ◌-◌, Bool, true, false, List, [], ◌∷◌, map, subst}
use Rattle.dwz_def_reading.specs.Spelling.{reach}
use Rattle.dwz_def_reading.specs.Trees.{End, Entry}
use Rattle.dwz_def_reading.specs.Documents.{Attr, DwUnit, Entries, Expr, Loc, Operand, Part, Plain, Same, attr_map, entries_map, unit_map}
use Rattle.dwz_def_reading.specs.Classes.{OfCommonEntry, OfConstant, OfExpression, OfInfoEntry, OfListIndex, OfOffset, OfTextBySlot, OfTextInLineStr, OfTextInStr, OfUnitEntry}
use Rattle.dwz_def_reading.specs.Classes.{Class, class_in, class_of}
use Rattle.dwz_def_reading.specs.Classes.{class_rows, names_file}
use Rattle.dwz_def_reading.specs.Lists.{Each}
use Rattle.dwz_def_tops.specs.Shown.{units_keys}
use Rattle.dwz_def_tops.specs.Alike.{joined_parts}
use Rattle.dwz_def_encoding.specs.Fitting.{EachAttr, FitsWidth, HasRoom, HasRoomAs, OperandsHaveRoom, PlainHasRoom, UnitHasRoom}
use Rattle.dwz_def_encoding.specs.Placing.{CommonUnit, Forms, InCommon, InFile, InUnit, KeyedForms, NewUnit, OldUnit, Reach, UnitForms, UnitRole, as_constant, as_file, as_line_text, as_slot, as_strp_if}
use Rattle.dwz_def_encoding.specs.Placing.{as_text, fit}
use Rattle.dwz_def_encoding.specs.Placing.{fit_as, fit_attr, fit_unit, fit_units, has_text, reach_of, ref_form, slot_number, unit_forms, with_form, with_keys}
use Rattle.dwz_def_encoding.specs.Writing.{Numbering, base_place, text_or_empty}

-- ---- where places get names that have the same numbers

module _ {K L : Type 0} (n : Numbering K) (m : Numbering L) (g : K → L) (same : (k : K) → n.place k ≡ m.place (g k)) where
  parts_named : (unit : ℕ) (parts : List Part) (refs : List K) → OperandsHaveRoom n unit parts refs → OperandsHaveRoom m unit parts (map g refs)
  parts_named unit [] [] h = tt
  parts_named unit [] (k ∷ refs) h = absurd h
  parts_named unit (Same bytes ∷ parts) refs h = parts_named unit parts refs h
  parts_named unit (Operand width uleb base ∷ parts) [] h = absurd h
  parts_named unit (Operand width uleb base ∷ parts) (k ∷ refs) h =
      (subst (λ (p : ℕ). FitsWidth uleb width (p - base_place unit base)) (same k) h.0, parts_named unit parts refs h.1)

  plain_named : (unit : ℕ) (plain : Plain) (refs : List K) → PlainHasRoom n unit plain refs → PlainHasRoom m unit plain (map g refs)
  plain_named unit (Expr parts) refs h = parts_named unit parts refs h
  plain_named unit (Loc exprs) refs h = parts_named unit (joined_parts exprs) refs h
  plain_named unit _ refs h = tt

  pub attr_named : (unit : ℕ) (a : Attr K) → HasRoom n unit a → HasRoom m unit (attr_map g a)
  attr_named unit a h = by (class_of a.form) h where
    by : (c : Class) → HasRoomAs c n unit a → HasRoomAs c m unit (attr_map g a)
    by OfExpression h = plain_named unit a.value.plain a.value.refs h
    by OfOffset h = plain_named unit a.value.plain a.value.refs h
    by OfListIndex h = plain_named unit a.value.plain a.value.refs h
    by _ h = tt

  attrs_named : (unit : ℕ) (attrs : List (Attr K)) → Each (HasRoom n unit) attrs → Each (HasRoom m unit) (map (attr_map g) attrs)
  attrs_named unit [] h = tt
  attrs_named unit (a ∷ attrs) h = (attr_named unit a h.0, attrs_named unit attrs h.1)

  entries_named : (unit : ℕ) (f : Entries K) → EachAttr (HasRoom n unit) f → EachAttr (HasRoom m unit) (entries_map g f)
  unfolding entries_map
  entries_named unit End h = tt
  entries_named unit (Entry e children next) h = (attrs_named unit e.attrs h.0, entries_named unit children h.1, entries_named unit next h.2)

  pub unit_named : (u : DwUnit K) → UnitHasRoom n u → UnitHasRoom m (unit_map g u)
  unit_named u h =
      subst (λ (p : ℕ). Each (HasRoom m p) (map (attr_map g) u.root.attrs) × EachAttr (HasRoom m p) (entries_map g u.below)) (same u.at)
      (attrs_named (n.place u.at) u.root.attrs h.0, entries_named (n.place u.at) u.below h.1)

-- ---- with their forms

module _ {K : Type 0} (x : UnitForms K) (n : Numbering K) (unit : ℕ) (a : Attr K) (room : HasRoom n unit a) where
  entry_room : (r : Reach) → HasRoom n unit (with_form a (record { form = ref_form r; raw = a.raw }))
  unfolding class_rows class_in
  entry_room InUnit = tt
  entry_room InFile = tt
  entry_room InCommon = tt

  strp_room : (b : Bool) (at : ℕ) → HasRoom n unit (with_form a (as_strp_if b x a at))
  unfolding class_rows class_in
  strp_room true at = tt
  strp_room false at = tt

  text_room : (h : UnitRole) → HasRoom n unit (with_form a (as_text h x a))
  unfolding class_rows class_in
  text_room CommonUnit = tt
  text_room OldUnit = strp_room (has_text x.shared (text_or_empty a.value.plain)) (reach a.raw)
  text_room NewUnit = strp_room (has_text x.shared (text_or_empty a.value.plain)) (reach a.raw)

  line_text_room : (h : UnitRole) → HasRoom n unit (with_form a (as_line_text h x a))
  unfolding class_rows class_in
  line_text_room CommonUnit = tt
  line_text_room OldUnit = room
  line_text_room NewUnit = room

  slot_room : (h : UnitRole) → HasRoom n unit (with_form a (as_slot h x a))
  unfolding class_rows class_in
  slot_room CommonUnit = tt
  slot_room OldUnit = room
  slot_room NewUnit = strp_room (has_text x.shared (text_or_empty a.value.plain)) (slot_number x.offsets x.origin_bases.slots (reach a.raw))

  file_room : (h : UnitRole) → HasRoom n unit (with_form a (as_file h x a))
  unfolding class_rows class_in
  file_room CommonUnit = tt
  file_room OldUnit = room
  file_room NewUnit = room

  constant_room : (b : Bool) → HasRoom n unit (with_form a (as_constant b x a))
  constant_room true = file_room x.holder
  constant_room false = room

  fit_room : HasRoom n unit (fit_attr x a)
  fit_room = by (class_of a.form) where
    by : (c : Class) → HasRoom n unit (with_form a (fit_as c x a))
    by OfUnitEntry = entry_room (reach_of x a.value.refs)
    by OfInfoEntry = entry_room (reach_of x a.value.refs)
    by OfCommonEntry = entry_room (reach_of x a.value.refs)
    by OfTextInStr = text_room x.holder
    by OfTextInLineStr = line_text_room x.holder
    by OfTextBySlot = slot_room x.holder
    by OfConstant = constant_room (names_file a.name)
    by _ = room

module _ {K : Type 0} (x : UnitForms K) (n : Numbering K) (unit : ℕ) where
  attrs_room : (attrs : List (Attr K)) → Each (HasRoom n unit) attrs → Each (HasRoom n unit) (map (fit_attr x) attrs)
  attrs_room [] h = tt
  attrs_room (a ∷ attrs) h = (fit_room x n unit a h.0, attrs_room attrs h.1)

  entries_room : (g : Entries K) → EachAttr (HasRoom n unit) g → EachAttr (HasRoom n unit) (fit x g)
  unfolding fit
  entries_room End h = tt
  entries_room (Entry e children next) h = (attrs_room e.attrs h.0, entries_room children h.1, entries_room next h.2)

units_room : {K : Type 0} (f : KeyedForms K) (n : Numbering K) (units : List (DwUnit K)) → Each (UnitHasRoom n) units → Each (UnitHasRoom n) (map (fit_unit f) units)
units_room f n [] h = tt
units_room f n (u ∷ units) h = ((attrs_room (unit_forms f u) n (n.place u.at) u.root.attrs h.0.0, entries_room (unit_forms f u) n (n.place u.at) u.below h.0.1), units_room f n units h.1)

pub fitted_room : {K : Type 0} (f : Forms K) (n : Numbering K) (units : List (DwUnit K)) → Each (UnitHasRoom n) units → Each (UnitHasRoom n) (fit_units f units)
unfolding fit_units
fitted_room f n units h = units_room (with_keys f (units_keys units)) n units h
