-- New numbers of texts change no name, no length, and no room that operands need.
use Rattle.std.proofs.Common.{◌≡◌, ℕ, pos, Bool, true, false, List, [], ◌∷◌, ◌++◌, map, Some, None, refl, sym, ap, subst, ◌∙◌, cond, eqb, eqb-true}
use Rattle.dwz_def_reading.specs.Spelling.{reach}
use Rattle.dwz_def_reading.specs.Trees.{End, Entry}
use Rattle.dwz_def_reading.specs.Documents.{Attr, DwUnit, Entries, first_named}
use Rattle.dwz_def_reading.specs.Classes.{class_in, class_rows}
use Rattle.dwz_def_reading.specs.Lists.{Each}
use Rattle.dwz_def_tops.specs.Shown.{keys, unit_keys, units_keys}
use Rattle.dwz_def_encoding.specs.Bases.{Bases, bases_in, offset_in}
use Rattle.dwz_def_encoding.specs.Fitting.{EachAttr, HasRoom, UnitHasRoom}
use Rattle.dwz_def_encoding.specs.Meant.{all_entry_keys, entry_keys, own_of}
use Rattle.dwz_def_encoding.specs.Placing.{with_form}
use Rattle.dwz_def_encoding.specs.Pruned.{entries_renumbered, renumbered_attr, renumbered_unit, renumbered_units}
use Rattle.dwz_def_encoding.specs.Writing.{Numbering}
use Rattle.dwz_def_encoding.proofs.ReadAgain.{same_bases}
use Rattle.dwz_def_encoding.proofs.WriteLengths.{Fixed, FixedEntries, FixedUnit}

module _ {K : Type 0} (number : ℕ → ℕ) where
  -- ---- names

  keys_renumbered : (g : Entries K) → keys (entries_renumbered number g) ≡ keys g
  unfolding entries_renumbered keys
  keys_renumbered End = refl
  keys_renumbered (Entry e children next) =
      ap (λ (w : List K). e.at ∷ (w ++ keys (entries_renumbered number next))) (keys_renumbered children) ∙ ap (λ (w : List K). e.at ∷ (keys children ++ w)) (keys_renumbered next)

  entry_keys_renumbered : (u : DwUnit K) → entry_keys (renumbered_unit number u) ≡ entry_keys u
  entry_keys_renumbered u = ap (λ (w : List K). u.root.at ∷ w) (keys_renumbered u.below)

  keys_each : (units : List (DwUnit K)) → units_keys (map (renumbered_unit number) units) ≡ units_keys units
  unfolding units_keys unit_keys
  keys_each [] = refl
  keys_each (u ∷ units) =
      ap (λ (w : List K). u.at ∷ (w ++ units_keys (map (renumbered_unit number) units))) (ap (λ (w : List K). u.root.at ∷ w) (keys_renumbered u.below))
      ∙ ap (λ (w : List K). u.at ∷ (u.root.at ∷ keys u.below) ++ w) (keys_each units)

  entries_each : (units : List (DwUnit K)) → all_entry_keys (map (renumbered_unit number) units) ≡ all_entry_keys units
  unfolding all_entry_keys
  entries_each [] = refl
  entries_each (u ∷ units) =
      ap (λ (w : List K). w ++ all_entry_keys (map (renumbered_unit number) units)) (entry_keys_renumbered u) ∙ ap (λ (w : List K). entry_keys u ++ w) (entries_each units)

  pub renumbered_keys : (units : List (DwUnit K)) → units_keys (renumbered_units number units) ≡ units_keys units
  unfolding renumbered_units
  renumbered_keys units = keys_each units

  pub renumbered_entry_keys : (units : List (DwUnit K)) → all_entry_keys (renumbered_units number units) ≡ all_entry_keys units
  unfolding renumbered_units
  renumbered_entry_keys units = entries_each units

  -- ---- what a root says

  offset_renumbered : (a : Attr K) → offset_in (Some (renumbered_attr number a)) ≡ offset_in (Some a)
  offset_renumbered a = by (eqb a.form 0x0e) refl where
    by : (b : Bool) → eqb a.form 0x0e ≡ b → offset_in (Some (cond b (with_form a (record { form = 0x0e; raw = pos (number (reach a.raw)) })) a)) ≡ offset_in (Some a)
    by true e = sym (ap (λ (f : ℕ). cond (eqb f 0x17) (Some (reach a.raw)) None) (eqb-true a.form 0x0e e))
    by false e = refl

  name_renumbered : (a : Attr K) → (renumbered_attr number a).name ≡ a.name
  name_renumbered a = by (eqb a.form 0x0e) where
    by : (b : Bool) → (cond b (with_form a (record { form = 0x0e; raw = pos (number (reach a.raw)) })) a).name ≡ a.name
    by true = refl
    by false = refl

  first_renumbered : (name : ℕ) (attrs : List (Attr K)) → offset_in (first_named name (map (renumbered_attr number) attrs)) ≡ offset_in (first_named name attrs)
  unfolding first_named
  first_renumbered name [] = refl
  first_renumbered name (a ∷ attrs) =
      ap (λ (n : ℕ). offset_in (cond (eqb n name) (Some (renumbered_attr number a)) (first_named name (map (renumbered_attr number) attrs)))) (name_renumbered a)
      ∙ by (first_renumbered name attrs) (eqb a.name name)
    where
      by : offset_in (first_named name (map (renumbered_attr number) attrs)) ≡ offset_in (first_named name attrs) → (b : Bool)
          → offset_in (cond b (Some (renumbered_attr number a)) (first_named name (map (renumbered_attr number) attrs))) ≡ offset_in (cond b (Some a) (first_named name attrs))
      by rest true = offset_renumbered a
      by rest false = rest

  bases_renumbered : (u : DwUnit K) → bases_in (renumbered_unit number u) ≡ bases_in u
  bases_renumbered u = same_bases _ _ _ _ _ _ (first_renumbered 0x72 u.root.attrs) (first_renumbered 0x10 u.root.attrs) (first_renumbered 0x8c u.root.attrs)

  pub own_renumbered : (u : DwUnit K) → own_of u ≡ own_of (renumbered_unit number u)
  own_renumbered u =
      ap (λ (ks : List K). record { at = u.at; keys = ks; bases = bases_in u }) (sym (entry_keys_renumbered u))
      ∙ ap (λ (b : Bases). record { at = u.at; keys = entry_keys (renumbered_unit number u); bases = b }) (sym (bases_renumbered u))

  -- ---- lengths, and room

  module _ (P : Attr K → Type 0) (more : (a : Attr K) → P a → P (renumbered_attr number a)) where
    attrs_to : (attrs : List (Attr K)) → Each P attrs → Each P (map (renumbered_attr number) attrs)
    attrs_to [] is = tt
    attrs_to (a ∷ attrs) is = (more a is.0, attrs_to attrs is.1)

    entries_to : (g : Entries K) → EachAttr P g → EachAttr P (entries_renumbered number g)
    unfolding entries_renumbered
    entries_to End is = tt
    entries_to (Entry e children next) is = (attrs_to e.attrs is.0, entries_to children is.1, entries_to next is.2)

  module _ (P : Attr K → Type 0) (less : (a : Attr K) → P (renumbered_attr number a) → P a) where
    attrs_from : (attrs : List (Attr K)) → Each P (map (renumbered_attr number) attrs) → Each P attrs
    attrs_from [] is = tt
    attrs_from (a ∷ attrs) is = (less a is.0, attrs_from attrs is.1)

    entries_from : (g : Entries K) → EachAttr P (entries_renumbered number g) → EachAttr P g
    unfolding entries_renumbered
    entries_from End is = tt
    entries_from (Entry e children next) is = (attrs_from e.attrs is.0, entries_from children is.1, entries_from next is.2)

  attr_fixed : (a : Attr K) → Fixed a → Fixed (renumbered_attr number a)
  unfolding class_rows class_in
  attr_fixed a is = by (eqb a.form 0x0e) where
    by : (b : Bool) → Fixed (cond b (with_form a (record { form = 0x0e; raw = pos (number (reach a.raw)) })) a)
    by true = tt
    by false = is

  entries_fixed : (g : Entries K) → FixedEntries g → FixedEntries (entries_renumbered number g)
  unfolding entries_renumbered
  entries_fixed End is = tt
  entries_fixed (Entry e children next) is = (attrs_to Fixed attr_fixed e.attrs is.0, entries_fixed children is.1, entries_fixed next is.2)

  fixed_each : (units : List (DwUnit K)) → Each FixedUnit units → Each FixedUnit (map (renumbered_unit number) units)
  fixed_each [] is = tt
  fixed_each (u ∷ units) is = ((attrs_to Fixed attr_fixed u.root.attrs is.0.0, entries_fixed u.below is.0.1), fixed_each units is.1)

  pub renumbered_fixed : (units : List (DwUnit K)) → Each FixedUnit units → Each FixedUnit (renumbered_units number units)
  unfolding renumbered_units
  renumbered_fixed units is = fixed_each units is

  module _ (n : Numbering K) where
    attr_room : (unit : ℕ) (a : Attr K) → HasRoom n unit a → HasRoom n unit (renumbered_attr number a)
    unfolding class_rows class_in
    attr_room unit a is = by (eqb a.form 0x0e) where
      by : (b : Bool) → HasRoom n unit (cond b (with_form a (record { form = 0x0e; raw = pos (number (reach a.raw)) })) a)
      by true = tt
      by false = is

    room_attr : (unit : ℕ) (a : Attr K) → HasRoom n unit (renumbered_attr number a) → HasRoom n unit a
    unfolding class_rows class_in
    room_attr unit a is = by (eqb a.form 0x0e) refl is where
      by : (b : Bool) → eqb a.form 0x0e ≡ b → HasRoom n unit (cond b (with_form a (record { form = 0x0e; raw = pos (number (reach a.raw)) })) a) → HasRoom n unit a
      by true e is = subst (λ (f : ℕ). HasRoom n unit (with_form a (record { form = f; raw = a.raw }))) (sym (eqb-true a.form 0x0e e)) tt
      by false e is = is

    room_to : (units : List (DwUnit K)) → Each (UnitHasRoom n) units → Each (UnitHasRoom n) (map (renumbered_unit number) units)
    room_to [] is = tt
    room_to (u ∷ units) is = (
      (attrs_to (HasRoom n (n.place u.at)) (attr_room (n.place u.at)) u.root.attrs is.0.0, entries_to (HasRoom n (n.place u.at)) (attr_room (n.place u.at)) u.below is.0.1),
      room_to units is.1,
    )

    room_from : (units : List (DwUnit K)) → Each (UnitHasRoom n) (map (renumbered_unit number) units) → Each (UnitHasRoom n) units
    room_from [] is = tt
    room_from (u ∷ units) is = (
      (attrs_from (HasRoom n (n.place u.at)) (room_attr (n.place u.at)) u.root.attrs is.0.0, entries_from (HasRoom n (n.place u.at)) (room_attr (n.place u.at)) u.below is.0.1),
      room_from units is.1,
    )

    pub renumbered_room : (units : List (DwUnit K)) → Each (UnitHasRoom n) units → Each (UnitHasRoom n) (renumbered_units number units)
    unfolding renumbered_units
    renumbered_room units is = room_to units is

    pub room_renumbered : (units : List (DwUnit K)) → Each (UnitHasRoom n) (renumbered_units number units) → Each (UnitHasRoom n) units
    unfolding renumbered_units
    room_renumbered units is = room_from units is
