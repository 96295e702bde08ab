-- The attributes of units in a row: what one of them passes, the units pass.
use Rattle.std.proofs.Common.{◌≡◌, ◌↔◌, ◌⊎◌, ℕ, Bool, true, false, List, [], ◌∷◌, ◌++◌, map, refl, sym, ap, ◌∙◌, inl, inr, ⊎_elim}
use Rattle.std.specs.Prelude.{◌||◌, ◌&&◌}
use Rattle.std.specs.List.{list_any}
use Rattle.std.proofs.lemmas.Bool.{or_cases}
use Rattle.std.proofs.lemmas.List.{map-append}
use Rattle.std.proofs.lemmas.List.Folds.{list_any-append}
use Rattle.dwz_def_tops.specs.Alike.{any_attr, any_entry, has_operand, is_in, operand_names}
use Rattle.dwz_def_tops.specs.Spots.{EntryName, in_file}
use Rattle.dwz_def_tops.proofs.Targets.{or_first, or_second}
use Rattle.dwz_def_reading.specs.Trees.{End, Entry}
use Rattle.dwz_def_reading.specs.Documents.{Addr, Attr, Block, DwUnit, Entries, Expr, File, Flag, Index, Loc, Num, Plain, Ref, Sec, Sig, Text, attr_map, entries_map, unit_map}
use Rattle.dwz_def_plan.specs.Plan.{pins, plain_parts, uleb_targets}
use Rattle.dwz_move.specs.Known.{in_unit}
use Rattle.dwz_move.specs.Marked.{expression_names, in_expression}

unfoldable pub entries_attrs : {P : Type 0} → Entries P → List (Attr P)
entries_attrs End = []
entries_attrs (Entry e c n) = e.attrs ++ (entries_attrs c ++ entries_attrs n)

unfoldable pub unit_attrs : {P : Type 0} → DwUnit P → List (Attr P)
unit_attrs u = u.root.attrs ++ entries_attrs u.below

unfoldable pub units_attrs : {P : Type 0} → List (DwUnit P) → List (Attr P)
units_attrs [] = []
units_attrs (u ∷ units) = unit_attrs u ++ units_attrs units

-- ---- what one of them passes

module _ (test : Attr EntryName → Bool) where
  any_entries : (f : Entries EntryName) → any_entry (any_attr test) f ≡ list_any test (entries_attrs f)
  unfolding any_entry entries_attrs
  any_entries End = refl
  any_entries (Entry e c n) =
      ap (λ (b : Bool). list_any test e.attrs || b) ((λ i. any_entries c i || any_entries n i) ∙ sym (list_any-append test (entries_attrs c) (entries_attrs n)))
      ∙ sym (list_any-append test e.attrs (entries_attrs c ++ entries_attrs n))

  any_unit : (u : DwUnit EntryName) → in_unit (any_attr test) u ≡ list_any test (unit_attrs u)
  unfolding unit_attrs
  any_unit u = ap (λ (b : Bool). list_any test u.root.attrs || b) (any_entries u.below) ∙ sym (list_any-append test u.root.attrs (entries_attrs u.below))

  any_units : (units : List (DwUnit EntryName)) → list_any (in_unit (any_attr test)) units ≡ list_any test (units_attrs units)
  unfolding units_attrs
  any_units [] = refl
  any_units (u ∷ units) = (λ i. any_unit u i || any_units units i) ∙ sym (list_any-append test (unit_attrs u) (units_attrs units))

-- with other places
entries_named : (name : ℕ → EntryName) (f : Entries ℕ) → entries_attrs (entries_map name f) ≡ map (attr_map name) (entries_attrs f)
unfolding entries_attrs entries_map
entries_named name End = refl
entries_named name (Entry e c n) =
    (λ i. map (attr_map name) e.attrs ++ (entries_named name c i ++ entries_named name n i))
    ∙ ap (λ (w : List (Attr EntryName)). map (attr_map name) e.attrs ++ w) (sym (map-append (attr_map name) (entries_attrs c) (entries_attrs n)))
    ∙ sym (map-append (attr_map name) e.attrs (entries_attrs c ++ entries_attrs n))

unit_named : (name : ℕ → EntryName) (u : DwUnit ℕ) → unit_attrs (unit_map name u) ≡ map (attr_map name) (unit_attrs u)
unfolding unit_attrs
unit_named name u = ap (λ (w : List (Attr EntryName)). map (attr_map name) u.root.attrs ++ w) (entries_named name u.below) ∙ sym (map-append (attr_map name) u.root.attrs (entries_attrs u.below))

units_named : (name : ℕ → EntryName) (units : List (DwUnit ℕ)) → units_attrs (map (unit_map name) units) ≡ map (attr_map name) (units_attrs units)
unfolding units_attrs
units_named name [] = refl
units_named name (u ∷ units) = (λ i. unit_named name u i ++ units_named name units i) ∙ sym (map-append (attr_map name) (unit_attrs u) (units_attrs units))

-- the attributes of units, with names in place of places
abbrev pub named_attrs : (ℕ → EntryName) → List (DwUnit ℕ) → List (Attr EntryName)
named_attrs name units = map (attr_map name) (units_attrs units)

pub any_named : (test : Attr EntryName → Bool) (name : ℕ → EntryName) (units : List (DwUnit ℕ))
    → list_any (in_unit (any_attr test)) (map (unit_map name) units) ≡ list_any test (named_attrs name units)
any_named test name units = any_units test (map (unit_map name) units) ∙ ap (list_any test) (units_named name units)

-- ---- of a file

filed : (test : DwUnit EntryName → Bool) (file : ℕ) (units : List (DwUnit EntryName)) → list_any (λ f. test f.unit) (map (in_file file) units) ≡ list_any test units
filed test file [] = refl
filed test file (u ∷ units) = ap (λ (b : Bool). test u || b) (filed test file units)

pub any_filed : (test : Attr EntryName → Bool) (name : ℕ → EntryName) (file : ℕ) (units : List (DwUnit ℕ))
    → list_any (λ f. in_unit (any_attr test) f.unit) (map (in_file file) (map (unit_map name) units))
    ≡ list_any test (named_attrs name units)
any_filed test name file units = filed (in_unit (any_attr test)) file (map (unit_map name) units) ∙ any_named test name units

-- ---- an operand is in an expression or in a location list

unfoldable pub in_list : Plain → Bool
in_list (Loc exprs) = true
in_list _ = false

abbrev pub list_names : ℕ → Attr EntryName → Bool
list_names n a = in_list a.value.plain && operand_names n a

abbrev pub list_pins : (EntryName → Bool) → Attr EntryName → Bool
list_pins test a = in_list a.value.plain && pins test a

abbrev pub expression_pins_by : (EntryName → Bool) → Attr EntryName → Bool
expression_pins_by test a = in_expression a.value.plain && pins test a

or_nothing : (b : Bool) → b ≡ (b || false)
or_nothing true = refl
or_nothing false = refl

names_parts : (plain : Plain) (b : Bool) → (has_operand plain && b) ≡ ((in_expression plain && (has_operand plain && b)) || (in_list plain && (has_operand plain && b)))
unfolding in_list
names_parts (Num w z) b = refl
names_parts (Flag x) b = refl
names_parts (Block bs) b = refl
names_parts (Text bs) b = refl
names_parts (File o) b = refl
names_parts Ref b = refl
names_parts (Sig n) b = refl
names_parts (Addr n) b = refl
names_parts (Index n) b = refl
names_parts (Sec n) b = refl
names_parts (Expr parts) b = or_nothing (has_operand (Expr parts) && b)
names_parts (Loc exprs) b = refl

pins_parts : (test : EntryName → Bool) (plain : Plain) (refs : List EntryName)
    → list_any test (uleb_targets (plain_parts plain) refs) ≡ ((in_expression plain && list_any test (uleb_targets (plain_parts plain) refs))
    || (in_list plain && list_any test (uleb_targets (plain_parts plain) refs)))
unfolding in_list uleb_targets
pins_parts test (Num w z) refs = refl
pins_parts test (Flag x) refs = refl
pins_parts test (Block bs) refs = refl
pins_parts test (Text bs) refs = refl
pins_parts test (File o) refs = refl
pins_parts test Ref refs = refl
pins_parts test (Sig n) refs = refl
pins_parts test (Addr n) refs = refl
pins_parts test (Index n) refs = refl
pins_parts test (Sec n) refs = refl
pins_parts test (Expr parts) refs = or_nothing (list_any test (uleb_targets parts refs))
pins_parts test (Loc exprs) refs = refl

-- one of two tests holds
either : (t p q : Attr EntryName → Bool) → ((a : Attr EntryName) → t a ≡ (p a || q a)) → (attrs : List (Attr EntryName)) → (list_any t attrs ≡ true) ↔ ((list_any p attrs ≡ true)
    ⊎ (list_any q attrs ≡ true))
either t p q same [] = (λ e. inl e, λ h. ⊎_elim (λ x. x) (λ x. x) h)
either t p q same (a ∷ attrs) = by (either t p q same attrs) where
  by : (list_any t attrs ≡ true) ↔ ((list_any p attrs ≡ true) ⊎ (list_any q attrs ≡ true)) → (list_any t (a ∷ attrs) ≡ true) ↔ ((list_any p (a ∷ attrs) ≡ true) ⊎ (list_any q (a ∷ attrs) ≡ true))
  by more = (
    λ e. ⊎_elim
        (λ h. ⊎_elim (λ x. inl (or_first (p a) (list_any p attrs) x)) (λ x. inr (or_first (q a) (list_any q attrs) x)) (or_cases (p a) (q a) (sym (same a) ∙ h)))
        (λ h. ⊎_elim (λ x. inl (or_second (p a) (list_any p attrs) x)) (λ x. inr (or_second (q a) (list_any q attrs) x)) (more.0 h))
        (or_cases (t a) (list_any t attrs) e),
    λ h. ⊎_elim
        (λ e. ⊎_elim (λ x. or_first (t a) (list_any t attrs) (same a ∙ or_first (p a) (q a) x)) (λ x. or_second (t a) (list_any t attrs) (more.1 (inl x))) (or_cases (p a) (list_any p attrs) e))
        (λ e. ⊎_elim (λ x. or_first (t a) (list_any t attrs) (same a ∙ or_second (p a) (q a) x)) (λ x. or_second (t a) (list_any t attrs) (more.1 (inr x))) (or_cases (q a) (list_any q attrs) e))
        h,
  )

pub names_either : (n : ℕ) (attrs : List (Attr EntryName)) → (list_any (operand_names n) attrs ≡ true) ↔ ((list_any (expression_names n) attrs ≡ true) ⊎ (list_any (list_names n) attrs ≡ true))
names_either n attrs = either (operand_names n) (expression_names n) (list_names n) (λ a. names_parts a.value.plain (list_any (is_in n) a.value.refs)) attrs

pub pins_either : (test : EntryName → Bool) (attrs : List (Attr EntryName)) → (list_any (pins test) attrs ≡ true) ↔ ((list_any (expression_pins_by test) attrs ≡ true)
    ⊎ (list_any (list_pins test) attrs ≡ true))
pins_either test attrs = either (pins test) (expression_pins_by test) (list_pins test) (λ a. pins_parts test a.value.plain a.value.refs) attrs
