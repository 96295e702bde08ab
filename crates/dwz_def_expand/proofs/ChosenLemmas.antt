-- The forms that are chosen lead to no supplementary file.
use Rattle.std.proofs.Common.{◌≡◌, ◌≢◌, ◌==◌, arith, ℕ, Bool, true, false, List, [], ◌∷◌, map, refl, sym, ap, subst, ◌∙◌}
use Rattle.std.specs.Prelude.{if◌then◌else◌}
use Rattle.dwz_def_reading.specs.Documents.{Attr, Compile, DwUnit, Entries, Kind, OfType, Partial, kind_map}
use Rattle.dwz_def_reading.specs.Classes.{Class, OfAddress, OfBlock, OfCommonEntry, OfCommonText, OfConstant, OfExpression, OfFlag, OfIndex, OfInfoEntry, OfListIndex, OfOffset, OfSignature, OfText, OfTextBySlot, OfTextInLineStr, OfTextInStr, OfUnitEntry, Unread, class_in, class_of, class_rows, names_file}
use Rattle.dwz_def_reading.specs.Lists.{Each}
use Rattle.dwz_def_reading.specs.Trees.{End, Entry}
use Rattle.dwz_def_tops.specs.Seen.{IsPartial}
use Rattle.dwz_def_encoding.specs.Fitting.{EachAttr}
use Rattle.dwz_def_encoding.specs.Placing.{CommonUnit, NewUnit, OldUnit, UnitRole}
use Rattle.dwz_def_cross.specs.Tops.{WithCommon, unless_partial, units_with_common, whole_units}
use Rattle.dwz_def_expand.specs.Chosen.{Choice, copied_constant, copied_file, copied_slot, copied_text, chosen_as, chosen_attr, chosen_entries, chosen_units, entry_form}
use Rattle.dwz_def_expand.specs.Alone.{IsByItself, LeadsNowhere}
use Rattle.dwz_def_expand.specs.Source.{Copy, copies, copy_for, expanded, source_unit, source_units, source_places}
use Rattle.dwz_def_expand.specs.Written.{written}

-- ---- forms

common_entry : class_of 0x1c ≡ OfCommonEntry
unfolding class_rows class_in
common_entry = refl

common_text : class_of 0x1d ≡ OfCommonText
unfolding class_rows class_in
common_text = refl

abbrev pub Nowhere : ℕ → Type 0
Nowhere form = (form ≢ 0x1c) × (form ≢ 0x1d)

-- a form of another class
pub kept_form : (k : Class) (form : ℕ) → class_of form ≡ k → (k ≡ OfCommonEntry → ⊥) → (k ≡ OfCommonText → ⊥) → Nowhere form
kept_form k form e a b = (
  (λ (h : form ≡ 0x1c). a (sym e ∙ ap class_of h ∙ common_entry)),
  (λ (h : form ≡ 0x1d). b (sym e ∙ ap class_of h ∙ common_text)),
)

entry_nowhere : {P : Type 0} (n : ℕ) (refs : List (Copy P)) → Nowhere (entry_form n refs)
entry_nowhere n [] = ((λ e. omega (arith, e)), (λ e. omega (arith, e)))
entry_nowhere n (k ∷ refs) = by (k.unit == n) where
  by : (b : Bool) → Nowhere (if b then 0x13 else 0x10)
  by true = ((λ e. omega (arith, e)), (λ e. omega (arith, e)))
  by false = ((λ e. omega (arith, e)), (λ e. omega (arith, e)))

string_form : Nowhere 0x08
string_form = ((λ e. omega (arith, e)), (λ e. omega (arith, e)))

strp_form : Nowhere 0x0e
strp_form = ((λ e. omega (arith, e)), (λ e. omega (arith, e)))

udata_form : Nowhere 0x0f
udata_form = ((λ e. omega (arith, e)), (λ e. omega (arith, e)))

module _ {P : Type 0} (c : Choice P) (n : ℕ) (source : P) (a : Attr (Copy P)) where
  text_form : (s : UnitRole) → Nowhere a.form → Nowhere (copied_text s a).form
  text_form OldUnit h = h
  text_form NewUnit h = h
  text_form CommonUnit h = string_form

  slot_form : (s : UnitRole) → Nowhere a.form → Nowhere (copied_slot s c.offsets (c.slots source) a).form
  slot_form OldUnit h = h
  slot_form NewUnit h = strp_form
  slot_form CommonUnit h = string_form

  file_form : (s : UnitRole) → Nowhere a.form → Nowhere (copied_file s (c.paths n) a).form
  file_form OldUnit h = h
  file_form NewUnit h = udata_form
  file_form CommonUnit h = udata_form

  constant_form : (b : Bool) (s : UnitRole) → Nowhere a.form → Nowhere (copied_constant b s (c.paths n) a).form
  constant_form true s h = file_form s h
  constant_form false s h = h

  by_class : (k : Class) → class_of a.form ≡ k → Nowhere (chosen_as k c n source a).form
  by_class OfUnitEntry e = entry_nowhere n a.value.refs
  by_class OfInfoEntry e = entry_nowhere n a.value.refs
  by_class OfCommonEntry e = entry_nowhere n a.value.refs
  by_class OfCommonText e = string_form
  by_class OfTextInStr e = text_form (c.role source) (kept_form OfTextInStr a.form e (λ q. cc) (λ q. cc))
  by_class OfTextInLineStr e = text_form (c.role source) (kept_form OfTextInLineStr a.form e (λ q. cc) (λ q. cc))
  by_class OfTextBySlot e = slot_form (c.role source) (kept_form OfTextBySlot a.form e (λ q. cc) (λ q. cc))
  by_class OfConstant e = constant_form (names_file a.name) (c.role source) (kept_form OfConstant a.form e (λ q. cc) (λ q. cc))
  by_class OfAddress e = kept_form OfAddress a.form e (λ q. cc) (λ q. cc)
  by_class OfBlock e = kept_form OfBlock a.form e (λ q. cc) (λ q. cc)
  by_class OfFlag e = kept_form OfFlag a.form e (λ q. cc) (λ q. cc)
  by_class OfText e = kept_form OfText a.form e (λ q. cc) (λ q. cc)
  by_class OfSignature e = kept_form OfSignature a.form e (λ q. cc) (λ q. cc)
  by_class OfOffset e = kept_form OfOffset a.form e (λ q. cc) (λ q. cc)
  by_class OfExpression e = kept_form OfExpression a.form e (λ q. cc) (λ q. cc)
  by_class OfListIndex e = kept_form OfListIndex a.form e (λ q. cc) (λ q. cc)
  by_class OfIndex e = kept_form OfIndex a.form e (λ q. cc) (λ q. cc)
  by_class Unread e = kept_form Unread a.form e (λ q. cc) (λ q. cc)

module _ {P : Type 0} (c : Choice P) where
  attrs_nowhere : (k : Copy P) (attrs : List (Attr (Copy P))) → Each LeadsNowhere (map (chosen_attr c k) attrs)
  attrs_nowhere k [] = tt
  attrs_nowhere k (a ∷ attrs) = (by_class c k.unit k.source a (class_of a.form) refl, attrs_nowhere k attrs)

  entries_nowhere : (f : Entries (Copy P)) → EachAttr LeadsNowhere (chosen_entries c f)
  unfolding chosen_entries
  entries_nowhere End = tt
  entries_nowhere (Entry e children next) = (attrs_nowhere e.at e.attrs, entries_nowhere children, entries_nowhere next)

  units_nowhere : (units : List (DwUnit (Copy P))) → Each (λ u. ¬ IsPartial u.kind) units → Each IsByItself (chosen_units c units)
  units_nowhere [] h = tt
  units_nowhere (u ∷ units) h = ((h.0, attrs_nowhere u.root.at u.root.attrs, entries_nowhere u.below), units_nowhere units h.1)

-- ---- kinds

kind_mapped : {P Q : Type 0} (f : P → Q) (k : Kind P) → ¬ IsPartial k → ¬ IsPartial (kind_map f k)
kind_mapped f Compile h = h
kind_mapped f (OfType s t) h = h
kind_mapped f Partial h = λ p. h tt

whole_kinds : {P : Type 0} (units : List (DwUnit P)) → Each (λ u. ¬ IsPartial u.kind) (whole_units units)
unfolding whole_units
whole_kinds [] = tt
whole_kinds {P} (u ∷ units) = by u.kind refl (whole_kinds units) where
  by : (k : Kind P) → u.kind ≡ k → Each (λ w. ¬ IsPartial w.kind) (whole_units units) → Each (λ w. ¬ IsPartial w.kind) (unless_partial k u (whole_units units))
  by Compile e more = (subst (λ (k : Kind P). IsPartial k → ⊥) (sym e) (λ p. p), more)
  by (OfType s t) e more = (subst (λ (k : Kind P). IsPartial k → ⊥) (sym e) (λ p. p), more)
  by Partial e more = more

module _ {P : Type 0} (same : P → P → Bool) where
  source_kinds : (all units : List (DwUnit P)) → Each (λ u. ¬ IsPartial u.kind) units → Each (λ u. ¬ IsPartial u.kind) (map (source_unit same all) units)
  source_kinds all [] h = tt
  source_kinds all (u ∷ units) h = (h.0, source_kinds all units h.1)

  copied_kinds : (places : List (List P)) (n : ℕ) (units : List (DwUnit P)) → Each (λ u. ¬ IsPartial u.kind) units → Each (λ u. ¬ IsPartial u.kind) (copies same places n units)
  unfolding copies
  copied_kinds places n [] h = tt
  copied_kinds places n (u ∷ units) h = (kind_mapped (copy_for same places n) u.kind h.0, copied_kinds places _ units h.1)

-- no unit of the new file is partial
pub expanded_kinds : {P : Type 0} (same : P → P → Bool) (w : WithCommon P) → Each (λ u. ¬ IsPartial u.kind) (expanded same w)
expanded_kinds same w =
    copied_kinds same (source_places same w) 0 (source_units same w) (source_kinds same (units_with_common w) (whole_units w.own) (whole_kinds w.own))

pub chosen_alone : {P : Type 0} (same : P → P → Bool) (c : Choice P) (w : WithCommon P) → Each IsByItself (written same c w)
unfolding written
chosen_alone same c w = units_nowhere c (expanded same w) (expanded_kinds same w)
