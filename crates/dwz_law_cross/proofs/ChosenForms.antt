-- Which forms are chosen: none binds where the form that was read didn't, and those of the common file are such as it may have.
use Rattle.std.proofs.Common.{◌≡◌, ◌≢◌, ◌⊎◌, ℕ, Bool, true, false, List, [], ◌∷◌, ◌==◌, cond, map, refl, sym, ap, subst, ◌∙◌, arith, inl, inr}
use Rattle.std.specs.List.{list_all}
use Rattle.std.proofs.lemmas.Bool.{and_parts, eqb-true}
use Rattle.dwz_def_reading.specs.Rows.{has}
use Rattle.dwz_def_reading.specs.Lists.{Each, In}
use Rattle.dwz_def_reading.specs.Classes.{Class, ClassRow, OfAddress, OfBlock, OfCommonEntry, OfCommonText, OfConstant, OfExpression, OfFlag, OfIndex, OfInfoEntry, OfListIndex, OfOffset}
use Rattle.dwz_def_reading.specs.Classes.{OfSignature, OfText, OfTextBySlot, OfTextInLineStr, OfTextInStr, OfUnitEntry, Unread, class_in, class_of, class_rows, names_file}
use Rattle.dwz_def_reading.specs.Documents.{Attr, Entries}
use Rattle.dwz_def_reading.specs.Entries.{codes_of_all}
use Rattle.dwz_def_reading.specs.Modes.{binding_forms}
use Rattle.dwz_def_reading.specs.Trees.{End, Entry}
use Rattle.dwz_def_reading.specs.Spelling.{reach}
use Rattle.dwz_def_encoding.specs.Carried.{IsBuilt, IsBuiltAs}
use Rattle.dwz_def_encoding.specs.Fitting.{EachAttr}
use Rattle.dwz_def_encoding.specs.Placing.{Chosen, CommonUnit, InCommon, InFile, InUnit, NewUnit, OldUnit, Reach, UnitForms, UnitRole, as_constant, as_file, as_line_text, as_read, as_slot}
use Rattle.dwz_def_encoding.specs.Placing.{as_strp_if, as_text, fit, fit_as, fit_attr, has_key, has_text, reach_by, reach_of, ref_form, slot_number}
use Rattle.dwz_def_encoding.specs.Writing.{text_or_empty}
use Rattle.dwz_def_encoding.proofs.Chosen.{none_has}
use Rattle.dwz_def_encoding.proofs.Places.{IsSame}

-- ---- forms by their classes

pub told : (test : ℕ → Class → Bool) (rows : List ClassRow) (form : ℕ) → list_all (λ r. test r.form r.class) rows ≡ true → (class_in rows form ≡ Unread) ⊎ (test form (class_in rows form) ≡ true)
unfolding class_in
told test [] form e = inl refl
told test (r ∷ rows) form e =
    (let both = and_parts (test r.form r.class) (list_all (λ q. test q.form q.class) rows) e in by (r.form == form) refl both.0 (told test rows form both.1))
  where
    by : (b : Bool) → (r.form == form) ≡ b → test r.form r.class ≡ true → (class_in rows form ≡ Unread) ⊎ (test form (class_in rows form) ≡ true)
        → (cond b r.class (class_in rows form) ≡ Unread) ⊎ (test form (cond b r.class (class_in rows form)) ≡ true)
    by true e here rest = inr (subst (λ (n : ℕ). test n r.class ≡ true) (eqb-true r.form form e) here)
    by false e here rest = rest

-- the classes of forms that bind
abbrev pub is_binding : Class → Bool
is_binding OfAddress = true
is_binding OfOffset = true
is_binding OfListIndex = true
is_binding OfIndex = true
is_binding _ = false

-- those whose forms the common file may have, as they were read
abbrev is_plain : Class → Bool
is_plain OfBlock = true
is_plain OfConstant = true
is_plain OfFlag = true
is_plain OfText = true
is_plain OfSignature = true
is_plain OfExpression = true
is_plain _ = false

binds_as : ℕ → Class → Bool
binds_as form c = cond (is_binding c) (has form binding_forms) true

plain_as : ℕ → Class → Bool
plain_as form c = cond (is_plain c) (has form codes_of_all) true

all_bind : list_all (λ r. binds_as r.form r.class) class_rows ≡ true
unfolding class_rows has binds_as
all_bind = refl

all_plain : list_all (λ r. plain_as r.form r.class) class_rows ≡ true
unfolding class_rows has plain_as
all_plain = refl

class_binds : (form : ℕ) (c : Class) → class_of form ≡ c → is_binding c ≡ true → has form binding_forms ≡ true
unfolding binds_as
class_binds form c e is = elim (told binds_as class_rows form all_bind) [
  | inl u ↦ absurd (let no_ : is_binding Unread ≡ true = ap is_binding (sym u ∙ e) ∙ is in cc)
  | inr h ↦ sym (ap (λ (b : Bool). cond b (has form binding_forms) true) (ap is_binding e ∙ is)) ∙ h
]

class_plain : (form : ℕ) (c : Class) → class_of form ≡ c → is_plain c ≡ true → has form codes_of_all ≡ true
unfolding plain_as
class_plain form c e is = elim (told plain_as class_rows form all_plain) [
  | inl u ↦ absurd (let no_ : is_plain Unread ≡ true = ap is_plain (sym u ∙ e) ∙ is in cc)
  | inr h ↦ sym (ap (λ (b : Bool). cond b (has form codes_of_all) true) (ap is_plain e ∙ is)) ∙ h
]

-- a form that binds is of such a class
bound_all : list_all (λ k. is_binding (class_of k)) binding_forms ≡ true
unfolding class_rows class_in
bound_all = refl

found : (test : ℕ → Bool) (ks : List ℕ) (form : ℕ) → list_all test ks ≡ true → has form ks ≡ true → test form ≡ true
unfolding has
found test [] form all is = absurd cc
found test (k ∷ ks) form all is = (let both = and_parts (test k) (list_all test ks) all in by (k == form) refl both.0 is (found test ks form both.1)) where
  by : (b : Bool) → (k == form) ≡ b → test k ≡ true → cond b true (has form ks) ≡ true → (has form ks ≡ true → test form ≡ true) → test form ≡ true
  by true e here is rest = ap test (sym (eqb-true k form e)) ∙ here
  by false e here is rest = rest is

pub bound_class : (form : ℕ) → has form binding_forms ≡ true → is_binding (class_of form) ≡ true
bound_class form is = found (λ k. is_binding (class_of k)) binding_forms form bound_all is

-- ---- none binds that didn't

-- the form of the attribute doesn't bind
abbrev pub IsUnbound : {K : Type 0} → Attr K → Type 0
IsUnbound a = has a.form binding_forms ≡ false

module _ {K : Type 0} (x : UnitForms K) (a : Attr K) (is : IsUnbound a) where
  abbrev Still : Chosen → Type 0
  Still c = has c.form binding_forms ≡ false

  entry_still : (r : Reach) → has (ref_form r) binding_forms ≡ false
  unfolding has
  entry_still InUnit = refl
  entry_still InFile = refl
  entry_still InCommon = refl

  strp_still : (b : Bool) (at : ℕ) → Still (as_strp_if b x a at)
  unfolding has
  strp_still true at = refl
  strp_still false at = refl

  text_still : (h : UnitRole) → Still (as_text h x a)
  unfolding has
  text_still CommonUnit = refl
  text_still OldUnit = strp_still (has_text x.shared (text_or_empty a.value.plain)) (reach a.raw)
  text_still NewUnit = strp_still (has_text x.shared (text_or_empty a.value.plain)) (reach a.raw)

  line_still : (h : UnitRole) → Still (as_line_text h x a)
  unfolding has
  line_still CommonUnit = refl
  line_still OldUnit = is
  line_still NewUnit = is

  slot_still : (h : UnitRole) → Still (as_slot h x a)
  unfolding has
  slot_still CommonUnit = refl
  slot_still OldUnit = is
  slot_still NewUnit = strp_still (has_text x.shared (text_or_empty a.value.plain)) (slot_number x.offsets x.origin_bases.slots (reach a.raw))

  file_still : (h : UnitRole) → Still (as_file h x a)
  unfolding has
  file_still CommonUnit = refl
  file_still OldUnit = is
  file_still NewUnit = is

  constant_still : (b : Bool) → Still (as_constant b x a)
  constant_still true = file_still x.holder
  constant_still false = is

  as_still : (c : Class) → Still (fit_as c x a)
  as_still OfUnitEntry = entry_still (reach_of x a.value.refs)
  as_still OfInfoEntry = entry_still (reach_of x a.value.refs)
  as_still OfCommonEntry = entry_still (reach_of x a.value.refs)
  as_still OfTextInStr = text_still x.holder
  as_still OfTextInLineStr = line_still x.holder
  as_still OfTextBySlot = slot_still x.holder
  as_still OfConstant = constant_still (names_file a.name)
  as_still _ = is

  pub unbound_fit : IsUnbound (fit_attr x a)
  unbound_fit = as_still (class_of a.form)

-- ---- references within the file

module _ {K : Type 0} (x : UnitForms K) (same : IsSame x.same) where
  key_has : (k : K) → In k x.keys → has_key x.same k x.keys ≡ true
  key_has k there = by (has_key x.same k x.keys) refl where
    by : (b : Bool) → has_key x.same k x.keys ≡ b → b ≡ true
    by true e = refl
    by false e = absurd (none_has x.same same k x.keys there e)

  not_common : (own : Bool) → reach_by own true ≢ InCommon
  not_common true = λ e. cc
  not_common false = λ e. cc

  pub reaches : (refs : List K) → ((k : K) → In k refs → In k x.keys) → reach_of x refs ≢ InCommon
  reaches [] within = λ e. cc
  reaches (k ∷ refs) within = subst (λ (b : Bool). reach_by (has_key x.same k x.own) b ≢ InCommon) (sym (key_has k (within k (inl refl)))) (not_common (has_key x.same k x.own))

-- ---- in the common file

module _ {K : Type 0} (x : UnitForms K) (same : IsSame x.same) (held : x.holder ≡ CommonUnit) (a : Attr K) (free : IsUnbound a) (built : IsBuilt a.form)
    (within : (k : K) → In k a.value.refs → In k x.keys) where
  abbrev Fits : Chosen → Type 0
  Fits c = has c.form codes_of_all ≡ true

  entry_fits : (r : Reach) → r ≢ InCommon → has (ref_form r) codes_of_all ≡ true
  unfolding has
  entry_fits InUnit ne = refl
  entry_fits InFile ne = refl
  entry_fits InCommon ne = absurd (ne refl)

  text_fits : (h : UnitRole) → h ≡ CommonUnit → Fits (as_text h x a)
  unfolding has
  text_fits CommonUnit e = refl
  text_fits OldUnit e = absurd cc
  text_fits NewUnit e = absurd cc

  line_fits : (h : UnitRole) → h ≡ CommonUnit → Fits (as_line_text h x a)
  unfolding has
  line_fits CommonUnit e = refl
  line_fits OldUnit e = absurd cc
  line_fits NewUnit e = absurd cc

  slot_fits : (h : UnitRole) → h ≡ CommonUnit → Fits (as_slot h x a)
  unfolding has
  slot_fits CommonUnit e = refl
  slot_fits OldUnit e = absurd cc
  slot_fits NewUnit e = absurd cc

  file_fits : (h : UnitRole) → h ≡ CommonUnit → Fits (as_file h x a)
  unfolding has
  file_fits CommonUnit e = refl
  file_fits OldUnit e = absurd cc
  file_fits NewUnit e = absurd cc

  plain_fits : (c : Class) → class_of a.form ≡ c → is_plain c ≡ true → Fits (as_read a)
  plain_fits c e is = class_plain a.form c e is

  constant_fits : class_of a.form ≡ OfConstant → (b : Bool) → Fits (as_constant b x a)
  constant_fits e true = file_fits x.holder held
  constant_fits e false = plain_fits OfConstant e refl

  bound : {X : Type 0} (c : Class) → class_of a.form ≡ c → is_binding c ≡ true → X
  bound c e is = absurd (let no_ : true ≡ false = sym (class_binds a.form c e is) ∙ free in cc)

  as_fits : (c : Class) → class_of a.form ≡ c → IsBuiltAs c → Fits (fit_as c x a)
  as_fits OfUnitEntry e b = entry_fits (reach_of x a.value.refs) (reaches x same a.value.refs within)
  as_fits OfInfoEntry e b = entry_fits (reach_of x a.value.refs) (reaches x same a.value.refs within)
  as_fits OfCommonEntry e b = entry_fits (reach_of x a.value.refs) (reaches x same a.value.refs within)
  as_fits OfTextInStr e b = text_fits x.holder held
  as_fits OfTextInLineStr e b = line_fits x.holder held
  as_fits OfTextBySlot e b = slot_fits x.holder held
  as_fits OfConstant e b = constant_fits e (names_file a.name)
  as_fits OfBlock e b = plain_fits OfBlock e refl
  as_fits OfFlag e b = plain_fits OfFlag e refl
  as_fits OfText e b = plain_fits OfText e refl
  as_fits OfSignature e b = plain_fits OfSignature e refl
  as_fits OfExpression e b = plain_fits OfExpression e refl
  as_fits OfAddress e b = bound OfAddress e refl
  as_fits OfOffset e b = bound OfOffset e refl
  as_fits OfListIndex e b = bound OfListIndex e refl
  as_fits OfIndex e b = bound OfIndex e refl
  as_fits OfCommonText e b = absurd b
  as_fits Unread e b = absurd b

  pub common_fit : has (fit_attr x a).form codes_of_all ≡ true
  common_fit = as_fits (class_of a.form) refl built

-- ---- in a file that has nothing of a common one

-- no form leads to a supplementary file
abbrev pub IsOwn : ℕ → Type 0
IsOwn form = (form ≢ 0x1c) × (form ≢ 0x1d)

own_13 : IsOwn 0x13
own_13 = ((λ e. omega (arith, e)), (λ e. omega (arith, e)))

own_10 : IsOwn 0x10
own_10 = ((λ e. omega (arith, e)), (λ e. omega (arith, e)))

own_0e : IsOwn 0x0e
own_0e = ((λ e. omega (arith, e)), (λ e. omega (arith, e)))

own_0f : IsOwn 0x0f
own_0f = ((λ e. omega (arith, e)), (λ e. omega (arith, e)))

entry_class : class_of 0x1c ≡ OfCommonEntry
unfolding class_rows class_in
entry_class = refl

text_class : class_of 0x1d ≡ OfCommonText
unfolding class_rows class_in
text_class = refl

module _ {K : Type 0} (x : UnitForms K) (same : IsSame x.same) (none : x.shared ≡ []) (a : Attr K) (built : IsBuilt a.form) (within : (k : K) → In k a.value.refs → In k x.keys) where
  abbrev Own : Chosen → Type 0
  Own c = IsOwn c.form

  entry_own : (r : Reach) → r ≢ InCommon → IsOwn (ref_form r)
  entry_own InUnit ne = own_13
  entry_own InFile ne = own_10
  entry_own InCommon ne = absurd (ne refl)

  strp_own : (b : Bool) (at : ℕ) → b ≡ false → Own (as_strp_if b x a at)
  strp_own true at e = absurd cc
  strp_own false at e = own_0e

  no_text : has_text x.shared (text_or_empty a.value.plain) ≡ false
  unfolding has_text
  no_text = ap (λ (w : List (List ℕ)). has_text w (text_or_empty a.value.plain)) none

  read_own : (c : Class) → class_of a.form ≡ c → c ≢ OfCommonEntry → c ≢ OfCommonText → Own (as_read a)
  read_own c e p q = ((λ f. p (sym e ∙ ap class_of f ∙ entry_class)), (λ f. q (sym e ∙ ap class_of f ∙ text_class)))

  text_own : (h : UnitRole) → Own (as_text h x a)
  text_own CommonUnit = own_0e
  text_own OldUnit = strp_own (has_text x.shared (text_or_empty a.value.plain)) (reach a.raw) no_text
  text_own NewUnit = strp_own (has_text x.shared (text_or_empty a.value.plain)) (reach a.raw) no_text

  line_own : class_of a.form ≡ OfTextInLineStr → (h : UnitRole) → Own (as_line_text h x a)
  line_own e CommonUnit = own_0e
  line_own e OldUnit = read_own OfTextInLineStr e (λ q. cc) (λ q. cc)
  line_own e NewUnit = read_own OfTextInLineStr e (λ q. cc) (λ q. cc)

  slot_own : class_of a.form ≡ OfTextBySlot → (h : UnitRole) → Own (as_slot h x a)
  slot_own e CommonUnit = own_0e
  slot_own e OldUnit = read_own OfTextBySlot e (λ q. cc) (λ q. cc)
  slot_own e NewUnit = strp_own (has_text x.shared (text_or_empty a.value.plain)) (slot_number x.offsets x.origin_bases.slots (reach a.raw)) no_text

  file_own : class_of a.form ≡ OfConstant → (h : UnitRole) → Own (as_file h x a)
  file_own e CommonUnit = own_0f
  file_own e OldUnit = read_own OfConstant e (λ q. cc) (λ q. cc)
  file_own e NewUnit = read_own OfConstant e (λ q. cc) (λ q. cc)

  constant_own : class_of a.form ≡ OfConstant → (b : Bool) → Own (as_constant b x a)
  constant_own e true = file_own e x.holder
  constant_own e false = read_own OfConstant e (λ q. cc) (λ q. cc)

  as_own : (c : Class) → class_of a.form ≡ c → IsBuiltAs c → Own (fit_as c x a)
  as_own OfUnitEntry e b = entry_own (reach_of x a.value.refs) (reaches x same a.value.refs within)
  as_own OfInfoEntry e b = entry_own (reach_of x a.value.refs) (reaches x same a.value.refs within)
  as_own OfCommonEntry e b = entry_own (reach_of x a.value.refs) (reaches x same a.value.refs within)
  as_own OfTextInStr e b = text_own x.holder
  as_own OfTextInLineStr e b = line_own e x.holder
  as_own OfTextBySlot e b = slot_own e x.holder
  as_own OfConstant e b = constant_own e (names_file a.name)
  as_own OfBlock e b = read_own OfBlock e (λ q. cc) (λ q. cc)
  as_own OfFlag e b = read_own OfFlag e (λ q. cc) (λ q. cc)
  as_own OfText e b = read_own OfText e (λ q. cc) (λ q. cc)
  as_own OfSignature e b = read_own OfSignature e (λ q. cc) (λ q. cc)
  as_own OfExpression e b = read_own OfExpression e (λ q. cc) (λ q. cc)
  as_own OfAddress e b = read_own OfAddress e (λ q. cc) (λ q. cc)
  as_own OfOffset e b = read_own OfOffset e (λ q. cc) (λ q. cc)
  as_own OfListIndex e b = read_own OfListIndex e (λ q. cc) (λ q. cc)
  as_own OfIndex e b = read_own OfIndex e (λ q. cc) (λ q. cc)
  as_own OfCommonText e b = absurd b
  as_own Unread e b = absurd b

  pub own_fit : IsOwn (fit_attr x a).form
  own_fit = as_own (class_of a.form) refl built

-- ---- all attributes

module _ {K : Type 0} (x : UnitForms K) (P Q : Attr K → Type 0) (to : (a : Attr K) → P a → Q (fit_attr x a)) where
  pub fit_attrs : (attrs : List (Attr K)) → Each P attrs → Each Q (map (fit_attr x) attrs)
  fit_attrs [] h = tt
  fit_attrs (a ∷ attrs) h = (to a h.0, fit_attrs attrs h.1)

  pub fit_each : (g : Entries K) → EachAttr P g → EachAttr Q (fit x g)
  unfolding fit
  fit_each End h = tt
  fit_each (Entry e children next) h = (fit_attrs e.attrs h.0, fit_each children h.1, fit_each next h.2)
