-- References, texts and numbers of files whose forms are chosen are sound, and say what their forms say.
use Rattle.std.proofs.Common.{◌≡◌, ℕ, ℤ, pos, ◌<◌, ◌^◌, List, [], ◌∷◌, length, refl, sym, ap, subst, ◌∙◌, arith, Bool, true, false, suc}
use Rattle.std.proofs.Math.Logic.{inl, inr}
use Rattle.dwz_def_reading.specs.Documents.{Attr, Value}
use Rattle.dwz_def_reading.specs.Lists.{Each, In}
use Rattle.dwz_def_reading.specs.Classes.{OfCommonEntry, OfCommonText, OfConstant, OfInfoEntry, OfTextInStr, OfUnitEntry, Unread}
use Rattle.dwz_def_reading.specs.Classes.{Class, class_in, class_of, class_rows}
use Rattle.dwz_def_reading.specs.Spelling.{le_bytes, uleb}
use Rattle.dwz_def_reading.proofs.FixedLemmas.{fixed_written}
use Rattle.dwz_def_reading.specs.Forms.{form_rows}
use Rattle.dwz_def_reading.specs.LineTables.{FileTable, IsFileTable, TextSections}
use Rattle.dwz_def_reading.specs.Values.{Number, SpellsShape, constant_of, shape_of, written_rows}
use Rattle.dwz_def_encoding.specs.Meant.{AttrSays, Own, SaysAs, Tells}
use Rattle.dwz_def_encoding.specs.Placing.{InCommon, InFile, InUnit, Reach, UnitForms}
use Rattle.dwz_def_encoding.specs.Placing.{fit_attr, has_key, lines_bytes, path_index, reach_by, reach_of, ref_form, with_form}
use Rattle.dwz_def_encoding.specs.Sound.{HasBytes, SoundAttr, StoresAs}
use Rattle.dwz_def_encoding.proofs.Carrying.{Reference}
use Rattle.dwz_def_reading.proofs.LinesWritten.{header_many, header_table}
use Rattle.dwz_def_reading.specs.LinesWritten.{AreTexts, with_row_0}
use Rattle.dwz_def_reading.specs.ElfLayout.{too_large}
use Rattle.dwz_def_reading.proofs.PaddedLemmas.{uleb_spells}
use Rattle.dwz_def_tops.specs.Spots.{same_numbers}
use Rattle.dwz_def_tops.proofs.SpotLemmas.{numbers_same}
use Rattle.dwz_def_encoding.specs.Writing.{pair_of}
use Rattle.dwz_def_encoding.proofs.PoolLemmas.{le_are, uleb_are}

-- ---- the three forms

unit_class : class_of 0x13 ≡ OfUnitEntry
unfolding class_rows class_in
unit_class = refl

info_class : class_of 0x10 ≡ OfInfoEntry
unfolding class_rows class_in
info_class = refl

common_class : class_of 0x1c ≡ OfCommonEntry
unfolding class_rows class_in
common_class = refl

pub str_class : class_of 0x0e ≡ OfTextInStr
unfolding class_rows class_in
str_class = refl

pub common_text_class : class_of 0x1d ≡ OfCommonText
unfolding class_rows class_in
common_text_class = refl

-- a reference with one of the forms
abbrev pub chosen : {K : Type 0} → Attr K → ℕ → Attr K
chosen a form = with_form a (record { form = form; raw = a.raw })

module _ {K : Type 0} (a : Attr K) (r : Reference a) where
  sound_as : (form : ℕ) (c : Class) → class_of form ≡ c → (form ≡ 0x21 → ⊥) → (c ≡ Unread → ⊥) → StoresAs c (chosen a form) → SoundAttr (chosen a form)
  sound_as form c e other known stores = record {
    some_name = r.some_name;
    name_fits = r.name_fits;
    no_sibling = r.no_sibling;
    known = λ u. known (sym e ∙ u);
    constant = λ is. absurd (other is);
    value = subst (λ (d : Class). StoresAs d (chosen a form)) (sym e) stores;
  }

  pub chosen_sound : (x : Reach) → SoundAttr (chosen a (ref_form x))
  chosen_sound InUnit = sound_as 0x13 OfUnitEntry unit_class (λ e. omega (arith, e)) (λ u. cc) (record { form = refl; target = r.target; value = r.value })
  chosen_sound InFile = sound_as 0x10 OfInfoEntry info_class (λ e. omega (arith, e)) (λ u. cc) (record { form = refl; target = r.target; value = r.value })
  chosen_sound InCommon = sound_as 0x1c OfCommonEntry common_class (λ e. omega (arith, e)) (λ u. cc) (record { form = refl; target = r.target; value = r.value })

  pub refs_are : a.value.refs ≡ r.target ∷ []
  refs_are = ap (λ (v : Value K). v.refs) r.value

  says_as : (t : Tells K) (own : Own K) (form : ℕ) (c : Class) → class_of form ≡ c → SaysAs c t own (chosen a form) → AttrSays t own (chosen a form)
  says_as t own form c e says = subst (λ (d : Class). SaysAs d t own (chosen a form)) (sym e) says

  pub unit_says_it : (t : Tells K) (own : Own K) → In r.target own.keys → AttrSays t own (chosen a 0x13)
  unit_says_it t own there = says_as t own 0x13 OfUnitEntry unit_class (subst (Each (λ k. In k own.keys)) (sym refs_are) (there, tt))

  pub info_says_it : (t : Tells K) (own : Own K) → In r.target t.all → AttrSays t own (chosen a 0x10)
  info_says_it t own there = says_as t own 0x10 OfInfoEntry info_class (subst (Each (λ k. In k t.all)) (sym refs_are) (there, tt))

  pub common_says_it : (t : Tells K) (own : Own K) → In r.target t.common → AttrSays t own (chosen a 0x1c)
  common_says_it t own there = says_as t own 0x1c OfCommonEntry common_class (subst (Each (λ k. In k t.common)) (sym refs_are) (there, tt))

  pub form_is : (f : UnitForms K) → fit_attr f a ≡ chosen a (ref_form (reach_by (has_key f.same r.target f.own) (has_key f.same r.target f.keys)))
  form_is f = r.chosen f ∙ ap (λ (ks : List K). chosen a (ref_form (reach_of f ks))) refs_are

-- ---- texts

pub strp_spelled : (number : ℤ) (x : ℕ) → x < 2 ^ 32 → SpellsShape (shape_of written_rows 0x0e) number (le_bytes 4 x) (Number (pos x))
unfolding form_rows
strp_spelled number x lt = record { content = x; spelled = fixed_written 4 x (omega (arith, lt)); value = refl }

pub strp_bytes : {K : Type 0} (a : Attr K) (x : ℕ) → a.form ≡ 0x0e → x < 2 ^ 32 → HasBytes a (Number (pos x))
strp_bytes a x e lt = record {
  bytes = le_bytes 4 x;
  are_bytes = le_are 4 x;
  spelled = subst (λ (f : ℕ). SpellsShape (shape_of written_rows f) (constant_of (pair_of a)) (le_bytes 4 x) (Number (pos x))) (sym e) (strp_spelled (constant_of (pair_of a)) x lt);
}

-- the same in DW_FORM_strp_sup
sup_spelled : (number : ℤ) (x : ℕ) → x < 2 ^ 32 → SpellsShape (shape_of written_rows 0x1d) number (le_bytes 4 x) (Number (pos x))
unfolding form_rows
sup_spelled number x lt = record { content = x; spelled = fixed_written 4 x (omega (arith, lt)); value = refl }

pub sup_bytes : {K : Type 0} (a : Attr K) (x : ℕ) → a.form ≡ 0x1d → x < 2 ^ 32 → HasBytes a (Number (pos x))
sup_bytes a x e lt = record {
  bytes = le_bytes 4 x;
  are_bytes = le_are 4 x;
  spelled = subst (λ (f : ℕ). SpellsShape (shape_of written_rows f) (constant_of (pair_of a)) (le_bytes 4 x) (Number (pos x))) (sym e) (sup_spelled (constant_of (pair_of a)) x lt);
}

-- ---- files of the common file

pub udata_class : class_of 0x0f ≡ OfConstant
unfolding class_rows class_in
udata_class = refl

udata_spelled : (number : ℤ) (n : ℕ) → n < 2 ^ 64 → SpellsShape (shape_of written_rows 0x0f) number (uleb n) (Number (pos n))
unfolding form_rows
udata_spelled number n lt = record { content = n; spelled = uleb_spells n lt; value = refl }

pub udata_bytes : {K : Type 0} (a : Attr K) (n : ℕ) → a.form ≡ 0x0f → n < 2 ^ 64 → HasBytes a (Number (pos n))
udata_bytes a n e lt = record {
  bytes = uleb n;
  are_bytes = uleb_are n;
  spelled = subst (λ (f : ℕ). SpellsShape (shape_of written_rows f) (constant_of (pair_of a)) (uleb n) (Number (pos n))) (sym e) (udata_spelled (constant_of (pair_of a)) n lt);
}

index_less : (paths : List (List ℕ)) (path : List ℕ) → In path paths → path_index paths path < length paths
unfolding path_index
index_less [] path there = absurd there
index_less (p ∷ paths) path there = by (λ r. index_less paths path r) (same_numbers p path) refl where
  by : (In path paths → path_index paths path < length paths) → (b : Bool) → same_numbers p path ≡ b → (elim b as (λ _. ℕ) [ true ↦ 0 | false ↦ suc (path_index paths path) ]) < length (p ∷ paths)
  by rest true e = omega arith
  by rest false e = elim there [
    | inl i ↦ absurd (let is : same_numbers p path ≡ true = subst (λ (y : List ℕ). same_numbers p y ≡ true) i (numbers_same p) in cc)
    | inr r ↦ (let less = rest r in omega (arith, less))
  ]

-- the line table of paths, of which there is one
pub pool_table : (paths : List (List ℕ)) (path : List ℕ) → In path paths → AreTexts paths → length (lines_bytes paths) < too_large → (s : TextSections)
    → (t : FileTable) × IsFileTable s (lines_bytes paths) 0 t × ((t.paths ≡ with_row_0 paths) × (suc (path_index paths path) < 2 ^ 64))
pool_table [] path there are few s = absurd there
pool_table (p ∷ paths) path there are few s =
    let t = header_table (p ∷ paths) (omega arith) are few s in
    let less = index_less (p ∷ paths) path there in
    let many = header_many (p ∷ paths) (omega arith) are few in
    (t.0, t.1, (t.2, omega (arith, less, many)))
