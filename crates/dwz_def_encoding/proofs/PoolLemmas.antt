-- Texts that stand one after the other.
use Rattle.std.proofs.Common.{◌≡◌, ℕ, zero, suc, ◌+◌, ◌/◌, Bool, true, false, List, [], ◌∷◌, ◌++◌, length, Some, None, refl, sym, ap, subst, ◌∙◌, arith}
use Rattle.std.proofs.Math.Logic.{inl, inr}
use Rattle.std.proofs.lemmas.List.{append_assoc, length-append}
use Rattle.dwz_def_reading.specs.Spelling.{group_count, le_bytes, padded, uleb}
use Rattle.dwz_def_reading.specs.Documents.{Attr, DwUnit, Entries, File, Plain}
use Rattle.dwz_def_reading.specs.LineTables.{nth_path}
use Rattle.dwz_def_reading.specs.LinesWritten.{AreTexts, with_row_0}
use Rattle.dwz_def_reading.specs.Lists.{Each, In}
use Rattle.dwz_def_reading.specs.Classes.{OfTextBySlot, OfTextInLineStr, OfTextInStr}
use Rattle.dwz_def_reading.specs.Classes.{Class, class_of}
use Rattle.dwz_def_reading.specs.Texts.{IsTextAt, NoZero}
use Rattle.dwz_def_reading.specs.Trees.{End, Entry}
use Rattle.dwz_def_reading.specs.Values.{AreBytes}
use Rattle.dwz_def_reading.proofs.ListFacts.{in_left, in_right}
use Rattle.dwz_def_tops.specs.Spots.{same_numbers}
use Rattle.dwz_def_encoding.specs.Carried.{AttrPaths, AttrTexts, PathAs, TextAs, UnitPaths, UnitTexts}
use Rattle.dwz_def_encoding.specs.Fitting.{EachAttr}
use Rattle.dwz_def_encoding.specs.Placing.{add_unless, attr_path, attr_text, attrs_with, entries_with, has_text, path_as, path_index, paths_of, text_as, text_place, texts_bytes, texts_of, units_with}
use Rattle.dwz_def_encoding.specs.Placing.{with_common_text}
use Rattle.dwz_def_encoding.specs.Writing.{text_or_empty}
use Rattle.dwz_def_tops.proofs.SpotLemmas.{numbers_same, numbers_true}

pub le_are : (k n : ℕ) → AreBytes (le_bytes k n)
unfolding le_bytes
le_are zero n = tt
le_are (suc k) n = (omega arith, le_are k (n / 256))

padded_are : (k n : ℕ) → AreBytes (padded k n)
unfolding padded
padded_are zero n = tt
padded_are (suc zero) n = (omega arith, tt)
padded_are (suc (suc k)) n = (omega arith, padded_are (suc k) (n / 128))

pub uleb_are : (n : ℕ) → AreBytes (uleb n)
uleb_are n = padded_are (group_count n) n

-- a text that is one of them stands at its place
pub pool_stands : (texts : List (List ℕ)) (text : List ℕ) → In text texts → NoZero text → IsTextAt (texts_bytes texts) (text_place texts text) text
unfolding texts_bytes text_place
pool_stands [] text there none = absurd there
pool_stands (t ∷ texts) text there none = by (λ r. pool_stands texts text r none) (same_numbers t text) refl where
  by : (In text texts → IsTextAt (texts_bytes texts) (text_place texts text) text) → (b : Bool) → same_numbers t text ≡ b
      → IsTextAt (t ++ 0 ∷ texts_bytes texts) (elim b as (λ _. ℕ) [ true ↦ 0 | false ↦ length t + 1 + text_place texts text ]) text
  by rest true e = (let same = numbers_true t text e in record {
    before = [];
    front = text ++ 0 ∷ [];
    after = texts_bytes texts;
    spelled = record { no_zero = none; parts = refl };
    length_before = refl;
    parts = ap (λ (w : List ℕ). w ++ 0 ∷ texts_bytes texts) same ∙ sym (append_assoc text (0 ∷ []) (texts_bytes texts));
  })
  by rest false e = elim there [
    | inl i ↦ absurd (let yes : same_numbers t text ≡ true = subst (λ (y : List ℕ). same_numbers t y ≡ true) i (numbers_same t) in cc)
    | inr r ↦
        (let s = rest r in
        record {
          before = t ++ 0 ∷ s.before;
          front = s.front;
          after = s.after;
          spelled = s.spelled;
          length_before = omega (arith, length-append t (0 ∷ s.before), s.length_before);
          parts = ap (λ (w : List ℕ). t ++ 0 ∷ w) s.parts ∙ sym (append_assoc t (0 ∷ s.before) (s.front ++ s.after));
        })
  ]

-- ---- each text of units is one of their texts

keeps_text : (texts : List (List ℕ)) (text x : List ℕ) → In x texts → In x (with_common_text texts text)
keeps_text texts text x there = by (has_text texts text) where
  by : (b : Bool) → In x (add_unless b texts text)
  by true = there
  by false = in_left x texts (text ∷ []) there

-- what is one of these texts is one of those
abbrev Among : List (List ℕ) → List (List ℕ) → Type 0
Among few many = (x : List ℕ) → In x few → In x many

pub text_has : (texts : List (List ℕ)) (text : List ℕ) → has_text texts text ≡ true → In text texts
unfolding has_text
text_has [] text e = absurd cc
text_has (t ∷ texts) text e = by (λ r. text_has texts text r) (same_numbers t text) refl e where
  by : (has_text texts text ≡ true → In text texts) → (b : Bool) → same_numbers t text ≡ b → (elim b as (λ _. Bool) [ true ↦ true | false ↦ has_text texts text ]) ≡ true → In text (t ∷ texts)
  by rest true p q = inl (numbers_true t text p)
  by rest false p q = inr (rest q)

has_added : (texts : List (List ℕ)) (text : List ℕ) → In text (with_common_text texts text)
has_added texts text = by (has_text texts text) refl where
  by : (b : Bool) → has_text texts text ≡ b → In text (add_unless b texts text)
  by true e = text_has texts text e
  by false e = in_right text texts (text ∷ []) (inl refl)

-- ---- what is found in units

module _ {K : Type 0} (add : List (List ℕ) → Attr K → List (List ℕ)) (P : List (List ℕ) → Attr K → Type 0) (keeps : (found : List (List ℕ)) (a : Attr K) → Among found (add found a))
    (more : (few many : List (List ℕ)) (a : Attr K) → Among few many → P few a → P many a) (has : (found : List (List ℕ)) (a : Attr K) → P (add found a) a) where
  keeps_attrs : (found : List (List ℕ)) (attrs : List (Attr K)) → Among found (attrs_with add found attrs)
  unfolding attrs_with
  keeps_attrs found [] x there = there
  keeps_attrs found (a ∷ attrs) x there = keeps_attrs (add found a) attrs x (keeps found a x there)

  keeps_entries : (found : List (List ℕ)) (g : Entries K) → Among found (entries_with add found g)
  unfolding entries_with
  keeps_entries found End x there = there
  keeps_entries found (Entry e children next) x there =
      keeps_entries (entries_with add (attrs_with add found e.attrs) children) next x (keeps_entries (attrs_with add found e.attrs) children x (keeps_attrs found e.attrs x there))

  keeps_units : (found : List (List ℕ)) (units : List (DwUnit K)) → Among found (units_with add found units)
  unfolding units_with
  keeps_units found [] x there = there
  keeps_units found (u ∷ units) x there =
      keeps_units (entries_with add (attrs_with add found u.root.attrs) u.below) units x (keeps_entries (attrs_with add found u.root.attrs) u.below x (keeps_attrs found u.root.attrs x there))

  more_attrs : (few many : List (List ℕ)) (attrs : List (Attr K)) → Among few many → Each (P few) attrs → Each (P many) attrs
  more_attrs few many [] there is = tt
  more_attrs few many (a ∷ attrs) there is = (more few many a there is.0, more_attrs few many attrs there is.1)

  more_entries : (few many : List (List ℕ)) (g : Entries K) → Among few many → EachAttr (P few) g → EachAttr (P many) g
  more_entries few many End there is = tt
  more_entries few many (Entry e children next) there is = (more_attrs few many e.attrs there is.0, more_entries few many children there is.1, more_entries few many next there is.2)

  has_attrs : (found : List (List ℕ)) (attrs : List (Attr K)) → Each (P (attrs_with add found attrs)) attrs
  unfolding attrs_with
  has_attrs found [] = tt
  has_attrs found (a ∷ attrs) = (more (add found a) (attrs_with add (add found a) attrs) a (keeps_attrs (add found a) attrs) (has found a), has_attrs (add found a) attrs)

  has_entries : (found : List (List ℕ)) (g : Entries K) → EachAttr (P (entries_with add found g)) g
  unfolding entries_with
  has_entries found End = tt
  has_entries found (Entry e children next) =
      let one = attrs_with add found e.attrs in
      let two = entries_with add one children in (
        more_attrs one (entries_with add two next) e.attrs (λ x there. keeps_entries two next x (keeps_entries one children x there)) (has_attrs found e.attrs),
        more_entries two (entries_with add two next) children (keeps_entries two next) (has_entries one children),
        has_entries two next,
      )

  -- what each attribute has is found
  has_units : (found : List (List ℕ)) (units : List (DwUnit K)) → Each (λ u. Each (P (units_with add found units)) u.root.attrs × EachAttr (P (units_with add found units)) u.below) units
  unfolding units_with
  has_units found [] = tt
  has_units found (u ∷ units) =
      let one = attrs_with add found u.root.attrs in
      let two = entries_with add one u.below in (
        (
          more_attrs one (units_with add two units) u.root.attrs (λ x there. keeps_units two units x (keeps_entries one u.below x there)) (has_attrs found u.root.attrs),
          more_entries two (units_with add two units) u.below (keeps_units two units) (has_entries one u.below),
        ),
        has_units two units,
      )

-- what is found is as it was, where no attribute adds anything else
module _ {K : Type 0} (add : List (List ℕ) → Attr K → List (List ℕ)) (Good : List (List ℕ) → Type 0) (C : Attr K → Type 0)
    (step : (found : List (List ℕ)) (a : Attr K) → C a → Good found → Good (add found a)) where
  good_attrs : (found : List (List ℕ)) (attrs : List (Attr K)) → Each C attrs → Good found → Good (attrs_with add found attrs)
  unfolding attrs_with
  good_attrs found [] are good = good
  good_attrs found (a ∷ attrs) are good = good_attrs (add found a) attrs are.1 (step found a are.0 good)

  good_entries : (found : List (List ℕ)) (g : Entries K) → EachAttr C g → Good found → Good (entries_with add found g)
  unfolding entries_with
  good_entries found End are good = good
  good_entries found (Entry e children next) are good =
      good_entries (entries_with add (attrs_with add found e.attrs) children) next are.2 (good_entries (attrs_with add found e.attrs) children are.1 (good_attrs found e.attrs are.0 good))

  pub good_units : (found : List (List ℕ)) (units : List (DwUnit K)) → Each (λ u. Each C u.root.attrs × EachAttr C u.below) units → Good found → Good (units_with add found units)
  unfolding units_with
  good_units found [] are good = good
  good_units found (u ∷ units) are good =
      good_units (entries_with add (attrs_with add found u.root.attrs) u.below) units are.1
      (good_entries (attrs_with add found u.root.attrs) u.below are.0.1 (good_attrs found u.root.attrs are.0.0 good))

-- ---- texts

module _ {K : Type 0} where
  keeps_as : (c : Class) (texts : List (List ℕ)) (a : Attr K) → Among texts (text_as c texts a)
  keeps_as OfTextInStr texts a x there = keeps_text texts (text_or_empty a.value.plain) x there
  keeps_as OfTextInLineStr texts a x there = keeps_text texts (text_or_empty a.value.plain) x there
  keeps_as OfTextBySlot texts a x there = keeps_text texts (text_or_empty a.value.plain) x there
  keeps_as _ texts a x there = there

  more_as : (c : Class) (few many : List (List ℕ)) (a : Attr K) → Among few many → TextAs c few a → TextAs c many a
  more_as OfTextInStr few many a more is = more (text_or_empty a.value.plain) is
  more_as OfTextInLineStr few many a more is = more (text_or_empty a.value.plain) is
  more_as OfTextBySlot few many a more is = more (text_or_empty a.value.plain) is
  more_as _ few many a more is = tt

  has_as : (c : Class) (texts : List (List ℕ)) (a : Attr K) → TextAs c (text_as c texts a) a
  has_as OfTextInStr texts a = has_added texts (text_or_empty a.value.plain)
  has_as OfTextInLineStr texts a = has_added texts (text_or_empty a.value.plain)
  has_as OfTextBySlot texts a = has_added texts (text_or_empty a.value.plain)
  has_as _ texts a = tt

  pub units_texts : (texts : List (List ℕ)) (units : List (DwUnit K)) → Each (UnitTexts (texts_of texts units)) units
  units_texts texts units =
      has_units attr_text AttrTexts (λ found a. keeps_as (class_of a.form) found a) (λ few many a more is. more_as (class_of a.form) few many a more is) (λ found a. has_as (class_of a.form) found a)
      texts units

-- ---- paths

keeps_path : (plain : Plain) (paths : List (List ℕ)) → Among paths (path_as plain paths)
keeps_path (File (Some path)) paths x there = keeps_text paths path x there
keeps_path (File None) paths x there = there
keeps_path _ paths x there = there

more_path : (plain : Plain) (few many : List (List ℕ)) → Among few many → PathAs plain few → PathAs plain many
more_path (File (Some path)) few many more is = more path is
more_path (File None) few many more is = tt
more_path _ few many more is = tt

has_path : (plain : Plain) (paths : List (List ℕ)) → PathAs plain (path_as plain paths)
has_path (File (Some path)) paths = has_added paths path
has_path (File None) paths = tt
has_path _ paths = tt

pub units_paths : {K : Type 0} (paths : List (List ℕ)) (units : List (DwUnit K)) → Each (UnitPaths (paths_of paths units)) units
units_paths paths units =
    has_units attr_path AttrPaths (λ found a. keeps_path a.value.plain found) (λ few many a more is. more_path a.value.plain few many more is) (λ found a. has_path a.value.plain found) paths units

-- a path of an attribute has no zero byte
abbrev pub PathText : Plain → Type 0
PathText (File (Some path)) = NoZero path
PathText _ = Unit {0}

texts_append : (a : List (List ℕ)) (text : List ℕ) → AreTexts a → NoZero text → AreTexts (a ++ text ∷ [])
texts_append [] text h k = (k, tt)
texts_append (x ∷ a) text h k = (h.0, texts_append a text h.1 k)

text_added : (b : Bool) (paths : List (List ℕ)) (path : List ℕ) → NoZero path → AreTexts paths → AreTexts (add_unless b paths path)
text_added true paths path none are = are
text_added false paths path none are = texts_append paths path are none

path_added : (plain : Plain) (paths : List (List ℕ)) → PathText plain → AreTexts paths → AreTexts (path_as plain paths)
path_added (File (Some path)) paths none are = text_added (has_text paths path) paths path none are
path_added (File None) paths none are = are
path_added _ paths none are = are

-- so have all of them
pub paths_texts : {K : Type 0} (units : List (DwUnit K)) → Each (λ u. Each (λ a. PathText a.value.plain) u.root.attrs × EachAttr (λ a. PathText a.value.plain) u.below) units
    → AreTexts (paths_of [] units)
paths_texts units are = good_units attr_path AreTexts (λ a. PathText a.value.plain) (λ found a is good. path_added a.value.plain found is good) [] units are tt

-- a path that is one of them has its number
path_nth : (paths : List (List ℕ)) (path : List ℕ) → In path paths → nth_path paths (path_index paths path) ≡ Some path
unfolding nth_path path_index
path_nth [] path there = absurd there
path_nth (p ∷ paths) path there = by (λ r. path_nth paths path r) (same_numbers p path) refl where
  by : (In path paths → nth_path paths (path_index paths path) ≡ Some path) → (b : Bool) → same_numbers p path ≡ b
      → nth_path (p ∷ paths) (elim b as (λ _. ℕ) [ true ↦ 0 | false ↦ suc (path_index paths path) ]) ≡ Some path
  by rest true e = ap (λ (x : List ℕ). Some x) (numbers_true p path e)
  by rest false e = elim there [
    | inl i ↦ absurd (let is : same_numbers p path ≡ true = subst (λ (y : List ℕ). same_numbers p y ≡ true) i (numbers_same p) in cc)
    | inr r ↦ rest r
  ]

pub path_numbered : (paths : List (List ℕ)) (path : List ℕ) → In path paths → nth_path (with_row_0 paths) (suc (path_index paths path)) ≡ Some path
unfolding nth_path
path_numbered [] path there = absurd there
path_numbered (p ∷ paths) path there = path_nth (p ∷ paths) path there
