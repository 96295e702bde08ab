-- The texts of an entry, attribute by attribute.
use Rattle.std.proofs.Common.{◌≡◌, ℕ, suc, ◌+◌, Bool, true, false, List, [], ◌∷◌, ◌&&◌, not, map, Ok, Option, None, Some, slice_get, refl, sym, ap, subst, ◌∙◌, cond, eqb, eqb-true, arith}
use Rattle.std.specs.List.{filter}
use Rattle.std.proofs.lemmas.Bool.{eqb-false}
use Rattle.dwz_def_reading.specs.Reading.{◌>>=◌}
use Rattle.dwz_def_reading.specs.Entries.{RawAttr}
use Rattle.dwz_def_reading.proofs.PartLemmas.{bind_ok}
use Rattle.dwz_def_reading.specs.Documents.{Attr, Kind, attr_map}
use Rattle.dwz_def_reading.specs.Meanings.{MeaningContext, without_siblings}
use Rattle.dwz_def_reading.specs.Classes.{OfTextBySlot, OfTextInLineStr, OfTextInStr}
use Rattle.dwz_def_reading.specs.Classes.{Class, class_of}
use Rattle.dwz_def_reading.specs.Meant.{attr_with, attrs_meaning, meaning, with_attr}
use Rattle.dwz_def_tops.specs.Seen.{IsPartial}
use Rattle.dwz_def_tops.specs.Spots.{EntryName}
use Rattle.dwz_graph.proofs.StepLemmas.{skipped, taken}
use Rattle.dwz_def_encoding.specs.Placing.{UnitForms, holder_of}
use Rattle.dwz_layout.specs.declared.known.EntryTable.{EntryTable}
use Rattle.dwz_layout.specs.declared.known.TextAt.{TextAt}
use Rattle.dwz_layout.specs.Known.{text_at}
use Rattle.dwz_layout_numbers.specs.Befores.{is_pair_placed}
use Rattle.dwz_layout_numbers.specs.Befores as known
use Rattle.dwz_law_layout.specs.Knows.{EachFrom, IsText, is_placed, texts_in}
use Rattle.dwz_law_layout.proofs.FormWays.{is_read}
use Rattle.dwz_encode_texts.specs.Texts.{own_text, own_texts}
use Rattle.dwz_encode_texts.proofs.FormTexts.{text_stands}

-- both words say the same of a class
same_placed : (c : Class) → known.is_placed c ≡ is_placed c
same_placed OfTextInStr = refl
same_placed OfTextInLineStr = refl
same_placed OfTextBySlot = refl
same_placed _ = refl

placed_read : (c : Class) → is_placed c ≡ true → is_read c ≡ true
placed_read OfTextInStr e = refl
placed_read OfTextInLineStr e = refl
placed_read OfTextBySlot e = refl
placed_read _ e = absurd cc

module _ (offsets : List ℕ) (base : Option ℕ) where
  -- a value that is such a text, and one that isn't
  own_first : (a : RawAttr) (attrs : List RawAttr) → is_pair_placed a.pair ≡ true → own_texts offsets base (a ∷ attrs) ≡ own_text offsets base a ∷ own_texts offsets base attrs
  own_first a attrs e = ap (λ (b : Bool). map (own_text offsets base) (cond b (a ∷ filter (λ x. is_pair_placed x.pair) attrs) (filter (λ x. is_pair_placed x.pair) attrs))) e

  own_rest : (a : RawAttr) (attrs : List RawAttr) → is_pair_placed a.pair ≡ false → own_texts offsets base (a ∷ attrs) ≡ own_texts offsets base attrs
  own_rest a attrs e = ap (λ (b : Bool). map (own_text offsets base) (cond b (a ∷ filter (λ x. is_pair_placed x.pair) attrs) (filter (λ x. is_pair_placed x.pair) attrs))) e

  module _ (ft : UnitForms EntryName) (shared : ft.shared ≡ []) (offsets_are : ft.offsets ≡ offsets) (kind : Kind EntryName) (holder : ft.holder ≡ holder_of false kind)
      (slots : IsPartial kind → ft.origin_bases.slots ≡ base) (k : EntryTable) (n : ℕ) (after : ℕ → EntryName) (s : MeaningContext ℕ) where
    -- they stand from a number on
    abbrev pub Stand : ℕ → List RawAttr → Type 0
    Stand m attrs = (j : ℕ) (t : TextAt) → slice_get (own_texts offsets base attrs) j ≡ Some t → text_at k n (m + j) ≡ t

    abbrev pub Are : ℕ → List (Attr ℕ) → Type 0
    Are m ds = EachFrom (λ j a. IsText ft None a (text_at k n j)) m (texts_in (map (attr_map after) ds))

    abbrev Holds : List RawAttr → Type 0
    Holds attrs = (ds : List (Attr ℕ)) (m : ℕ) → attrs_meaning s (without_siblings attrs) ≡ Ok ds → Stand m attrs → Are m ds

    none : Holds []
    unfolding attrs_meaning without_siblings
    none ds m means stand = let e : [] ≡ ds = cc in subst (Are m) e tt

    later : (m : ℕ) (a : RawAttr) (attrs : List RawAttr) → is_pair_placed a.pair ≡ true → Stand m (a ∷ attrs) → Stand (m + 1) attrs
    later m a attrs e stand = λ j t h. (
        let at : m + 1 + j ≡ m + suc j = omega arith in
        ap (text_at k n) at ∙ stand (suc j) t (ap (λ (w : List TextAt). slice_get w (suc j)) (own_first a attrs e) ∙ h))

    same : (m : ℕ) (a : RawAttr) (attrs : List RawAttr) → is_pair_placed a.pair ≡ false → Stand m (a ∷ attrs) → Stand m attrs
    same m a attrs e stand = λ j t h. stand j t (ap (λ (w : List TextAt). slice_get w j) (own_rest a attrs e) ∙ h)

    -- a value that means something
    value : (a : RawAttr) (attrs : List RawAttr) → Holds attrs → (v : _) (ds : List (Attr ℕ)) (m : ℕ) → (a.pair.name ≡ 0x01 → ⊥) → eqb a.pair.name 0x01 ≡ false
        → attrs_meaning s (without_siblings attrs) ≡ Ok ds → Stand m (a ∷ attrs) → (b : Bool) → is_placed (class_of a.pair.form) ≡ b → Are m (attr_with a v ∷ ds)
    value a attrs rest v ds m other t means stand true p =
        let own : is_pair_placed a.pair ≡ true = (λ i. not (t i) && (same_placed (class_of a.pair.form) ∙ p) i) in
        let zero_more : m ≡ m + 0 = omega arith in
        let first : text_at k n m ≡ own_text offsets base a =
        ap (text_at k n) zero_more ∙ stand 0 (own_text offsets base a) (ap (λ (w : List TextAt). slice_get w 0) (own_first a attrs own)) in
        let x = attr_map after (attr_with a v) in
        subst (λ (b : Bool). EachFrom (λ j y. IsText ft None y (text_at k n j)) m (cond b (x ∷ texts_in (map (attr_map after) ds)) (texts_in (map (attr_map after) ds)))) (sym p) (
          subst (λ (w : TextAt). IsText ft None x w) (sym first) (text_stands ft shared offsets offsets_are base kind holder slots x (placed_read (class_of a.pair.form) p) other),
          rest ds (m + 1) means (later m a attrs own stand),
        )
    value a attrs rest v ds m other t means stand false p =
        let own : is_pair_placed a.pair ≡ false = (λ i. not (t i) && (same_placed (class_of a.pair.form) ∙ p) i) in
        let x = attr_map after (attr_with a v) in
        subst (λ (b : Bool). EachFrom (λ j y. IsText ft None y (text_at k n j)) m (cond b (x ∷ texts_in (map (attr_map after) ds)) (texts_in (map (attr_map after) ds)))) (sym p)
        (rest ds m means (same m a attrs own stand))

    one : (a : RawAttr) (attrs : List RawAttr) → Holds attrs → (ds : List (Attr ℕ)) (m : ℕ) → (a.pair.name ≡ 0x01 → ⊥) → eqb a.pair.name 0x01 ≡ false
        → attrs_meaning s (a ∷ without_siblings attrs) ≡ Ok ds → Stand m (a ∷ attrs) → Are m ds
    unfolding attrs_meaning
    one a attrs rest ds m other t means stand =
        let x = bind_ok (meaning s a) (λ v. attrs_meaning s (without_siblings attrs) >>= with_attr a v) ds means in
        let y = bind_ok (attrs_meaning s (without_siblings attrs)) (with_attr a x.0) ds x.2 in
        let z : attr_with a x.0 ∷ y.0 ≡ ds = cc in
        subst (Are m) z (value a attrs rest x.0 y.0 m other t y.1 stand (is_placed (class_of a.pair.form)) refl)

    by_name : (a : RawAttr) (attrs : List RawAttr) → Holds attrs → (ds : List (Attr ℕ)) (m : ℕ) → attrs_meaning s (without_siblings (a ∷ attrs)) ≡ Ok ds → Stand m (a ∷ attrs)
        → (t : Bool) → eqb a.pair.name 0x01 ≡ t → Are m ds
    by_name a attrs rest ds m means stand true t =
        let skip = skipped a attrs (eqb-true a.pair.name 0x01 t) in
        let own : is_pair_placed a.pair ≡ false = ap (λ (b : Bool). not b && known.is_placed (class_of a.pair.form)) t in
        rest ds m (ap (attrs_meaning s) (sym skip) ∙ means) (same m a attrs own stand)
    by_name a attrs rest ds m means stand false t =
        let other : a.pair.name ≡ 0x01 → ⊥ = eqb-false a.pair.name 0x01 t in
        one a attrs rest ds m other t (ap (attrs_meaning s) (sym (taken a attrs other)) ∙ means) stand

    pub attrs_are : (attrs : List RawAttr) → Holds attrs
    attrs_are [] = none
    attrs_are (a ∷ attrs) = λ ds m means stand. by_name a attrs (attrs_are attrs) ds m means stand (eqb a.pair.name 0x01) refl
