-- Attributes, value by value.
use Rattle.std.proofs.Common.{◌≡◌, ℕ, ◌+◌, ◌≤◌, List, [], ◌∷◌, ◌++◌, length, map, drop, Ok, Some, slice_get, refl, sym, ap, subst, ◌∙◌, arith}
use Rattle.std.proofs.lemmas.List.{append-nil, append_assoc, drop-map, drop_all, drop_at, length-map}
use Rattle.dwz_def_reading.specs.Documents.{Attr, Value, attr_map, value_map}
use Rattle.dwz_def_reading.specs.Entries.{RawAttr}
use Rattle.dwz_def_reading.specs.Meanings.{MeaningContext, without_siblings}
use Rattle.dwz_def_reading.specs.Meant.{attr_with, attrs_meaning, meaning, with_attr}
use Rattle.dwz_def_reading.specs.Reading.{◌>>=◌}
use Rattle.dwz_def_reading.proofs.ListFacts.{drop_here}
use Rattle.dwz_def_reading.proofs.PartLemmas.{bind_ok}
use Rattle.dwz_graph.proofs.StepLemmas as Steps
use Rattle.dwz_graph.specs.Named.{attrs_refs, value_refs}
use Rattle.dwz_label.specs.Labels.{each_counted, number}
use Rattle.dwz_def_check.specs.CrossLabels.{cross_attr_label, cross_value_label, names_into}
use Rattle.dwz_def_check.specs.CrossNames.{CrossName}
use Rattle.dwz_check_labels.specs.Told.{Tells}
use Rattle.dwz_check_labels.specs.Values.{AreAttrsMeant, TellsAttr, TellsValue, attrs_into, attrs_label}
use Rattle.dwz_check_labels.proofs.ToldLemmas.{left_one}

module _ (s : MeaningContext ℕ) (place : ℕ → ℕ) where
  -- the first value means an attribute, and the references begin with those of what it names
  pub record NextAttr (refs : List ℕ) (a : RawAttr) (values : List RawAttr) (attrs : List (Attr ℕ)) : Type 0 where
    pub value : Value ℕ
    pub left : List (Attr ℕ)
    pub means : meaning s a ≡ Ok value
    pub parts : attrs ≡ attr_with a value ∷ left
    pub named : map place refs ≡ value_refs value ++ attrs_refs left
    pub rest : AreAttrsMeant s place (drop (length (value_refs value)) refs) values left

  pub next_attr : (refs : List ℕ) (a : RawAttr) (values : List RawAttr) (attrs : List (Attr ℕ)) → (a.pair.name ≡ 0x01 → ⊥) → AreAttrsMeant s place refs (a ∷ values) attrs
      → NextAttr refs a values attrs
  unfolding attrs_meaning
  next_attr refs a values attrs ne h =
      let e = ap (attrs_meaning s) (sym (Steps.taken a values ne)) ∙ h.means in
      let x = bind_ok (meaning s a) (λ v. attrs_meaning s (without_siblings values) >>= with_attr a v) attrs e in
      let y = bind_ok (attrs_meaning s (without_siblings values)) (with_attr a x.0) attrs x.2 in
      let z : attr_with a x.0 ∷ y.0 ≡ attrs = cc in
      let t : map place refs ≡ value_refs x.0 ++ attrs_refs y.0 = h.named ∙ ap (λ (w : List (Attr ℕ)). attrs_refs w) (sym z) in
      let n = length (value_refs x.0) in
      record {
        value = x.0;
        left = y.0;
        means = x.1;
        parts = sym z;
        named = t;
        rest = record {
          means = y.1;
          named = sym (drop-map place n refs) ∙ ap (λ (w : List ℕ). drop n w) t ∙ drop_at (value_refs x.0) (attrs_refs y.0) n refl;
        };
      }

  pub skipped : (a : RawAttr) (values : List RawAttr) (name : ℕ → CrossName) (attrs : List (Attr ℕ)) (refs old before : List ℕ) → a.pair.name ≡ 0x01 → AreAttrsMeant s place refs (a ∷ values) attrs
      → TellsAttr s place values name attrs refs old old before before
  skipped a values name attrs refs old before is h = record {
    left = attrs;
    rest = record { means = ap (attrs_meaning s) (sym (Steps.skipped a values is)) ∙ h.means; named = h.named };
    bytes = refl;
    tops = refl;
  }

  pub told : (a : RawAttr) (values : List RawAttr) (name : ℕ → CrossName) (attrs : List (Attr ℕ)) (refs others old one new before after : List ℕ) (x : NextAttr refs a values attrs)
      → one ≡ old ++ number a.pair.name → TellsValue name x.value refs others one new before after → TellsAttr s place values name attrs others old new before after
  told a values name attrs refs others old one new before after x is t =
      let rest = attrs_label name x.left in
      let here = cross_value_label (value_map name x.value) in
      record {
        left = x.left;
        rest = subst (λ (w : List ℕ). AreAttrsMeant s place w values x.left) (sym t.rest) x.rest;
        bytes = ap (λ (w : List ℕ). w ++ rest) (t.told.bytes ∙ ap (λ (w : List ℕ). w ++ here) is)
            ∙ append_assoc (old ++ number a.pair.name) here rest ∙ append_assoc old (number a.pair.name) (here ++ rest)
            ∙ ap (λ (w : List ℕ). old ++ w) (sym (append_assoc (number a.pair.name) here rest))
            ∙ ap (λ (w : List (Attr ℕ)). old ++ attrs_label name w) (sym x.parts);
        tops = left_one (names_into (map name x.value.refs)) (attrs_into name x.left) before after (before ++ attrs_into name attrs) t.told.tops
            (ap (λ (w : List (Attr ℕ)). before ++ attrs_into name w) (sym x.parts));
      }

  -- ---- what is left

  as_many : (raw : List RawAttr) (attrs : List (Attr ℕ)) → attrs_meaning s raw ≡ Ok attrs → length attrs ≡ length raw
  unfolding attrs_meaning
  as_many [] attrs e = let z : [] ≡ attrs = cc in sym (ap (λ (w : List (Attr ℕ)). length w) z)
  as_many (a ∷ raw) attrs e =
      let x = bind_ok (meaning s a) (λ v. attrs_meaning s raw >>= with_attr a v) attrs e in
      let y = bind_ok (attrs_meaning s raw) (with_attr a x.0) attrs x.2 in
      let z : attr_with a x.0 ∷ y.0 ≡ attrs = cc in
      let l : length (attr_with a x.0 ∷ y.0) ≡ length attrs = ap (λ (w : List (Attr ℕ)). length w) z in
      omega (arith, l, as_many raw y.0 y.1)

  -- some values were written, and the others are left; all of them say this
  pub record AreLeft (values : List RawAttr) (name : ℕ → CrossName) (refs out all now sum : List ℕ) : Type 0 where
    pub left : List (Attr ℕ)
    pub rest : AreAttrsMeant s place refs values left
    pub bytes : out ++ attrs_label name left ≡ all
    pub tops : now ++ attrs_into name left ≡ sum

  pub left_all : (values : List RawAttr) (name : ℕ → CrossName) (attrs : List (Attr ℕ)) (refs old out before : List ℕ) (n : ℕ) → AreAttrsMeant s place refs values attrs
      → n ≡ length (without_siblings values) → out ≡ old ++ number n
      → AreLeft values name refs out (old ++ each_counted cross_attr_label (map (attr_map name) attrs)) before (before ++ attrs_into name attrs)
  left_all values name attrs refs old out before n h count is = record {
    left = attrs;
    rest = h;
    bytes = (
        let many : n ≡ length (map (attr_map name) attrs) = count ∙ sym (as_many (without_siblings values) attrs h.means) ∙ sym (length-map attrs (attr_map name)) in
        ap (λ (w : List ℕ). w ++ attrs_label name attrs) (is ∙ ap (λ (k : ℕ). old ++ number k) many) ∙ append_assoc old (number (length (map (attr_map name) attrs))) (attrs_label name attrs));
    tops = refl;
  }

  pub left_more : (more values : List RawAttr) (name : ℕ → CrossName) (mid others out new all now next tops : List ℕ) (h : AreLeft more name mid out all now tops)
      → TellsAttr s place values name h.left others out new now next → AreLeft values name others new all next tops
  left_more more values name mid others out new all now next tops h t = record { left = t.left; rest = t.rest; bytes = t.bytes ∙ h.bytes; tops = t.tops ∙ h.tops }

  -- what is left, as the next value and those behind it
  pub left_means : (refs : List ℕ) (values : List RawAttr) (j : ℕ) (a : RawAttr) (left : List (Attr ℕ)) → slice_get values j ≡ Some a → AreAttrsMeant s place refs (drop j values) left
      → AreAttrsMeant s place refs (a ∷ drop (j + 1) values) left
  left_means refs values j a left is h = subst (λ (w : List RawAttr). AreAttrsMeant s place refs w left) (drop_here values j a is) h

  no_value : (refs : List ℕ) (attrs : List (Attr ℕ)) → AreAttrsMeant s place refs [] attrs → attrs ≡ []
  unfolding attrs_meaning without_siblings
  no_value refs attrs h = let e = h.means in let w : [] ≡ attrs = cc in sym w

  pub left_none : (values : List RawAttr) (j : ℕ) (name : ℕ → CrossName) (refs out label old now before into : List ℕ) → length values ≤ j
      → AreLeft (drop j values) name refs out (old ++ label) now (before ++ into) → Tells label into old out before now
  left_none values j name refs out label old now before into l h =
      let none = no_value refs h.left (subst (λ (w : List RawAttr). AreAttrsMeant s place refs w h.left) (drop_all j values l) h.rest) in
      record {
        bytes = sym (append-nil out) ∙ ap (λ (w : List (Attr ℕ)). out ++ attrs_label name w) (sym none) ∙ h.bytes;
        tops = sym (append-nil now) ∙ ap (λ (w : List (Attr ℕ)). now ++ attrs_into name w) (sym none) ∙ h.tops;
      }
