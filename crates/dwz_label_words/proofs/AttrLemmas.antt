-- Attributes that are told, value by value.
use Rattle.std.proofs.Common.{◌≡◌, ℕ, ◌+◌, ◌≤◌, List, [], ◌∷◌, ◌++◌, length, drop, refl, sym, ap, subst, ◌∙◌}
use Rattle.std.proofs.lemmas.List.{append-nil, append_assoc, drop-drop, drop_all, length-append}
use Rattle.dwz_def_reading.specs.Documents.{Attr, attr_map}
use Rattle.dwz_def_reading.specs.Entries.{RawAttr}
use Rattle.dwz_def_reading.specs.Lists.{Each}
use Rattle.dwz_def_reading.specs.Meanings.{MeaningContext}
use Rattle.dwz_def_reading.specs.Meant.{attr_with}
use Rattle.dwz_def_reading.specs.Units.{RawUnit}
use Rattle.dwz_def_tops.specs.Spots.{EntryName}
use Rattle.dwz_graph.specs.Named.{attrs_refs, value_refs}
use Rattle.dwz_graph.specs.Rows.{AreAttrsMeant, NextAttr}
use Rattle.dwz_graph.proofs.StepLemmas.{no_value, sibling}
use Rattle.dwz_label_entries.specs.declared.source.Source.{Source}
use Rattle.dwz_label_marks.specs.Marks.{Mark, value_marks}
use Rattle.dwz_label_marks.specs.Told.{Adds, Keeps}
use Rattle.dwz_label_words.specs.Known.{FileNames, StaysNamed}
use Rattle.dwz_label_words.specs.Told.{AreNamesOf, IsUsual, TellsAttrs, TellsFirst, TellsValue, attrs_marks}
use Rattle.dwz_label_marks.proofs.AddsLemmas.{adds_both, adds_kept, adds_none}
use Rattle.dwz_unit.specs.Declarations.{AreOf, Declarations}
use Rattle.dwz_unit.specs.Rows.{rows_of, units_of}

-- ---- names that stay

pub stays_same : (f : FileNames) → StaysNamed f f
stays_same f = record { same = refl; kept = λ bytes n e. e }

pub stays_both : (a b c : FileNames) → StaysNamed a b → StaysNamed b c → StaysNamed a c
stays_both a b c x y = record {
  same = y.same ∙ ap (λ (f : FileNames). record f { names = c.names }) x.same;
  kept = λ bytes n e. y.kept bytes n (x.kept bytes n e);
}

pub still_of : (x : Source) (a b : FileNames) → AreNamesOf x a → StaysNamed a b → AreNamesOf x b
still_of x a b n s = record {
  strs = ap (λ (f : FileNames). f.strs) s.same ∙ n.strs;
  tables = ap (λ (f : FileNames). f.tables) s.same ∙ n.tables;
  declared = subst (λ (d : Declarations). AreOf (rows_of (units_of x.units.now)) d) (sym (ap (λ (f : FileNames). f.declarations) s.same)) n.declared;
}

-- ---- one behind the other

joined : (name : ℕ → EntryName) (a b : List (Attr ℕ)) → attrs_marks name (a ++ b) ≡ attrs_marks name a ++ attrs_marks name b
joined name [] b = refl
joined name (x ∷ a) b =
    let here = value_marks (attr_map name x).value in
    ap (λ (m : List Mark). here ++ m) (joined name a b) ∙ sym (append_assoc here (attrs_marks name a) (attrs_marks name b))

drop_both : (m n : ℕ) (xs ys : List ℕ) → ys ≡ drop m xs → drop n ys ≡ drop (m + n) xs
drop_both m n xs ys e = ap (λ (w : List ℕ). drop n w) e ∙ drop-drop n m xs

module _ (raw : List RawUnit) (s : MeaningContext ℕ) (name : ℕ → EntryName) where
  pub skipped : (a : RawAttr) (values : List RawAttr) (attrs : List (Attr ℕ)) (names : List (List ℕ)) (refs old : List ℕ) → a.pair.name ≡ 0x01
      → AreAttrsMeant raw s refs (a ∷ values) attrs → Each IsUsual attrs → TellsFirst raw s values name attrs names refs refs old old
  skipped a values attrs names refs old is h each = record {
    told = [];
    left = attrs;
    parts = refl;
    rest = sibling raw s refs a values attrs is h;
    usual_are = each;
    marks = adds_none names old;
    ends = refl;
  }

  pub one_told : (a : RawAttr) (values : List RawAttr) (attrs : List (Attr ℕ)) (names : List (List ℕ)) (refs others old new : List ℕ)
      (x : NextAttr raw s refs a values attrs) → Each IsUsual attrs → TellsValue name x.value names refs others old new
      → TellsFirst raw s values name attrs names refs others old new
  one_told a values attrs names refs others old new x each t =
      let here = value_marks (attr_map name (attr_with a x.value)).value in
      record {
        told = attr_with a x.value ∷ [];
        left = x.left;
        parts = x.parts;
        rest = subst (λ (w : List ℕ). AreAttrsMeant raw s w values x.left) (sym t.ends) x.rest;
        usual_are = (subst (λ (w : List (Attr ℕ)). Each IsUsual w) x.parts each).1;
        marks = subst (λ (m : List Mark). Adds names m old new) (sym (append-nil here)) t.marks;
        ends = drop_both (length (value_refs x.value)) (length (attrs_refs x.left)) refs others t.ends
            ∙ ap (λ (n : ℕ). drop n refs) (sym (length-append (value_refs x.value) (attrs_refs x.left)))
            ∙ ap (λ (w : List (Attr ℕ)). drop (length (attrs_refs w)) refs) (sym x.parts);
      }

  pub none_told : (values : List RawAttr) (attrs : List (Attr ℕ)) (names : List (List ℕ)) (refs old : List ℕ)
      → AreAttrsMeant raw s refs values attrs → Each IsUsual attrs → TellsFirst raw s values name attrs names refs refs old old
  none_told values attrs names refs old h each = record {
    told = [];
    left = attrs;
    parts = refl;
    rest = h;
    usual_are = each;
    marks = adds_none names old;
    ends = refl;
  }

  pub more_told : (more values : List RawAttr) (attrs : List (Attr ℕ)) (names names' : List (List ℕ)) (refs mid others old out new : List ℕ)
      (h : TellsFirst raw s more name attrs names refs mid old out) → Keeps names names' → TellsFirst raw s values name h.left names' mid others out new
      → TellsFirst raw s values name attrs names' refs others old new
  more_told more values attrs names names' refs mid others old out new h k t = record {
    told = h.told ++ t.told;
    left = t.left;
    parts = h.parts ∙ ap (λ (w : List (Attr ℕ)). h.told ++ w) t.parts ∙ sym (append_assoc h.told t.told t.left);
    rest = t.rest;
    usual_are = t.usual_are;
    marks = subst (λ (m : List Mark). Adds names' m old new) (sym (joined name h.told t.told))
        (adds_both names' (attrs_marks name h.told) (attrs_marks name t.told) old out new (adds_kept names names' (attrs_marks name h.told) old out k h.marks) t.marks);
    ends = t.ends ∙ h.ends;
  }

  pub all_told : (values : List RawAttr) (j : ℕ) (attrs : List (Attr ℕ)) (names : List (List ℕ)) (refs others old new : List ℕ) → length values ≤ j
      → TellsFirst raw s (drop j values) name attrs names refs others old new → TellsAttrs name attrs names refs others old new
  all_told values j attrs names refs others old new l h =
      let none = no_value raw s others h.left (subst (λ (w : List RawAttr). AreAttrsMeant raw s others w h.left) (drop_all j values l) h.rest) in
      let whole = h.parts ∙ ap (λ (w : List (Attr ℕ)). h.told ++ w) none ∙ append-nil h.told in
      record {
        marks = subst (λ (w : List (Attr ℕ)). Adds names (attrs_marks name w) old new) (sym whole) h.marks;
        ends = ap (λ (w : List (Attr ℕ)). drop (length (attrs_refs w)) others) (sym none) ∙ h.ends;
      }
