-- What units say is found entry by entry, and each text once: by induction over their trees.
use Rattle.std.proofs.Common.{◌≡◌, ℕ, suc, List, [], ◌∷◌, ◌++◌, Some, refl, sym, ap, ◌∙◌}
use Rattle.std.specs.List.{flat_map}
use Rattle.std.proofs.lemmas.List.Concat.{flat_map-append}
use Rattle.dwz_def_reading.specs.Trees.{End, Entry}
use Rattle.dwz_def_reading.specs.Documents.{Attr, DwUnit, Entries, File, Plain}
use Rattle.dwz_def_reading.specs.Classes.{OfTextBySlot, OfTextInLineStr, OfTextInStr}
use Rattle.dwz_def_reading.specs.Classes.{Class, class_of}
use Rattle.dwz_layout_items.specs.Lines.{Line, lines, unit_lines}
use Rattle.dwz_def_encoding.specs.Placing.{attr_path, attr_text, attrs_with, entries_with, path_as, text_as, units_with, with_common_text}
use Rattle.dwz_encode_common.specs.Gathered.{lines_said, path_by, path_said, text_by, text_said, units_said, with_all}

pub with_all-append : (found xs ys : List (List ℕ)) → with_all found (xs ++ ys) ≡ with_all (with_all found xs) ys
with_all-append found [] ys = refl
with_all-append found (x ∷ xs) ys = with_all-append (with_common_text found x) xs ys

-- ---- units

module _ {K : Type 0} (add : List (List ℕ) → Attr K → List (List ℕ)) (said : Attr K → List (List ℕ))
    (adds : (found : List (List ℕ)) (a : Attr K) → add found a ≡ with_all found (said a)) where
  attrs_found : (found : List (List ℕ)) (attrs : List (Attr K)) → attrs_with add found attrs ≡ with_all found (flat_map said attrs)
  unfolding attrs_with
  attrs_found found [] = refl
  attrs_found found (a ∷ attrs) =
      attrs_found (add found a) attrs
      ∙ ap (λ (w : List (List ℕ)). with_all w (flat_map said attrs)) (adds found a)
      ∙ sym (with_all-append found (said a) (flat_map said attrs))

  entries_found : (found : List (List ℕ)) (depth : ℕ) (g : Entries K)
      → entries_with add found g ≡ with_all found (lines_said said (lines depth g))
  unfolding entries_with lines
  entries_found found depth End = refl
  entries_found found depth (Entry e children next) =
      let own = flat_map said e.attrs in
      let below = lines_said said (lines (suc depth) children) in
      let behind = lines_said said (lines depth next) in
      let split : lines_said said (lines (suc depth) children ++ lines depth next) ≡ below ++ behind =
      flat_map-append (λ (l : Line K). flat_map said l.node.attrs) (lines (suc depth) children) (lines depth next) in
      entries_found (entries_with add (attrs_with add found e.attrs) children) depth next
      ∙ ap (λ (w : List (List ℕ)). with_all w behind) (
      entries_found (attrs_with add found e.attrs) (suc depth) children
      ∙ ap (λ (w : List (List ℕ)). with_all w below) (attrs_found found e.attrs))
      ∙ sym (with_all-append (with_all found own) below behind)
      ∙ sym (with_all-append found own (below ++ behind))
      ∙ ap (λ (w : List (List ℕ)). with_all found (own ++ w)) (sym split)

  unit_found : (found : List (List ℕ)) (u : DwUnit K)
      → entries_with add (attrs_with add found u.root.attrs) u.below ≡ with_all found (lines_said said (unit_lines u))
  unit_found found u =
      entries_found (attrs_with add found u.root.attrs) 2 u.below
      ∙ ap (λ (w : List (List ℕ)). with_all w (lines_said said (lines 2 u.below))) (attrs_found found u.root.attrs)
      ∙ sym (with_all-append found (flat_map said u.root.attrs) (lines_said said (lines 2 u.below)))

  pub units_found : (found : List (List ℕ)) (units : List (DwUnit K)) → units_with add found units ≡ with_all found (units_said said units)
  unfolding units_with
  units_found found [] = refl
  units_found found (u ∷ units) =
      units_found (entries_with add (attrs_with add found u.root.attrs) u.below) units
      ∙ ap (λ (w : List (List ℕ)). with_all w (units_said said units)) (unit_found found u)
      ∙ sym (with_all-append found (lines_said said (unit_lines u)) (units_said said units))

-- ---- values

text_class : {K : Type 0} (c : Class) (found : List (List ℕ)) (a : Attr K) → text_as c found a ≡ with_all found (text_by c a)
text_class OfTextInStr found a = refl
text_class OfTextInLineStr found a = refl
text_class OfTextBySlot found a = refl
text_class _ found a = refl

pub texts_added : {K : Type 0} (found : List (List ℕ)) (a : Attr K) → attr_text found a ≡ with_all found (text_said a)
texts_added found a = text_class (class_of a.form) found a

path_plain : (p : Plain) (found : List (List ℕ)) → path_as p found ≡ with_all found (path_by p)
path_plain (File (Some path)) found = refl
path_plain _ found = refl

pub paths_added : {K : Type 0} (found : List (List ℕ)) (a : Attr K) → attr_path found a ≡ with_all found (path_said a)
paths_added found a = path_plain a.value.plain found
