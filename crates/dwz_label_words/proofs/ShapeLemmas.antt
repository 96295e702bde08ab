-- The shape of an entry is that of its declaration.
use Rattle.std.proofs.Common.{◌≡◌, ℕ, zero, suc, ◌+◌, ◌*◌, Bool, true, false, List, [], ◌∷◌, ◌++◌, length, map, Option, Some, Result, Ok, Err, slice_get, refl, sym, ap, subst, ◌∙◌}
use Rattle.std.specs.List.{flat_map}
use Rattle.std.specs.Prelude.{◌==◌, IfOk, OnOk, if◌then◌else◌}
use Rattle.std.proofs.lemmas.List.{length-map}
use Rattle.dwz_def_reading.specs.Documents.{Attr, Node, attr_map, node_map}
use Rattle.dwz_def_reading.specs.Entries.{RawAttr}
use Rattle.dwz_def_reading.specs.Meanings.{MeaningContext, without_siblings}
use Rattle.dwz_def_reading.specs.Meant.{attr_with, attrs_meaning, meaning, with_attr}
use Rattle.dwz_def_reading.specs.Reading.{◌>>=◌}
use Rattle.dwz_def_reading.specs.TextRows.{text_number}
use Rattle.dwz_def_reading.proofs.PartLemmas.{bind_ok}
use Rattle.dwz_def_tops.specs.Spots.{EntryName}
use Rattle.dwz_label.specs.Labels.{number}
use Rattle.dwz_label_entries.specs.Words.{kept}
use Rattle.dwz_label_marks.specs.Marks.{Named, Plainly, name_label, shape_label}
use Rattle.dwz_label_marks.specs.Told.{Keeps}
use Rattle.dwz_label_words.specs.Shapes.{pair_names, pairs_shape}
use Rattle.dwz_label_words.specs.Told.{TellsAttrs, TellsEntry, attrs_marks}
use Rattle.dwz_label_marks.proofs.AddsLemmas.{adds_both, adds_kept, adds_named, adds_plainly}
use Rattle.dwz_model.specs.declared.place.Pair.{Pair}
use Rattle.dwz_unit.specs.Rows.{EntryRow}

-- ---- names of attributes

abbrev pair_in : RawAttr → Pair
pair_in a = a.pair

abbrev own_names : List (Attr ℕ) → List ℕ
own_names attrs = flat_map (λ a. number a.name) attrs

-- the attributes have the names of the pairs without DW_AT_sibling
record HaveNames (attrs : List (Attr ℕ)) (pairs : List Pair) : Type 0 where
  pub many : length attrs ≡ kept pairs
  pub names : own_names attrs ≡ pair_names pairs

meant_names : (s : MeaningContext ℕ) (values : List RawAttr) (attrs : List (Attr ℕ)) → attrs_meaning s (without_siblings values) ≡ Ok attrs → HaveNames attrs (map pair_in values)
unfolding attrs_meaning without_siblings kept pair_names
meant_names s [] attrs e = let z : [] ≡ attrs = cc in subst (λ (w : List (Attr ℕ)). HaveNames w []) z (record { many = refl; names = refl })
meant_names s (a ∷ values) attrs e = go (meant_names s values) (a.pair.name == 0x01) refl e where
  go : ((w : List (Attr ℕ)) → attrs_meaning s (without_siblings values) ≡ Ok w → HaveNames w (map pair_in values)) → (b : Bool) → (a.pair.name == 0x01) ≡ b → attrs_meaning s (if b then without_siblings values else (a ∷ without_siblings values)) ≡ Ok attrs
      → HaveNames attrs (pair_in a ∷ map pair_in values)
  go again true is h =
      let r = again attrs h in
      record {
        many = r.many ∙ ap (λ (t : Bool). if t then kept (map pair_in values) else suc (kept (map pair_in values))) (sym is);
        names = r.names ∙ ap (λ (t : Bool). if t then pair_names (map pair_in values) else (number a.pair.name ++ pair_names (map pair_in values))) (sym is);
      }
  go again false is h =
      let x = bind_ok (meaning s a) (λ v. attrs_meaning s (without_siblings values) >>= with_attr a v) attrs h in
      let y = bind_ok (attrs_meaning s (without_siblings values)) (with_attr a x.0) attrs x.2 in
      let r = again y.0 y.1 in
      let z : attr_with a x.0 ∷ y.0 ≡ attrs = cc in
      subst (λ (w : List (Attr ℕ)). HaveNames w (pair_in a ∷ map pair_in values)) z
      (record {
        many = ap suc r.many ∙ ap (λ (t : Bool). if t then kept (map pair_in values) else suc (kept (map pair_in values))) (sym is);
        names = ap (λ (w : List ℕ). number a.pair.name ++ w) r.names
            ∙ ap (λ (t : Bool). if t then pair_names (map pair_in values) else (number a.pair.name ++ pair_names (map pair_in values))) (sym is);
      })

named_alike : (name : ℕ → EntryName) (attrs : List (Attr ℕ)) → flat_map name_label (map (attr_map name) attrs) ≡ own_names attrs
named_alike name [] = refl
named_alike name (a ∷ attrs) = ap (λ (w : List ℕ). number a.name ++ w) (named_alike name attrs)

pub meant_shape : (s : MeaningContext ℕ) (name : ℕ → EntryName) (values : List RawAttr) (d : Node ℕ) (tag : ℕ) → attrs_meaning s (without_siblings values) ≡ Ok d.attrs → d.tag ≡ tag
    → pairs_shape tag (map pair_in values) ≡ shape_label (node_map name d)
meant_shape s name values d tag e is =
    let r = meant_names s values d.attrs e in
    let many : kept (map pair_in values) ≡ length (map (attr_map name) d.attrs) = sym r.many ∙ sym (length-map d.attrs (attr_map name)) in
    let names : pair_names (map pair_in values) ≡ flat_map name_label (map (attr_map name) d.attrs) = sym r.names ∙ sym (named_alike name d.attrs) in
    λ i. number (sym is i) ++ (number (many i) ++ names i)

-- ---- the declaration of an entry

some_same : {X : Type 0} {x y : X} → Some x ≡ Some y → x ≡ y
some_same e = cc

pub declared_at : (g : ℕ → Option (List Pair)) (h : EntryRow → Option (List Pair)) (numbers : List ℕ) (rows : List EntryRow) (i : ℕ) (row : EntryRow) → map g numbers ≡ map h rows
    → slice_get rows i ≡ Some row → (decl : ℕ) × (slice_get numbers i ≡ Some decl) × (g decl ≡ h row)
declared_at g h numbers [] i row e got = absurd cc
declared_at g h [] (r ∷ rows) i row e got = absurd cc
declared_at g h (n ∷ numbers) (r ∷ rows) zero row e got =
    let first : g n ≡ h r = cc in
    (n, refl, first ∙ ap h (some_same got))
declared_at g h (n ∷ numbers) (r ∷ rows) (suc i) row e got =
    let rest : map g numbers ≡ map h rows = cc in
    declared_at g h numbers rows i row rest got

-- ---- an entry: its shape, how many are below it, and its attributes

pub entry_told : (name : ℕ → EntryName) (below shape : ℕ) (d : Node ℕ) (first names : List (List ℕ)) (refs others old one two new : List ℕ)
    → text_number first (shape_label (node_map name d)) ≡ Some shape → one ≡ old ++ number (2 * shape + 1) → two ≡ one ++ number (2 * below) → Keeps first names
    → TellsAttrs name d.attrs names refs others two new → TellsEntry name below d names refs others old new
entry_told name below shape d first names refs others old one two new found is_one is_two k t =
    let head = shape_label (node_map name d) in
    let start = adds_both first (Named head ∷ []) (Plainly below ∷ []) old one two (adds_named first head shape old one found is_one) (adds_plainly first below one two is_two) in
    record {
      marks = adds_both names (Named head ∷ (Plainly below ∷ [])) (attrs_marks name d.attrs) old two new
          (adds_kept first names (Named head ∷ (Plainly below ∷ [])) old two k start) t.marks;
      ends = t.ends;
    }

pub both_ok : {T E : Type 0} (r : Result T E) (Q : Type 0) (P : T → Type 0) → OnOk r Q → IfOk r P → IfOk r (λ x. Q × P x)
both_ok (Ok x) Q P q p = (q, p)
both_ok (Err e) Q P q p = p
