-- The tops of a row whose places are replaced, and the path that the name of an entry tells.
use Rattle.std.proofs.Common.{◌≡◌, ℕ, zero, suc, ◌+◌, Bool, true, false, List, [], ◌∷◌, ◌++◌, length, Option, Some, None, refl, sym, ap, subst, ◌∙◌, inl, inr, arith}
use Rattle.dwz_def_reading.specs.Documents.{Entries, Node, entries_map, node_map}
use Rattle.dwz_def_reading.specs.Rows.{has}
use Rattle.dwz_def_reading.specs.Trees.{End, Entry}
use Rattle.dwz_def_tops.specs.Spaces.{IsUnder, space_text, tops_under}
use Rattle.dwz_def_tops.specs.Spots.{ASpace, ATop, EntryName, Labelled, Nothing, Row, SpaceName, Top, name_of}
use Rattle.dwz_def_tops.proofs.RowLemmas.{RowIs}
use Rattle.dwz_def_tops.proofs.SpaceLemmas.{text_map}
use Rattle.dwz_def_images.specs.Held.{Kinded}
use Rattle.dwz_def_images.specs.IsPlan.{Has, OfTop}
use Rattle.dwz_def_images.specs.Plan.{PartialUnit, import_of, imports}
use Rattle.dwz_def_images.specs.Units.{tree}
use Rattle.dwz_def_images.proofs.ApartTrees.{IsImportSpot}
use Rattle.dwz_def_cross.specs.Tops.{CrossTop, IsNthChild, StandsAlong, StandsUnder}

-- ---- paths: names have them from an entry up

abbrev pub turned : List ℕ → List ℕ → List ℕ
turned [] onto = onto
turned (i ∷ path) onto = turned path (i ∷ onto)

turned_length : (path onto : List ℕ) → length (turned path onto) ≡ length path + length onto
turned_length [] onto = omega arith
turned_length (i ∷ path) onto = let h = turned_length path (i ∷ onto) in omega (arith, h)

turned_both : (p q a b : List ℕ) → length a ≡ length b → turned p a ≡ turned q b → (p ≡ q) × (a ≡ b)
turned_both [] [] a b l h = (refl, h)
turned_both [] (j ∷ q) a b l h = absurd (let x : length a ≡ length (turned q (j ∷ b)) = ap length h in let y = turned_length q (j ∷ b) in omega (arith, l, x, y))
turned_both (i ∷ p) [] a b l h = absurd (let x : length (turned p (i ∷ a)) ≡ length b = ap length h in let y = turned_length p (i ∷ a) in omega (arith, l, x, y))
turned_both (i ∷ p) (j ∷ q) a b l h =
    let o = turned_both p q (i ∷ a) (j ∷ b) (ap suc l) h in
    let first : i ≡ j = (let z = o.1 in cc) in
    let rest = o.0 in
    ((λ k. first k ∷ rest k), (let z = o.1 in cc))

pub turned_one : (p q : List ℕ) → turned p [] ≡ turned q [] → p ≡ q
turned_one p q h = (turned_both p q [] [] refl h).0

labelled_nth : (name : List ℕ → EntryName) (onto : List ℕ) (i j : ℕ) (f : Entries EntryName) → Labelled name onto i f → (d : Node EntryName) (g : Entries EntryName) → IsNthChild j d g f
    → (d.at ≡ name ((i + j) ∷ onto)) × Labelled name ((i + j) ∷ onto) 0 g
labelled_nth name onto i j End h d g n = absurd n
labelled_nth name onto i zero (Entry e f k) h d g n =
    let z : i ≡ i + 0 = omega arith in
    subst (λ (x : ℕ). (d.at ≡ name (x ∷ onto)) × Labelled name (x ∷ onto) 0 g) z
    (ap (λ (w : Node EntryName). w.at) (sym n.0) ∙ h.0, subst (Labelled name (i ∷ onto) 0) n.1 h.1)
labelled_nth name onto i (suc j) (Entry e f k) h d g n =
    let z : suc i + j ≡ i + suc j = omega arith in
    subst (λ (x : ℕ). (d.at ≡ name (x ∷ onto)) × Labelled name (x ∷ onto) 0 g) z (labelled_nth name onto (suc i) j k h.2 d g n)

-- what stands along a path has that path in its name
pub labelled_along : (name : List ℕ → EntryName) (onto path : List ℕ) (e : Node EntryName) (f : Entries EntryName) → e.at ≡ name onto → Labelled name onto 0 f → (s : EntryName)
    → StandsAlong path e f s → s ≡ name (turned path onto)
labelled_along name onto [] e f at h s stands = sym stands ∙ at
labelled_along name onto (i ∷ path) e f at h s (d, g, nth, rest) =
    let o = labelled_nth name onto 0 i f h d g nth in
    let z : 0 + i ≡ i = omega arith in
    let here = subst (λ (x : ℕ). (d.at ≡ name (x ∷ onto)) × Labelled name (x ∷ onto) 0 g) z o in
    labelled_along name (i ∷ onto) path d g here.0 here.1 s rest

-- ---- tops of a tree

pub data TreeTop (f : EntryName → EntryName) (items : Row) (last : Entries EntryName) (names : List (List ℕ)) (b : CrossTop EntryName) : Type 0 where
  OfRow : (t : Top) → Has names (OfTop t) items → b.node ≡ node_map f t.node → b.below ≡ entries_map f t.below → TreeTop f items last names b
  OfLast : StandsUnder names b last → TreeTop f items last names b

pub tree_top : (f : EntryName → EntryName) (items : Row) (last : Entries EntryName) → Kinded items → (names : List (List ℕ)) (b : CrossTop EntryName) → StandsUnder names b (tree f items last)
    → TreeTop f items last names b
unfolding tree
tree_top f Nothing last k names b h = OfLast h
tree_top f (ATop t next) last k names b (inl x) = OfRow t (inl (x.0, refl)) (sym x.2) (sym x.3)
tree_top f (ATop t next) last k names b (inr (inl i)) = absurd (let p : space_text (node_map f t.node) ≡ None = text_map f t.node ∙ k.0 in let q = i.2 in cc)
tree_top f (ATop t next) last k names b (inr (inr y)) = later (tree_top f next last k.1 names b y) where
  later : TreeTop f next last names b → TreeTop f (ATop t next) last names b
  later (OfRow u has nd bl) = OfRow u (inr has) nd bl
  later (OfLast s) = OfLast s
tree_top f (ASpace d inner next) last k names b (inl x) = absurd (let p : space_text (node_map f d) ≡ Some k.0.0 = text_map f d ∙ k.0.1 in let q = x.1 in cc)
tree_top f (ASpace d inner next) last k names b (inr (inl (text, others, own, names_are, under))) = inside (tree_top f inner End k.1 others b under) where
  inside : TreeTop f inner End others b → TreeTop f (ASpace d inner next) last names b
  inside (OfRow u has nd bl) = OfRow u (inr (inl (text, others, sym (text_map f d) ∙ own, names_are, has))) nd bl
  inside (OfLast s) = absurd s
tree_top f (ASpace d inner next) last k names b (inr (inr y)) = later (tree_top f next last k.2 names b y) where
  later : TreeTop f next last names b → TreeTop f (ASpace d inner next) last names b
  later (OfRow u has nd bl) = OfRow u (inr (inr has)) nd bl
  later (OfLast s) = OfLast s

-- those of a row that stands for entries
pub row_top_of : (file unit : ℕ) (tongue : Option _) (spaces : List SpaceName) (n : ℕ) (items : Row) (f : Entries EntryName) → RowIs file unit tongue spaces n items f → (names : List (List ℕ))
    (b : CrossTop EntryName) → StandsUnder names b f → (t : Top) × Has names (OfTop t) items × (b.node ≡ t.node) × (b.below ≡ t.below)
row_top_of file unit tongue spaces n Nothing End h names b s = absurd s
row_top_of file unit tongue spaces n (ATop t row) (Entry e f g) h names b (inl x) =
    (t, inl (x.0, refl), sym x.2 ∙ ap (λ (w : Top). w.node) h.1, sym x.3 ∙ ap (λ (w : Top). w.below) h.1)
row_top_of file unit tongue spaces n (ATop t row) (Entry e f g) h names b (inr (inl i)) = absurd (let p = h.0 in let q = i.2 in cc)
row_top_of file unit tongue spaces n (ATop t row) (Entry e f g) h names b (inr (inr y)) =
    let o = row_top_of file unit tongue spaces (suc n) row g h.2 names b y in (o.0, inr o.1, o.2, o.3)
row_top_of file unit tongue spaces n (ASpace d inner row) (Entry e f g) h names b (inl x) = absurd (let p = h.1 in let q = x.1 in cc)
row_top_of file unit tongue spaces n (ASpace d inner row) (Entry e f g) h names b (inr (inl i)) =
    let o = row_top_of file unit tongue (spaces ++ name_of h.0 e ∷ []) n inner f h.3 i.1 b i.4 in
    (o.0, inr (inl (i.0, i.1, ap space_text (sym h.2) ∙ i.2, i.3, o.1)), o.2, o.3)
row_top_of file unit tongue spaces n (ASpace d inner row) (Entry e f g) h names b (inr (inr y)) =
    let o = row_top_of file unit tongue spaces (n + tops_under f) row g h.4 names b y in (o.0, inr (inr o.1), o.2, o.3)
row_top_of file unit tongue spaces n Nothing (Entry e f g) h names b s = absurd h
row_top_of file unit tongue spaces n (ATop t row) End h names b s = absurd h
row_top_of file unit tongue spaces n (ASpace d inner row) End h names b s = absurd h

-- ---- imports

abbrev or_next : Bool → Node EntryName → Entries EntryName → Entries EntryName
or_next b e next = elim b as (λ _. Entries EntryName) [ true ↦ Entry e End next | false ↦ next ]

pub import_top : (unit n : ℕ) (parts : List PartialUnit) (names : List (List ℕ)) (b : CrossTop EntryName) → StandsUnder names b (imports unit n parts) → IsImportSpot b.node.at × (b.below ≡ End)
unfolding imports
import_top unit n [] names b h = absurd h
import_top unit n (part ∷ parts) names b h = by (has unit part.users) h (import_top unit (suc n) parts names b) where
  by : (c : Bool) → StandsUnder names b (or_next c (import_of unit n) (imports unit (suc n) parts)) → (StandsUnder names b (imports unit (suc n) parts) → IsImportSpot b.node.at × (b.below ≡ End))
      → IsImportSpot b.node.at × (b.below ≡ End)
  by true (inl x) more = (subst (λ (w : Node EntryName). IsImportSpot w.at) x.2 tt, sym x.3)
  by true (inr (inl i)) more = absurd i.4
  by true (inr (inr y)) more = more y
  by false s more = more s

import_plain : (unit n : ℕ) → space_text (import_of unit n) ≡ None
unfolding space_text
import_plain unit n = refl

pub no_import_space : (unit n : ℕ) (parts : List PartialUnit) (names : List (List ℕ)) (e : Node EntryName) → IsUnder names e (imports unit n parts) → space_text e ≡ None
unfolding imports
no_import_space unit n [] names e h = absurd h
no_import_space unit n (part ∷ parts) names e h = by (has unit part.users) h (no_import_space unit (suc n) parts names e) where
  by : (c : Bool) → IsUnder names e (or_next c (import_of unit n) (imports unit (suc n) parts)) → (IsUnder names e (imports unit (suc n) parts) → space_text e ≡ None) → space_text e ≡ None
  by true (inl x) more = ap space_text (sym x.1) ∙ import_plain unit n
  by true (inr (inl i)) more = absurd i.4
  by true (inr (inr y)) more = more y
  by false s more = more s
