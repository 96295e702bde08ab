-- Where names stand once: lists, trees, and rows of tops and spaces that stand for themselves.
use Rattle.std.proofs.Common.{◌≡◌, ℕ, suc, ◌≤◌, ◌⊎◌, List, [], ◌∷◌, ◌++◌, length, refl, sym, ap, subst, ◌∙◌, arith, inl, inr, append_assoc}
use Rattle.std.proofs.lemmas.List.{length-append}
use Rattle.dwz_def_reading.specs.Documents.{Entries, Node, entries_map}
use Rattle.dwz_def_reading.specs.Lists.{In}
use Rattle.dwz_def_reading.specs.Trees.{End, Entry}
use Rattle.dwz_def_reading.proofs.ListFacts.{in_cases, in_left, in_right}
use Rattle.dwz_def_tops.specs.Lists.{NoneTwice}
use Rattle.dwz_def_tops.specs.Shown.{keys}
use Rattle.dwz_def_tops.specs.Spots.{ASpace, ATop, EntryName, Import, InChain, InType, Labelled, LabelledTop, Nothing, PartialOf, PartialRoot, RootOf, Row, SpaceAt, Top, UnitOf, Within}
use Rattle.dwz_def_plan.specs.IsPlan.{Has, Item, OfSpace, OfTop}
use Rattle.dwz_def_plan.specs.Plan.{image_by, imports}
use Rattle.dwz_def_images.specs.Units.{tree}
use Rattle.dwz_def_tops.proofs.OnceLemmas.{none_append, none_both, none_left, none_right}
use Rattle.dwz_def_images.specs.Held.{Kinded}

-- ---- trees at their names

suffix : (x y s : List ℕ) (i j : ℕ) → x ++ (i ∷ s) ≡ y ++ (j ∷ s) → i ≡ j
suffix [] [] s i j e = cc
suffix [] (b ∷ y) s i j e = absurd (omega (arith, ap length e, length-append y (j ∷ s)))
suffix (a ∷ x) [] s i j e = absurd (omega (arith, ap length e, length-append x (i ∷ s)))
suffix (a ∷ x) (b ∷ y) s i j e = (let t : x ++ (i ∷ s) ≡ y ++ (j ∷ s) = cc in suffix x y s i j t)

-- a name below a path, at an index or behind it
pub record Behind (name : List ℕ → EntryName) (path : List ℕ) (i : ℕ) (k : EntryName) : Type 0 where
  pub first : List ℕ
  pub index : ℕ
  pub from : i ≤ index
  pub is : k ≡ name (first ++ (index ∷ path))

pub behind : (name : List ℕ → EntryName) (path : List ℕ) (i : ℕ) (f : Entries EntryName) → Labelled name path i f → (k : EntryName) → In k (keys f) → Behind name path i k
unfolding keys
behind name path i End h k is = absurd is
behind name path i (Entry e f g) h k (inl x) = record { first = []; index = i; from = omega arith; is = sym x ∙ h.0 }
behind name path i (Entry e f g) h k (inr r) = elim (in_cases k (keys f) (keys g) r) [
  | inl a ↦ (let b = behind name (i ∷ path) 0 f h.1 k a in
      record { first = b.first ++ (b.index ∷ []); index = i; from = omega arith; is = b.is ∙ ap name (sym (append_assoc b.first (b.index ∷ []) (i ∷ path))) })
  | inr b ↦ (let c = behind name path (suc i) g h.2 k b in record { first = c.first; index = c.index; from = omega (arith, c.from); is = c.is })
]

module _ (name : List ℕ → EntryName) (one : (p q : List ℕ) → name p ≡ name q → p ≡ q) where
  pub inner_rest : (path : List ℕ) (i : ℕ) (k : EntryName) → Behind name (i ∷ path) 0 k → Behind name path (suc i) k → ⊥
  inner_rest path i k b c =
      let e : (b.first ++ (b.index ∷ [])) ++ (i ∷ path) ≡ c.first ++ (c.index ∷ path) = append_assoc b.first (b.index ∷ []) (i ∷ path) ∙ one _ _ (sym b.is ∙ c.is) in
      omega (arith, suffix (b.first ++ (b.index ∷ [])) c.first path i c.index e, c.from)

  pub here_inner : (path : List ℕ) (i : ℕ) → Behind name (i ∷ path) 0 (name (i ∷ path)) → ⊥
  here_inner path i b = omega (arith, ap length (one (i ∷ path) _ b.is), length-append b.first (b.index ∷ i ∷ path))

  pub here_rest : (path : List ℕ) (i : ℕ) → Behind name path (suc i) (name (i ∷ path)) → ⊥
  here_rest path i c = omega (arith, suffix [] c.first path i c.index (one (i ∷ path) _ c.is), c.from)

  pub none_below : (path : List ℕ) (i : ℕ) (f : Entries EntryName) → Labelled name path i f → NoneTwice (keys f)
  unfolding keys
  none_below path i End h = tt
  none_below path i (Entry e f g) h = (
    (λ is. elim (in_cases e.at (keys f) (keys g) is) [
      | inl a ↦ here_inner path i (subst (Behind name (i ∷ path) 0) h.0 (behind name (i ∷ path) 0 f h.1 e.at a))
      | inr b ↦ here_rest path i (subst (Behind name path (suc i)) h.0 (behind name path (suc i) g h.2 e.at b))
    ]),
    none_append (keys f) (keys g) (none_below (i ∷ path) 0 f h.1) (none_below path (suc i) g h.2)
        (λ k a b. inner_rest path i k (behind name (i ∷ path) 0 f h.1 k a) (behind name path (suc i) g h.2 k b)),
  )

  none_tree : (f : Entries EntryName) → Labelled name [] 0 f → NoneTwice (name [] ∷ keys f)
  none_tree f h = (
    (λ is. let b = behind name [] 0 f h (name []) is in omega (arith, ap length (one [] _ b.is), length-append b.first (b.index ∷ []))),
    none_below [] 0 f h,
  )

pub labelled_map : (f : EntryName → EntryName) (name other : List ℕ → EntryName) → ((p : List ℕ) → f (name p) ≡ other p) → (path : List ℕ) (i : ℕ) (g : Entries EntryName) → Labelled name path i g
    → Labelled other path i (entries_map f g)
unfolding entries_map
labelled_map f name other same path i End h = tt
labelled_map f name other same path i (Entry e g k) h = (ap f h.0 ∙ same (i ∷ path), labelled_map f name other same (i ∷ path) 0 g h.1, labelled_map f name other same path (suc i) k h.2)

pub within_path : (t : ℕ) (p q : List ℕ) → Within t p ≡ Within t q → p ≡ q
within_path t p q e = cc

pub type_path : (i : ℕ) (p q : List ℕ) → InType i p ≡ InType i q → p ≡ q
type_path i p q e = cc

-- ---- rows of tops that stand for themselves

pub record IsWithin (n : ℕ) (k : EntryName) : Type 0 where
  pub path : List ℕ
  pub is : k ≡ Within n path

abbrev pub Fixed : (ℕ → ℕ) → Top → Type 0
Fixed stand t = LabelledTop t × (stand t.number ≡ t.number)

abbrev pub top_keys : (ℕ → ℕ) → Top → List EntryName
top_keys stand t = image_by stand t.node.at ∷ keys (entries_map (image_by stand) t.below)

top_place : (stand : ℕ → ℕ) (t : Top) → Fixed stand t → image_by stand t.node.at ≡ Within t.number []
top_place stand t h = ap (image_by stand) h.0.0 ∙ ap (λ (n : ℕ). Within n []) h.1

top_labelled : (stand : ℕ → ℕ) (t : Top) → Fixed stand t → Labelled (Within t.number) [] 0 (entries_map (image_by stand) t.below)
top_labelled stand t h = labelled_map (image_by stand) (Within t.number) (Within t.number) (λ p. ap (λ (n : ℕ). Within n p) h.1) [] 0 t.below h.0.1

top_none : (stand : ℕ → ℕ) (t : Top) → Fixed stand t → NoneTwice (top_keys stand t)
top_none stand t h = subst (λ (w : EntryName). NoneTwice (w ∷ keys (entries_map (image_by stand) t.below))) (sym (top_place stand t h))
    (none_tree (Within t.number) (within_path t.number) (entries_map (image_by stand) t.below) (top_labelled stand t h))

pub top_within : (stand : ℕ → ℕ) (t : Top) → Fixed stand t → (k : EntryName) → In k (top_keys stand t) → IsWithin t.number k
top_within stand t h k (inl x) = record { path = []; is = sym x ∙ top_place stand t h }
top_within stand t h k (inr r) = let b = behind (Within t.number) [] 0 (entries_map (image_by stand) t.below) (top_labelled stand t h) k r in record { path = b.first ++ (b.index ∷ []); is = b.is }

-- ---- the names of items

abbrev pub row_keys : Row → List EntryName
row_keys Nothing = []
row_keys (ATop t next) = Within t.number [] ∷ row_keys next
row_keys (ASpace e inner next) = e.at ∷ (row_keys inner ++ row_keys next)

-- of a unit before or after
abbrev pub IsSpaceSpot : EntryName → Type 0
IsSpaceSpot (SpaceAt i p) = Unit {0}
IsSpaceSpot (InChain n c d) = Unit {0}
IsSpaceSpot _ = ⊥

abbrev pub IsImportSpot : EntryName → Type 0
IsImportSpot (Import i n) = Unit {0}
IsImportSpot _ = ⊥

pub space_image : (stand : ℕ → ℕ) (s : EntryName) → IsSpaceSpot s → image_by stand s ≡ s
space_image stand (SpaceAt i p) h = refl
space_image stand (InChain n c d) h = refl
space_image stand (Within m p) h = absurd h
space_image stand (UnitOf i) h = refl
space_image stand (RootOf i) h = refl
space_image stand (InType i p) h = refl
space_image stand (PartialOf n) h = refl
space_image stand (PartialRoot n) h = refl
space_image stand (Import i n) h = refl

-- the name of the item that an entry belongs to
abbrev owner : EntryName → EntryName
owner (Within n path) = Within n []
owner s = s

space_owner : (s : EntryName) → IsSpaceSpot s → owner s ≡ s
space_owner (SpaceAt i p) h = refl
space_owner (InChain n c d) h = refl
space_owner (Within m p) h = absurd h
space_owner (UnitOf i) h = refl
space_owner (RootOf i) h = refl
space_owner (InType i p) h = refl
space_owner (PartialOf n) h = refl
space_owner (PartialRoot n) h = refl
space_owner (Import i n) h = refl

import_owner : (s : EntryName) → IsImportSpot s → owner s ≡ s
import_owner (Import i n) h = refl
import_owner (Within m p) h = absurd h
import_owner (SpaceAt i p) h = refl
import_owner (InChain n c d) h = refl
import_owner (UnitOf i) h = refl
import_owner (RootOf i) h = refl
import_owner (InType i p) h = refl
import_owner (PartialOf n) h = refl
import_owner (PartialRoot n) h = refl

-- each top stands for itself, and each space is at such a name
abbrev pub Good : (ℕ → ℕ) → Row → Type 0
Good stand Nothing = Unit {0}
Good stand (ATop t next) = Fixed stand t × Good stand next
Good stand (ASpace e inner next) = IsSpaceSpot e.at × Good stand inner × Good stand next

abbrev GoodItem : (ℕ → ℕ) → Item → Type 0
GoodItem stand (OfTop t) = Fixed stand t
GoodItem stand (OfSpace e) = IsSpaceSpot e.at

pub good_of : (stand : ℕ → ℕ) (items : Row) → Kinded items → ((names : List (List ℕ)) (t : Top) → Has names (OfTop t) items → Fixed stand t)
    → ((names : List (List ℕ)) (e : Node EntryName) → Has names (OfSpace e) items → IsSpaceSpot e.at) → Good stand items
good_of stand Nothing k f g = tt
good_of stand (ATop t next) k f g = (f [] t (inl (refl, refl)), good_of stand next k.1 (λ names u h. f names u (inr h)) (λ names e h. g names e (inr h)))
good_of stand (ASpace e inner next) k f g = (
  g [] e (inl (refl, refl)),
  good_of stand inner k.1 (λ names u h. f (k.0.0 ∷ names) u (inr (inl (k.0.0, names, k.0.1, refl, h)))) (λ names d h. g (k.0.0 ∷ names) d (inr (inl (k.0.0, names, k.0.1, refl, h)))),
  good_of stand next k.2 (λ names u h. f names u (inr (inr h))) (λ names d h. g names d (inr (inr h))),
)

not_import : (stand : ℕ → ℕ) (items : Row) → Good stand items → (k : EntryName) → In k (row_keys items) → IsImportSpot k → ⊥
not_import stand Nothing g k h i = h
not_import stand (ATop t next) g k (inl e) i = subst IsImportSpot (sym e) i
not_import stand (ATop t next) g k (inr r) i = not_import stand next g.1 k r i
not_import stand (ASpace d inner next) g k (inl e) i = both d.at g.0 (subst IsImportSpot (sym e) i) where
  both : (s : EntryName) → IsSpaceSpot s → IsImportSpot s → ⊥
  both (SpaceAt a p) x y = y
  both (InChain a b c) x y = y
  both (Within a p) x y = x
  both (UnitOf a) x y = x
  both (RootOf a) x y = x
  both (InType a p) x y = x
  both (PartialOf a) x y = x
  both (PartialRoot a) x y = x
  both (Import a b) x y = x
not_import stand (ASpace d inner next) g k (inr r) i = elim (in_cases k (row_keys inner) (row_keys next) r) [ inl a ↦ not_import stand inner g.1 k a i | inr b ↦ not_import stand next g.2 k b i ]

within_owner : (n : ℕ) (k : EntryName) → IsWithin n k → owner k ≡ Within n []
within_owner n k w = ap owner w.is

module _ (stand : ℕ → ℕ) where
  abbrev f : EntryName → EntryName
  f = image_by stand

  none_last : (k : EntryName) → In k (keys (tree f Nothing End)) → ⊥
  unfolding keys tree
  none_last k h = h

  -- each name in the tree is of an item, or of what follows
  pub tree_owner : (items : Row) (last : Entries EntryName) → Good stand items → (k : EntryName) → In k (keys (tree f items last)) → In (owner k) (row_keys items) ⊎ In k (keys last)
  unfolding keys tree
  tree_owner Nothing last g k h = inr h
  tree_owner (ATop t next) last g k h = elim (in_cases k (top_keys stand t) (keys (tree f next last)) h) [
    | inl a ↦ inl (inl (sym (within_owner t.number k (top_within stand t g.0 k a))))
    | inr b ↦ (elim (tree_owner next last g.1 k b) [ inl x ↦ inl (inr x) | inr y ↦ inr y ])
  ]
  tree_owner (ASpace e inner next) last g k (inl x) = inl (inl (let at : k ≡ e.at = sym x ∙ space_image stand e.at g.0 in sym (ap owner at ∙ space_owner e.at g.0)))
  tree_owner (ASpace e inner next) last g k (inr r) = elim (in_cases k (keys (tree f inner End)) (keys (tree f next last)) r) [
    | inl a ↦ (elim (tree_owner inner End g.1 k a) [ inl x ↦ inl (inr (in_left (owner k) (row_keys inner) (row_keys next) x)) | inr y ↦ absurd y ])
    | inr b ↦ (elim (tree_owner next last g.2 k b) [ inl x ↦ inl (inr (in_right (owner k) (row_keys inner) (row_keys next) x)) | inr y ↦ inr y ])
  ]

  -- no name stands twice there
  pub tree_none : (items : Row) (last : Entries EntryName) → Good stand items → NoneTwice (row_keys items) → NoneTwice (keys last) → ((k : EntryName) → In k (keys last) → IsImportSpot k)
      → NoneTwice (keys (tree f items last))
  unfolding keys tree
  tree_none Nothing last g once rest imports = rest
  tree_none (ATop t next) last g once rest imports =
      none_append (top_keys stand t) (keys (tree f next last)) (top_none stand t g.0) (tree_none next last g.1 once.1 rest imports) (λ k a b.
      let w = top_within stand t g.0 k a in
      elim (tree_owner next last g.1 k b) [
        | inl x ↦ once.0 (subst (λ (s : EntryName). In s (row_keys next)) (within_owner t.number k w) x)
        | inr y ↦ subst IsImportSpot w.is (imports k y)
      ])
  tree_none (ASpace e inner next) last g once rest imports = (
    (λ is. first (in_cases (f e.at) (keys (tree f inner End)) (keys (tree f next last)) is)),
    none_append (keys (tree f inner End)) (keys (tree f next last)) (tree_none inner End g.1 (none_left (row_keys inner) (row_keys next) once.1) tt (λ k h. absurd h))
        (tree_none next last g.2 (none_right (row_keys inner) (row_keys next) once.1) rest imports)
        (λ k a b. meet k (tree_owner inner End g.1 k a) (tree_owner next last g.2 k b)),
  )
    where
      at : f e.at ≡ e.at
      at = space_image stand e.at g.0

      own : owner (f e.at) ≡ e.at
      own = ap owner at ∙ space_owner e.at g.0

      space_import : (s : EntryName) → IsSpaceSpot s → IsImportSpot s → ⊥
      space_import s x y = not_import stand (ASpace e inner next) g s (inl (here s x y)) y where
        here : (s : EntryName) → IsSpaceSpot s → IsImportSpot s → e.at ≡ s
        here (Import a b) x y = absurd x
        here _ x y = absurd y

      first : In (f e.at) (keys (tree f inner End)) ⊎ In (f e.at) (keys (tree f next last)) → ⊥
      first (inl a) = elim (tree_owner inner End g.1 (f e.at) a) [ inl x ↦ once.0 (in_left e.at (row_keys inner) (row_keys next) (subst (λ (s : EntryName). In s (row_keys inner)) own x)) | inr y ↦ y ]
      first (inr b) = elim (tree_owner next last g.2 (f e.at) b) [
        | inl x ↦ once.0 (in_right e.at (row_keys inner) (row_keys next) (subst (λ (s : EntryName). In s (row_keys next)) own x))
        | inr y ↦ space_import e.at g.0 (subst IsImportSpot at (imports (f e.at) y))
      ]

      meet : (k : EntryName) → In (owner k) (row_keys inner) ⊎ In k (keys End) → In (owner k) (row_keys next) ⊎ In k (keys last) → ⊥
      meet k (inl a) (inl b) = none_both (row_keys inner) (row_keys next) once.1 (owner k) a b
      meet k (inl a) (inr b) = (let i = imports k b in not_import stand inner g.1 k (subst (λ (s : EntryName). In s (row_keys inner)) (import_owner k i) a) i)
      meet k (inr a) b = a
