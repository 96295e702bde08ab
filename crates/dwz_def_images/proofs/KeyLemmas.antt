-- Which names stand in the tree of a row, and the tree of the row of some entries.
use Rattle.std.proofs.Common.{◌≡◌, ℕ, ℤ, suc, ◌+◌, ◌⊎◌, List, [], ◌∷◌, ◌++◌, Option, refl, sym, ap, ◌∙◌, inl, inr}
use Rattle.dwz_def_reading.specs.Documents.{Entries, Node, entries_map, node_map}
use Rattle.dwz_def_reading.specs.Lists.{In}
use Rattle.dwz_def_reading.specs.Trees.{End, Entry}
use Rattle.dwz_def_reading.proofs.ListFacts.{in_cases}
use Rattle.dwz_def_tops.specs.Shown.{keys}
use Rattle.dwz_def_tops.specs.Spaces.{tops_under}
use Rattle.dwz_def_tops.specs.Spots.{ASpace, ATop, EntryName, Nothing, Row, SpaceName, Top, name_of}
use Rattle.dwz_def_tops.proofs.RowLemmas.{RowIs}
use Rattle.dwz_def_plan.specs.IsPlan.{Has, OfSpace, OfTop}
use Rattle.dwz_def_plan.specs.Plan.{image_by}
use Rattle.dwz_def_images.specs.Units.{tree}
use Rattle.dwz_def_images.proofs.ApartTrees.{Good, IsWithin, space_image, top_keys, top_within}
use Rattle.dwz_def_images.specs.Held.{Kinded}

-- a name in a tree is of a top of the row, or of a space, or stands behind
pub data TreeKey (items : Row) (last : Entries EntryName) (k : EntryName) : Type 0 where
  FromTopKey : (names : List (List ℕ)) (t : Top) → Has names (OfTop t) items → IsWithin t.number k → TreeKey items last k
  FromSpaceKey : (names : List (List ℕ)) (d : Node EntryName) → Has names (OfSpace d) items → k ≡ d.at → TreeKey items last k
  LastKey : In k (keys last) → TreeKey items last k

pub tree_key : (stand : ℕ → ℕ) (items : Row) (last : Entries EntryName) → Kinded items → Good stand items → (k : EntryName) → In k (keys (tree (image_by stand) items last)) → TreeKey items last k
unfolding keys tree
tree_key stand Nothing last c g k h = LastKey h
tree_key stand (ATop t next) last c g k h = pick (tree_key stand next last c.1 g.1 k) (in_cases k (top_keys stand t) (keys (tree (image_by stand) next last)) h) where
  later : TreeKey next last k → TreeKey (ATop t next) last k
  later (FromTopKey names u a b) = FromTopKey names u (inr a) b
  later (FromSpaceKey names d a b) = FromSpaceKey names d (inr a) b
  later (LastKey a) = LastKey a

  pick : (In k (keys (tree (image_by stand) next last)) → TreeKey next last k) → In k (top_keys stand t) ⊎ In k (keys (tree (image_by stand) next last)) → TreeKey (ATop t next) last k
  pick more (inl a) = FromTopKey [] t (inl (refl, refl)) (top_within stand t g.0 k a)
  pick more (inr b) = later (more b)
tree_key stand (ASpace e inner next) last c g k (inl x) = FromSpaceKey [] e (inl (refl, refl)) (sym x ∙ space_image stand e.at g.0)
tree_key stand (ASpace e inner next) last c g k (inr r) =
    pick (tree_key stand inner End c.1 g.1 k) (tree_key stand next last c.2 g.2 k) (in_cases k (keys (tree (image_by stand) inner End)) (keys (tree (image_by stand) next last)) r)
  where
    inside : TreeKey inner End k → TreeKey (ASpace e inner next) last k
    inside (FromTopKey names u a b) = FromTopKey (c.0.0 ∷ names) u (inr (inl (c.0.0, names, c.0.1, refl, a))) b
    inside (FromSpaceKey names d a b) = FromSpaceKey (c.0.0 ∷ names) d (inr (inl (c.0.0, names, c.0.1, refl, a))) b
    inside (LastKey a) = absurd a

    later : TreeKey next last k → TreeKey (ASpace e inner next) last k
    later (FromTopKey names u a b) = FromTopKey names u (inr (inr a)) b
    later (FromSpaceKey names d a b) = FromSpaceKey names d (inr (inr a)) b
    later (LastKey a) = LastKey a

    pick : (In k (keys (tree (image_by stand) inner End)) → TreeKey inner End k) → (In k (keys (tree (image_by stand) next last)) → TreeKey next last k)
        → In k (keys (tree (image_by stand) inner End)) ⊎ In k (keys (tree (image_by stand) next last)) → TreeKey (ASpace e inner next) last k
    pick a b (inl x) = inside (a x)
    pick a b (inr y) = later (b y)

module _ (file unit : ℕ) (tongue : Option ℤ) where
  -- the tree of the row of some entries is these entries with their places replaced
  pub tree_is : (f : EntryName → EntryName) (spaces : List SpaceName) (n : ℕ) (items : Row) (g : Entries EntryName) → RowIs file unit tongue spaces n items g → tree f items End ≡ entries_map f g
  unfolding tree entries_map
  tree_is f spaces n Nothing End h = refl
  tree_is f spaces n (ATop t row) (Entry e g k) h =
      ap (λ (w : Top). Entry (node_map f w.node) (entries_map f w.below) (tree f row End)) (sym h.1) ∙ ap (λ (w : Entries EntryName). Entry (node_map f e) (entries_map f g) w)
      (tree_is f spaces (suc n) row k h.2)
  tree_is f spaces n (ASpace d inner row) (Entry e g k) h =
      ap (λ (w : Node EntryName). Entry (node_map f w) (tree f inner End) (tree f row End)) (sym h.2)
      ∙ ap (λ (w : Entries EntryName). Entry (node_map f e) w (tree f row End)) (tree_is f (spaces ++ name_of h.0 e ∷ []) n inner g h.3)
      ∙ ap (λ (w : Entries EntryName). Entry (node_map f e) (entries_map f g) w) (tree_is f spaces (n + tops_under g) row k h.4)
  tree_is f spaces n Nothing (Entry e g k) h = absurd h
  tree_is f spaces n (ATop t row) End h = absurd h
  tree_is f spaces n (ASpace d inner row) End h = absurd h
