-- Looks at nodes are looks at the tops that they show, by induction on the depth; and labels tell which tops are equal, whatever the tops
-- of their targets are.
use Rattle.std.proofs.Common.{◌≡◌, ℕ, zero, suc, List, [], ◌∷◌, refl, sym, subst, inl, inr}
use Rattle.std.proofs.lemmas.List.Elements.{AllZip-get_or, length_all_zip}
use Rattle.std.specs.List.{AllZip}
use Rattle.dwz_def_reading.specs.Documents.{Node as EntryNode, node_map}
use Rattle.dwz_nodes.specs.Graph.{Node, label_at, targets_at}
use Rattle.dwz_nodes.specs.Looks.{Alike, LookEqual}
use Rattle.dwz_label.proofs.Pairs.{zip_from}
use Rattle.dwz_def_cross.specs.Tops.{CrossTop}
use Rattle.dwz_def_cross.specs.CrossLook.{CrossAlike, CrossEqual, CrossLook, CrossNode}
use Rattle.dwz_def_check.specs.CheckLaws.{AnyTops}
use Rattle.dwz_def_check.specs.CrossNames.{AreSides, IsNthTop, Side}
use Rattle.dwz_def_check.specs.CrossLabels.{cross_label, cross_targets, cross_top_map, lone_label, lone_targets}
use Rattle.dwz_def_check.specs.CrossNodes.{AreCrossNodes, IsNthLone, IsShownAs}
use Rattle.dwz_def_check.proofs.BareNames.{node_more, node_whole, node_zip, top_more, top_whole, top_zip}
use Rattle.dwz_def_check.proofs.CrossTrees.{node_from, node_to, top_from, top_to}
use Rattle.dwz_def_check.proofs.KnownNames.{AttrsKnown, TopKnown, lone_known, top_known}
use Rattle.dwz_def_check.proofs.LabelCodes.{label_lone, label_top, lone_same, top_same}
use Rattle.dwz_def_check.proofs.NamedTrees.{AnyNumbers, NodeBy}

-- ---- a look that is one deeper: equal labels, and the look before of each two targets

module _ (g : List Node) (k m n : ℕ) (xs ys : List ℕ) (first : targets_at g m ≡ xs) (second : targets_at g n ≡ ys) where
  deep_out : LookEqual g (suc k) m n → (label_at g m ≡ label_at g n) × AllZip (LookEqual g k) xs ys
  deep_out h = (
    h.0,
    subst (λ (w : List ℕ × List ℕ). AllZip (LookEqual g k) w.0 w.1) (λ i. (first i, second i)) (zip_from (LookEqual g k) (targets_at g m) (targets_at g n) h.1 h.2),
  )

  deep_in : label_at g m ≡ label_at g n → AllZip (LookEqual g k) xs ys → LookEqual g (suc k) m n
  deep_in e h =
      let two : AllZip (LookEqual g k) (targets_at g m) (targets_at g n) = subst (λ (w : List ℕ × List ℕ). AllZip (LookEqual g k) w.0 w.1) (λ i. (sym first i, sym second i)) h in
      (e, length_all_zip (LookEqual g k) (targets_at g m) (targets_at g n) two, λ l f. AllZip-get_or (LookEqual g k) (targets_at g m) (targets_at g n) l 0 0 two f)

zip_all : (R : ℕ → ℕ → ℕ → Type 0) (xs ys : List ℕ) → ((k : ℕ) → AllZip (R k) xs ys) → AllZip (λ m n. (k : ℕ) → R k m n) xs ys
zip_all R [] [] h = tt
zip_all R (x ∷ xs) (y ∷ ys) h = ((λ k. (h k).0), zip_all R xs ys (λ k. (h k).1))
zip_all R _ _ h = absurd (h 0)

zip_at : (R : ℕ → ℕ → ℕ → Type 0) (k : ℕ) (xs ys : List ℕ) → AllZip (λ m n. (k : ℕ) → R k m n) xs ys → AllZip (R k) xs ys
zip_at R k [] [] h = tt
zip_at R k (x ∷ xs) (y ∷ ys) h = (h.0 k, zip_at R k xs ys h.1)
zip_at R k _ _ h = absurd h

any_number : (R : ℕ → ℕ → Type 0) (m n : ℕ) → R m n → AnyNumbers m n
any_number R m n h = tt

module _ {P Q : Type 0} (s : Side P) (t : Side Q) (sides : AreSides s t) where
  old_top : (m : ℕ) (a : CrossTop P) → IsNthTop s m a → TopKnown s a
  old_top m a is = top_known s sides.old sides.old_named m a is

  new_top : (n : ℕ) (b : CrossTop Q) → IsNthTop t n b → TopKnown t b
  new_top n b js = top_known t sides.new sides.new_named n b js

  old_lone : (m : ℕ) (d : EntryNode P) → IsNthLone s m d → AttrsKnown s d.attrs
  old_lone m d is = lone_known s sides.old sides.old_named m d is

  new_lone : (n : ℕ) (e : EntryNode Q) → IsNthLone t n e → AttrsKnown t e.attrs
  new_lone n e js = lone_known t sides.new sides.new_named n e js

  -- ---- labels

  pub label_equal : (m n : ℕ) (a : CrossTop P) (b : CrossTop Q) → IsNthTop s m a → IsNthTop t n b → cross_label (cross_top_map s.name a) ≡ cross_label (cross_top_map t.name b) → CrossEqual AnyTops s.files t.files a b
  label_equal m n a b is js e =
      top_from s t sides AnyTops AnyNumbers (λ i j x y u v h. tt) a b (old_top m a is) (new_top n b js) (label_top (cross_top_map s.name a) (cross_top_map t.name b) e)

  pub equal_label : (m n : ℕ) (a : CrossTop P) (b : CrossTop Q) → IsNthTop s m a → IsNthTop t n b → CrossEqual AnyTops s.files t.files a b → cross_label (cross_top_map s.name a) ≡ cross_label (cross_top_map t.name b)
  equal_label m n a b is js h =
      top_same (cross_top_map s.name a) (cross_top_map t.name b) (top_to s t sides AnyTops AnyNumbers (λ i j x y u v h. tt) a b (old_top m a is) (new_top n b js) h)

  pub label_node : (m n : ℕ) (d : EntryNode P) (e : EntryNode Q) → IsNthLone s m d → IsNthLone t n e → lone_label (node_map s.name d) ≡ lone_label (node_map t.name e) → CrossNode AnyTops s.files t.files d e
  label_node m n d e is js h =
      node_from s t sides AnyTops AnyNumbers (λ i j x y u v h. tt) d e (old_lone m d is) (new_lone n e js) (label_lone (node_map s.name d) (node_map t.name e) h)

  pub node_label : (m n : ℕ) (d : EntryNode P) (e : EntryNode Q) → IsNthLone s m d → IsNthLone t n e → CrossNode AnyTops s.files t.files d e → lone_label (node_map s.name d) ≡ lone_label (node_map t.name e)
  node_label m n d e is js h =
      lone_same (node_map s.name d) (node_map t.name e) (node_to s t sides AnyTops AnyNumbers (λ i j x y u v h. tt) d e (old_lone m d is) (new_lone n e js) h)

  -- ---- looks

  module _ (g : List Node) (nodes : AreCrossNodes s t g) where
    abbrev IsLook : ℕ → ℕ → ℕ → CrossTop P → CrossTop Q → Type 0
    IsLook k m n a b = (LookEqual g k m n → CrossLook s.files t.files k a b) × (CrossLook s.files t.files k a b → LookEqual g k m n)

    old_shown : (m : ℕ) (a : CrossTop P) → IsNthTop s m a → IsShownAs s m (cross_label (cross_top_map s.name a)) (cross_targets (cross_top_map s.name a))
    old_shown m a is = inl (a, is, refl, refl)

    new_shown : (n : ℕ) (b : CrossTop Q) → IsNthTop t n b → IsShownAs t n (cross_label (cross_top_map t.name b)) (cross_targets (cross_top_map t.name b))
    new_shown n b js = inl (b, js, refl, refl)

    one_deeper : (k : ℕ) → ((m n : ℕ) (a : CrossTop P) (b : CrossTop Q) → IsNthTop s m a → IsNthTop t n b → IsLook k m n a b) → (m n : ℕ) (a : CrossTop P) (b : CrossTop Q) → IsNthTop s m a
        → IsNthTop t n b → (LookEqual g (suc k) m n → CrossEqual (CrossLook s.files t.files k) s.files t.files a b) × (CrossEqual (CrossLook s.files t.files k) s.files t.files a b → LookEqual g (suc k) m n)
    one_deeper k before m n a b is js =
        let x = cross_top_map s.name a in
        let y = cross_top_map t.name b in
        let u = old_shown m a is in
        let v = new_shown n b js in
        let xs = (nodes.old m (cross_label x) (cross_targets x) u).1 in
        let ys = (nodes.new n (cross_label y) (cross_targets y) v).1 in
        let same = nodes.labels m n (cross_label x) (cross_label y) (cross_targets x) (cross_targets y) u v in (
          λ h. (
              let deep = deep_out g k m n (cross_targets x) (cross_targets y) xs ys h in
              top_from s t sides (CrossLook s.files t.files k) (LookEqual g k) (λ i j c d p q r. (before i j c d p q).0 r) a b (old_top m a is) (new_top n b js)
              (top_whole (LookEqual g k) x y (label_top x y (same.0 deep.0)) deep.1)),
          λ h. (
              let deep = top_to s t sides (CrossLook s.files t.files k) (LookEqual g k) (λ i j c d p q r. (before i j c d p q).1 r) a b (old_top m a is) (new_top n b js) h in
              deep_in g k m n (cross_targets x) (cross_targets y) xs ys
              (same.1 (top_same x y (top_more (LookEqual g k) AnyNumbers (any_number (LookEqual g k)) x y deep))) (top_zip (LookEqual g k) x y deep)),
        )

    pub cross_looks : (k m n : ℕ) (a : CrossTop P) (b : CrossTop Q) → IsNthTop s m a → IsNthTop t n b → IsLook k m n a b
    unfolding CrossLook
    cross_looks zero m n a b is js = (λ h. tt, λ h. tt)
    cross_looks (suc k) m n a b is js = one_deeper k (cross_looks k) m n a b is js

    pub alike_from : (m n : ℕ) (a : CrossTop P) (b : CrossTop Q) → IsNthTop s m a → IsNthTop t n b → Alike g m n → CrossAlike s.files t.files a b
    alike_from m n a b is js h k = (cross_looks k m n a b is js).0 (h k)

    pub alike_to : (m n : ℕ) (a : CrossTop P) (b : CrossTop Q) → IsNthTop s m a → IsNthTop t n b → CrossAlike s.files t.files a b → Alike g m n
    alike_to m n a b is js h k = (cross_looks k m n a b is js).1 (h k)

    -- so alike tops are equal along what is alike
    pub alike_equal : (m n : ℕ) (a : CrossTop P) (b : CrossTop Q) → IsNthTop s m a → IsNthTop t n b → Alike g m n → CrossEqual (CrossAlike s.files t.files) s.files t.files a b
    alike_equal m n a b is js h =
        let x = cross_top_map s.name a in
        let y = cross_top_map t.name b in
        let u = old_shown m a is in
        let v = new_shown n b js in
        let xs = (nodes.old m (cross_label x) (cross_targets x) u).1 in
        let ys = (nodes.new n (cross_label y) (cross_targets y) v).1 in
        let same = nodes.labels m n (cross_label x) (cross_label y) (cross_targets x) (cross_targets y) u v in
        let all : AllZip (Alike g) (cross_targets x) (cross_targets y) = zip_all (λ k i j. LookEqual g k i j) (cross_targets x) (cross_targets y) (λ k. (deep_out g k m n (cross_targets x) (cross_targets y) xs ys (h (suc k))).1) in
        top_from s t sides (CrossAlike s.files t.files) (Alike g) alike_from a b (old_top m a is) (new_top n b js) (top_whole (Alike g) x y (label_top x y (same.0 (h 1).0)) all)

    -- ---- roots and spaces

    module _ (m n : ℕ) (d : EntryNode P) (e : EntryNode Q) (is : IsNthLone s m d) (js : IsNthLone t n e) where
      lone_old : targets_at g m ≡ lone_targets (node_map s.name d)
      lone_old = (nodes.old m (lone_label (node_map s.name d)) (lone_targets (node_map s.name d)) (inr (d, is, refl, refl))).1

      lone_new : targets_at g n ≡ lone_targets (node_map t.name e)
      lone_new = (nodes.new n (lone_label (node_map t.name e)) (lone_targets (node_map t.name e)) (inr (e, js, refl, refl))).1

      labels_from : label_at g m ≡ label_at g n → NodeBy AnyNumbers (node_map s.name d) (node_map t.name e)
      labels_from h = label_lone (node_map s.name d) (node_map t.name e) ((nodes.labels m n _ _ _ _ (inr (d, is, refl, refl)) (inr (e, js, refl, refl))).0 h)

      labels_to : NodeBy AnyNumbers (node_map s.name d) (node_map t.name e) → label_at g m ≡ label_at g n
      labels_to h = (nodes.labels m n _ _ _ _ (inr (d, is, refl, refl)) (inr (e, js, refl, refl))).1 (lone_same (node_map s.name d) (node_map t.name e) h)

      pub lone_from : Alike g m n → CrossNode (CrossAlike s.files t.files) s.files t.files d e
      lone_from h =
          let xs = lone_targets (node_map s.name d) in
          let ys = lone_targets (node_map t.name e) in
          let all : AllZip (Alike g) xs ys = zip_all (λ k i j. LookEqual g k i j) xs ys (λ k. (deep_out g k m n xs ys lone_old lone_new (h (suc k))).1) in
          node_from s t sides (CrossAlike s.files t.files) (Alike g) alike_from d e (old_lone m d is) (new_lone n e js)
          (node_whole (Alike g) (node_map s.name d) (node_map t.name e) (labels_from (h 1).0) all)

      deep_lone : NodeBy (Alike g) (node_map s.name d) (node_map t.name e) → Alike g m n
      deep_lone h zero = tt
      deep_lone h (suc k) =
          deep_in g k m n (lone_targets (node_map s.name d)) (lone_targets (node_map t.name e)) lone_old lone_new
          (labels_to (node_more (Alike g) AnyNumbers (any_number (Alike g)) (node_map s.name d) (node_map t.name e) h))
          (zip_at (λ k i j. LookEqual g k i j) k (lone_targets (node_map s.name d)) (lone_targets (node_map t.name e)) (node_zip (Alike g) (node_map s.name d) (node_map t.name e) h))

      pub lone_to : CrossNode (CrossAlike s.files t.files) s.files t.files d e → Alike g m n
      lone_to h = deep_lone (node_to s t sides (CrossAlike s.files t.files) (Alike g) alike_to d e (old_lone m d is) (new_lone n e js) h)
