-- Nodes that are made of lists show what the lists show, and their targets are nodes.
use Rattle.std.proofs.Common.{◌≡◌, ℕ, zero, suc, ◌+◌, ◌-◌, ◌<◌, ◌≤◌, Bool, false, List, [], ◌∷◌, ◌++◌, length, map, refl, sym, ap, subst, ◌∙◌, inl, inr, arith}
use Rattle.std.specs.List.{flat_map}
use Rattle.std.specs.Prelude.{◌⊎◌, All, slice_index, slice_index_or}
use Rattle.std.proofs.lemmas.Bool.{cases_lt, cond-true}
use Rattle.dwz_def_reading.specs.Documents.{Attr, Entries, Node as EntryNode, attr_map, entries_map, node_map}
use Rattle.dwz_def_reading.specs.Lists.{Each, In}
use Rattle.dwz_def_reading.specs.Trees.{End, Entry}
use Rattle.dwz_def_reading.proofs.DecideLemmas.{if_true}
use Rattle.dwz_def_reading.proofs.ListFacts.{got_there}
use Rattle.dwz_def_tops.specs.Lists.{Nth}
use Rattle.dwz_def_tops.proofs.Members.{each_append, nth_of}
use Rattle.dwz_nodes.specs.Graph.{IsClosed, Node, label_at, node, node_at, targets_at}
use Rattle.dwz_label.specs.Shown.{AreFirstEquals, AreMadeOf, IsLeastFree, nth_label}
use Rattle.dwz_def_cross.specs.Tops.{CrossTop, WithCommon}
use Rattle.dwz_def_check.specs.CrossNames.{AreSides, AtPath, CrossName, IsNameOf, IsNamedSide, IsNthTop, IsWellRead, PartRoot, PartSpace, Side, WholeRoot, WholeSpace, cross_tops}
use Rattle.dwz_def_check.specs.CrossLabels.{cross_entries_targets, cross_label, cross_targets, cross_top_map, lone_label, lone_targets, names_into}
use Rattle.dwz_def_check.specs.CrossNodes.{AreAllFree, AreCrossNodes, AreInLists, HasNodes, IsNthLone, IsShownAs, lone_entries, new_side, node_count, old_side, tops_before, tops_together}
use Rattle.dwz_def_check.proofs.KnownNames.{AttrsKnown, BelowKnown, TopKnown, lone_known, top_known}

-- ---- nodes made of lists

module _ (labels : List (List ℕ)) (movable : List Bool) (targets : List (List ℕ)) (firsts : List ℕ) (g : List Node) (free : AreAllFree (length labels) movable) (first : AreFirstEquals labels movable firsts) (made : AreMadeOf firsts movable targets g) where
  many : length g ≡ length labels
  many = made.len ∙ first.len ∙ free.0

  first_of : (n : ℕ) → n < length labels → IsLeastFree (λ a b. nth_label labels a ≡ nth_label labels b) movable n (slice_index firsts n)
  first_of n low = if_true (slice_index_or movable n false) _ _ (free.1 n low) (first.each n (let e = free.0 in omega arith))

  node_is : (n : ℕ) → n < length labels → node_at g n ≡ node (slice_index firsts n) (slice_index_or targets n [])
  node_is n low =
      let e : n < length firsts = (let a = first.len in let b = free.0 in omega arith) in
      made.each n e ∙ ap (λ (ts : List ℕ). node (slice_index firsts n) ts) (cond-true (slice_index_or movable n false) (slice_index_or targets n []) [] (free.1 n low))

  label_is : (n : ℕ) → n < length labels → label_at g n ≡ slice_index firsts n
  label_is n low = ap (λ (x : Node). x.label) (node_is n low)

  low_first : (m n : ℕ) → m < length labels → n < length labels → nth_label labels m ≡ nth_label labels n → slice_index firsts m ≤ slice_index firsts n
  low_first m n x y e = let b = first_of n y in (first_of m x).least (slice_index firsts n) b.inside (b.is.0, e ∙ b.is.1)

  one_first : (m n : ℕ) → m < length labels → n < length labels → nth_label labels m ≡ nth_label labels n → slice_index firsts m ≡ slice_index firsts n
  one_first m n x y e =
      let low = low_first m n x y e in
      let high = low_first n m y x (sym e) in
      omega arith

  same_first : (m n : ℕ) → m < length labels → n < length labels → slice_index firsts m ≡ slice_index firsts n → nth_label labels m ≡ nth_label labels n
  same_first m n x y e = (first_of m x).is.1 ∙ ap (nth_label labels) e ∙ sym (first_of n y).is.1

  has_nodes : {P : Type 0} (s : Side P) → AreInLists s labels targets → HasNodes s g
  has_nodes s listed n label ts shown =
      let l = listed n label ts shown in
      (let low = l.0 in let e = many in omega arith, ap (λ (x : Node). x.targets) (node_is n l.0) ∙ l.2)

  pub made_nodes : {P Q : Type 0} (s : Side P) (t : Side Q) → AreInLists s labels targets → AreInLists t labels targets → AreCrossNodes s t g
  made_nodes s t old new = record {
    old = has_nodes s old;
    new = has_nodes t new;
    labels = λ m n a b xs ys i j. (
        let x = old m a xs i in
        let y = new n b ys j in (
          λ e. sym x.1 ∙ same_first m n x.0 y.0 (sym (label_is m x.0) ∙ e ∙ label_is n y.0) ∙ y.1,
          λ e. label_is m x.0 ∙ one_first m n x.0 y.0 (x.1 ∙ e ∙ sym y.1) ∙ sym (label_is n y.0),
        ));
  }

-- ---- each target is a node

module _ {P : Type 0} (s : Side P) (g : List Node) (has : HasNodes s g) where
  abbrev Inside : List ℕ → Type 0
  Inside ts = Each (λ n. n < length g) ts

  name_inside : (p : P) (x : CrossName) (rest : List CrossName) → IsNameOf s p x → Inside (names_into rest) → Inside (names_into (x ∷ rest))
  name_inside p (AtPath n path) rest h j = ((has n (cross_label (cross_top_map s.name h.0)) (cross_targets (cross_top_map s.name h.0)) (inl (h.0, h.1, refl, refl))).0, j)
  name_inside p (WholeRoot n) rest h j = j
  name_inside p (WholeSpace n names) rest h j = j
  name_inside p PartRoot rest h j = j
  name_inside p (PartSpace names) rest h j = j

  refs_inside : (ps : List P) → ((p : P) → In p ps → IsNameOf s p (s.name p)) → Inside (names_into (map s.name ps))
  refs_inside [] h = tt
  refs_inside (p ∷ ps) h = name_inside p (s.name p) (map s.name ps) (h p (inl refl)) (refs_inside ps (λ q i. h q (inr i)))

  abbrev attrs_targets : List (Attr CrossName) → List ℕ
  attrs_targets attrs = flat_map (λ a. names_into a.value.refs) attrs

  attrs_inside : (xs : List (Attr P)) → AttrsKnown s xs → Inside (attrs_targets (map (attr_map s.name) xs))
  attrs_inside [] h = tt
  attrs_inside (x ∷ xs) h =
      each_append (λ n. n < length g) (names_into (map s.name x.value.refs)) (attrs_targets (map (attr_map s.name) xs)) (refs_inside x.value.refs (h _ (inl refl))) (attrs_inside xs (λ a i. h a (inr i)))

  entries_inside : (f : Entries P) → BelowKnown s f → Inside (cross_entries_targets (entries_map s.name f))
  unfolding cross_entries_targets entries_map
  entries_inside End h = tt
  entries_inside (Entry e c n) h =
      each_append (λ n. n < length g) (lone_targets (node_map s.name e)) (cross_entries_targets (entries_map s.name c) ++ cross_entries_targets (entries_map s.name n)) (attrs_inside e.attrs h.0)
      (each_append (λ n. n < length g) (cross_entries_targets (entries_map s.name c)) (cross_entries_targets (entries_map s.name n)) (entries_inside c h.1) (entries_inside n h.2))

  top_inside : (t : CrossTop P) → TopKnown s t → Inside (cross_targets (cross_top_map s.name t))
  top_inside t h =
      each_append (λ n. n < length g) (lone_targets (node_map s.name t.node)) (cross_entries_targets (entries_map s.name t.below)) (attrs_inside t.node.attrs h.node) (entries_inside t.below h.below)

  pub each_all : (xs : List ℕ) → Inside xs → All (λ t. t < length g) xs
  each_all [] h k d l = absurd (omega arith)
  each_all (x ∷ xs) h zero d l = h.0
  each_all (x ∷ xs) h (suc k) d l = each_all xs h.1 k d (omega arith)

  pub shown_inside : IsWellRead s.files → IsNamedSide s → (n : ℕ) (label ts : List ℕ) → IsShownAs s n label ts → Inside ts
  shown_inside read named n label ts (inl (t, is, _, e)) = subst (λ (w : List ℕ). Inside w) e (top_inside t (top_known s read named n t is))
  shown_inside read named n label ts (inr (d, is, _, e)) = subst (λ (w : List ℕ). Inside w) e (attrs_inside d.attrs (lone_known s read named n d is))

-- ---- each node is shown

nth_there : {X : Type 0} (s : ℕ) (xs : List X) (n : ℕ) → s ≤ n → n < s + length xs → (x : X) × Nth s xs n x
nth_there {X} s xs n low high =
    let o = got_there xs (n - s) (omega (arith, low, high)) in
    let e : s + (n - s) ≡ n = omega (arith, low) in
    (o.0, subst (λ (k : ℕ). Nth s xs k o.0) e (nth_of s xs (n - s) o.0 o.1))

abbrev Shows : {P : Type 0} → Side P → ℕ → Type 0
Shows s n = (label : List ℕ) × (ts : List ℕ) × IsShownAs s n label ts

top_shows : {P : Type 0} (s : Side P) (n : ℕ) (t : CrossTop P) → IsNthTop s n t → Shows s n
top_shows s n t is = (cross_label (cross_top_map s.name t), cross_targets (cross_top_map s.name t), inl (t, is, refl, refl))

lone_shows : {P : Type 0} (s : Side P) (n : ℕ) (d : EntryNode P) → IsNthLone s n d → Shows s n
lone_shows s n d is = (lone_label (node_map s.name d), lone_targets (node_map s.name d), inr (d, is, refl, refl))

module _ {P Q : Type 0} (v : WithCommon P) (w : WithCommon Q) (name : P → CrossName) (other : Q → CrossName) where
  abbrev old : Side P
  old = old_side v w name

  abbrev new : Side Q
  new = new_side v w other

  abbrev Shown : ℕ → Type 0
  Shown n = Shows old n ⊎ Shows new n

  old_shown : (n : ℕ) → n < length (cross_tops v.own) → Shown n
  old_shown n h = let o = nth_there 0 (cross_tops v.own) n (omega arith) (omega (arith, h)) in inl (top_shows old n o.0 (inl o.1))

  new_shown : (n : ℕ) → length (cross_tops v.own) ≤ n → n < tops_before v w → Shown n
  new_shown n l h = let o = nth_there (length (cross_tops v.own)) (cross_tops w.own) n l h in inr (top_shows new n o.0 (inl o.1))

  common_shown : (n : ℕ) → tops_before v w ≤ n → n < tops_together v w → Shown n
  common_shown n l h = let o = nth_there (tops_before v w) (cross_tops v.common) n l h in inl (top_shows old n o.0 (inr o.1))

  old_lone : (n : ℕ) → tops_together v w ≤ n → n < tops_together v w + length (lone_entries v.own) → Shown n
  old_lone n l h = let o = nth_there (tops_together v w) (lone_entries v.own) n l h in inl (lone_shows old n o.0 o.1)

  new_lone : (n : ℕ) → tops_together v w + length (lone_entries v.own) ≤ n → n < node_count v w → Shown n
  new_lone n l h = let o = nth_there (tops_together v w + length (lone_entries v.own)) (lone_entries w.own) n l h in inr (lone_shows new n o.0 o.1)

  all_shown : (n : ℕ) → n < node_count v w → Shown n
  all_shown n h = elim (cases_lt n (length (cross_tops v.own))) [
    | inl a ↦ old_shown n a
    | inr a ↦ elim (cases_lt n (tops_before v w)) [
      | inl b ↦ new_shown n a b
      | inr b ↦ elim (cases_lt n (tops_together v w)) [
        | inl c ↦ common_shown n b c
        | inr c ↦ elim (cases_lt n (tops_together v w + length (lone_entries v.own))) [
          | inl d ↦ old_lone n c d
          | inr d ↦ new_lone n d h
        ]
      ]
    ]
  ]

  closed_at : {X : Type 0} (s : Side X) (g : List Node) → HasNodes s g → IsWellRead s.files → IsNamedSide s → (n : ℕ) → Shows s n → All (λ t. t < length g) (targets_at g n)
  closed_at s g has read named n (label, ts, shown) =
      subst (λ (xs : List ℕ). All (λ t. t < length g) xs) (sym (has n label ts shown).1) (each_all s g has ts (shown_inside s g has read named n label ts shown))

  pub closed_nodes : (g : List Node) → AreSides old new → AreCrossNodes old new g → length g ≡ node_count v w → IsClosed g
  closed_nodes g sides nodes len n low =
      elim (all_shown n (omega (arith, low, len))) [
        | inl a ↦ closed_at old g nodes.old sides.old sides.old_named n a
        | inr b ↦ closed_at new g nodes.new sides.new sides.new_named n b
      ]
