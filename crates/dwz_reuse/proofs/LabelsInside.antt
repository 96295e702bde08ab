-- Where the labels of the tops of a common file lead.
use Rattle.std.proofs.Common.{◌≡◌, ℕ, zero, suc, ◌+◌, ◌-◌, ◌<◌, All, List, [], ◌∷◌, length, map, Some, slice_get, refl, sym, ap, subst, ◌∙◌, inl, inr, arith}
use Rattle.std.proofs.lemmas.List.{length-map}
use Rattle.dwz_model.proofs.ListFacts.{got_below, got_index_or, got_map, got_there, same_got}
use Rattle.dwz_model.proofs.Members.{nth_from, nth_get, nth_of}
use Rattle.dwz_def_reading.specs.Documents.{DwUnit}
use Rattle.dwz_def_reading.specs.Lists.{In}
use Rattle.dwz_def_cross.specs.Tops.{CrossTop}
use Rattle.dwz_def_images.specs.After.{ArePlaced}
use Rattle.dwz_def_taken.specs.Beside.{as_compile}
use Rattle.dwz_def_tops.specs.Lists.{NoneTwice, Nth}
use Rattle.dwz_def_tops.specs.Seen.{Seen}
use Rattle.dwz_def_tops.specs.Shown.{units_keys}
use Rattle.dwz_nodes.specs.Graph.{Node, node, targets_at}
use Rattle.dwz_def_check.specs.CrossLabels.{cross_label, cross_targets, cross_top_map}
use Rattle.dwz_def_check.specs.CrossNames.{CrossName, IsNamedSide, IsWellRead, Side, cross_names_from, cross_tops}
use Rattle.dwz_def_check.specs.CrossNodes.{HasNodes, IsShownAs, lone_entries}
use Rattle.dwz_def_check.proofs.MadeNodes.{each_all, shown_inside}
use Rattle.dwz_def_check.proofs.Naming.{named_by}
use Rattle.dwz_check_labels.specs.Both.{top_targets}
use Rattle.dwz_match.specs.Partial.{ArePartial}
use Rattle.dwz_reuse.proofs.CommonPlaced.{compile_keys, compile_seen}

-- so many lists of nothing, and others behind them
unfoldable padded : ℕ → List (List ℕ) → List (List ℕ)
padded zero lists = lists
padded (suc n) lists = [] ∷ padded n lists

padded_long : (n : ℕ) (lists : List (List ℕ)) → length (padded n lists) ≡ n + length lists
unfolding padded
padded_long zero lists = omega arith
padded_long (suc n) lists = let h = padded_long n lists in omega (arith, h)

padded_at : (n k : ℕ) (lists : List (List ℕ)) (ts : List ℕ) → slice_get lists k ≡ Some ts → slice_get (padded n lists) (n + k) ≡ Some ts
unfolding padded
padded_at zero k lists ts e = let h : 0 + k ≡ k = omega arith in subst (λ (i : ℕ). slice_get lists i ≡ Some ts) (sym h) e
padded_at (suc n) k lists ts e = let h : suc n + k ≡ suc (n + k) = omega arith in subst (λ (i : ℕ). slice_get ([] ∷ padded n lists) i ≡ Some ts) (sym h) (padded_at n k lists ts e)

all_got : {X : Type 0} (P : X → Type 0) (xs : List X) → ((k : ℕ) (x : X) → slice_get xs k ≡ Some x → P x) → All P xs
all_got P [] h k d l = absurd (omega arith)
all_got P (x ∷ xs) h zero d l = h 0 x refl
all_got P (x ∷ xs) h (suc k) d l = all_got P xs (λ i y e. h (suc i) y e) k d (omega arith)

pub keys_apart : (units : List (DwUnit ℕ)) → ArePlaced (map as_compile units) → NoneTwice (units_keys units)
keys_apart units placed = subst NoneTwice (compile_keys units) placed.apart

module _ (first : ℕ) (units : List (DwUnit ℕ)) (partial : ArePartial units) (placed : ArePlaced (map as_compile units)) (name : ℕ → CrossName)
    (names_are : (p : ℕ) (x : CrossName) → In (p, x) (cross_names_from 0 first units) → name p ≡ x) where
  abbrev side : Side ℕ
  side = record { files = record { own = []; common = units }; own = 0; common = first; lone = 0; name = name }

  read : IsWellRead (record { own = []; common = units })
  read = record {
    apart = keys_apart units placed;
    closed = λ e a p is attr r. (
        let d = placed.closed e a p (subst (λ (w : List (Seen ℕ)). In e w) (sym (compile_seen units)) is) attr r in
        (d.0, subst (λ (w : List (Seen ℕ)). In d.0 w) (compile_seen units) d.1, d.2));
    mains = λ u i. absurd i;
    partial = partial;
  }

  named : IsNamedSide side
  unfolding cross_names_from
  named = named_by side read names_are

  abbrev targets : List (List ℕ)
  targets = top_targets name units

  abbrev nodes : List Node
  nodes = map (node 0) (padded first targets)

  nodes_long : length nodes ≡ first + length targets
  nodes_long = length-map (padded first targets) (node 0) ∙ padded_long first targets

  top_node : (n : ℕ) (t : CrossTop ℕ) → Nth first (cross_tops units) n t → (n < length nodes) × (targets_at nodes n ≡ cross_targets (cross_top_map name t))
  top_node n t nth =
      let low = nth_from first (cross_tops units) n t nth in
      let k = n - first in
      let same : first + k ≡ n = omega (arith, low) in
      let got = got_map (λ x. cross_targets (cross_top_map name x)) (cross_tops units) k t (nth_get first (cross_tops units) n k t nth (sym same)) in
      let there = got_map (node 0) (padded first targets) n _
      (subst (λ (i : ℕ). slice_get (padded first targets) i ≡ Some (cross_targets (cross_top_map name t))) same (padded_at first k targets _ got)) in (
        got_below nodes n _ there,
        ap (λ (x : Node). x.targets) (got_index_or nodes n _ (node 0 []) there),
      )

  has_nodes : HasNodes side nodes
  unfolding cross_tops lone_entries
  has_nodes n label ts (inl (t, inl is, _, e)) = absurd is
  has_nodes n label ts (inl (t, inr is, _, e)) = let o = top_node n t is in (o.0, o.1 ∙ e)
  has_nodes n label ts (inr (d, is, _, e)) = absurd is

  each_inside : (k : ℕ) (ts : List ℕ) → slice_get targets k ≡ Some ts → All (λ t. t < length nodes) ts
  each_inside k ts got =
      let low : k < length (cross_tops units) = (
      let l = got_below targets k ts got in
      let long = length-map (cross_tops units) (λ (x : CrossTop ℕ). cross_targets (cross_top_map name x)) in
      omega (arith, l, long)) in
      let o = got_there (cross_tops units) k low in
      let nth = nth_of first (cross_tops units) k o.0 o.1 in
      let shown : IsShownAs side (first + k) (cross_label (cross_top_map name o.0)) (cross_targets (cross_top_map name o.0)) = inl (o.0, inr nth, refl, refl) in
      let is = same_got targets k _ _ got (got_map (λ x. cross_targets (cross_top_map name x)) (cross_tops units) k o.0 o.1) in
      subst (λ (w : List ℕ). All (λ t. t < length nodes) w) (sym is)
      (each_all side nodes has_nodes (cross_targets (cross_top_map name o.0)) (shown_inside side nodes has_nodes read named (first + k) _ _ shown))

  pub targets_inside : (lists : List (List ℕ)) → lists ≡ targets → All (λ ts. All (λ t. t < first + length lists) ts) lists
  targets_inside lists e =
      let long = nodes_long in
      subst (λ (w : List (List ℕ)). All (λ ts. All (λ t. t < first + length w) ts) w) (sym e)
      (subst (λ (n : ℕ). All (λ ts. All (λ t. t < n) ts) targets) nodes_long
      (all_got (λ ts. All (λ t. t < length nodes) ts) targets each_inside))
