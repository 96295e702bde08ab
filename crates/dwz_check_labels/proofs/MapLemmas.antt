-- Names in place of places, in two steps or in one.
use Rattle.std.proofs.Common.{◌≡◌, List, [], ◌∷◌, map, refl, ap, ◌∙◌}
use Rattle.dwz_def_reading.specs.Documents.{Attr, Entries, Node, attr_map, entries_map, node_map}
use Rattle.dwz_def_reading.specs.Trees.{End, Entry}
use Rattle.dwz_def_cross.specs.Tops.{CrossTop}
use Rattle.dwz_def_check.specs.CrossLabels.{cross_label, cross_targets, cross_top_map, lone_label, lone_targets}
use Rattle.dwz_def_check.specs.CrossNames.{CrossName}

pub map_twice : {X Y Z : Type 0} (f : X → Y) (g : Y → Z) (xs : List X) → map g (map f xs) ≡ map (λ x. g (f x)) xs
map_twice f g [] = refl
map_twice {X} {Y} {Z} f g (x ∷ xs) = ap (λ (w : List Z). g (f x) ∷ w) (map_twice f g xs)

module _ {P Q R : Type 0} (f : P → Q) (g : Q → R) where
  attr_twice : (b : Attr P) → attr_map g (attr_map f b) ≡ attr_map (λ p. g (f p)) b
  attr_twice b = ap (λ (w : List R). record { name = b.name; form = b.form; raw = b.raw; value = record { plain = b.value.plain; refs = w; address = b.value.address } }) (map_twice f g b.value.refs)

  attrs_twice : (attrs : List (Attr P)) → map (attr_map g) (map (attr_map f) attrs) ≡ map (attr_map (λ p. g (f p))) attrs
  attrs_twice [] = refl
  attrs_twice (b ∷ attrs) = λ i. attr_twice b i ∷ attrs_twice attrs i

  pub node_twice : (e : Node P) → node_map g (node_map f e) ≡ node_map (λ p. g (f p)) e
  node_twice e = λ i. record { at = g (f e.at); tag = e.tag; attrs = attrs_twice e.attrs i }

  entries_twice : (t : Entries P) → entries_map g (entries_map f t) ≡ entries_map (λ p. g (f p)) t
  unfolding entries_map
  entries_twice End = refl
  entries_twice (Entry e c n) = λ i. Entry (node_twice e i) (entries_twice c i) (entries_twice n i)

  pub top_twice : (t : CrossTop P) → cross_top_map g (cross_top_map f t) ≡ cross_top_map (λ p. g (f p)) t
  top_twice t = λ i. record { names = t.names; node = node_twice t.node i; below = entries_twice t.below i }

module _ {P Q : Type 0} (f : P → Q) (name : Q → CrossName) where
  pub labels_twice : (tops : List (CrossTop P)) → map (λ t. cross_label (cross_top_map name t)) (map (cross_top_map f) tops) ≡ map (λ t. cross_label (cross_top_map (λ p. name (f p)) t)) tops
  labels_twice tops = map_twice (cross_top_map f) (λ t. cross_label (cross_top_map name t)) tops ∙ (λ i. map (λ t. cross_label (top_twice f name t i)) tops)

  pub targets_twice : (tops : List (CrossTop P)) → map (λ t. cross_targets (cross_top_map name t)) (map (cross_top_map f) tops) ≡ map (λ t. cross_targets (cross_top_map (λ p. name (f p)) t)) tops
  targets_twice tops = map_twice (cross_top_map f) (λ t. cross_targets (cross_top_map name t)) tops ∙ (λ i. map (λ t. cross_targets (top_twice f name t i)) tops)

  pub lone_labels_twice : (es : List (Node P)) → map (λ e. lone_label (node_map name e)) (map (node_map f) es) ≡ map (λ e. lone_label (node_map (λ p. name (f p)) e)) es
  lone_labels_twice es = map_twice (node_map f) (λ e. lone_label (node_map name e)) es ∙ (λ i. map (λ e. lone_label (node_twice f name e i)) es)

  pub lone_targets_twice : (es : List (Node P)) → map (λ e. lone_targets (node_map name e)) (map (node_map f) es) ≡ map (λ e. lone_targets (node_map (λ p. name (f p)) e)) es
  lone_targets_twice es = map_twice (node_map f) (λ e. lone_targets (node_map name e)) es ∙ (λ i. map (λ e. lone_targets (node_twice f name e i)) es)
