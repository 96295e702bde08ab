-- Where a function tells places apart, entries with their images are told apart; and what stands in lists of images comes from the lists.
use Rattle.std.proofs.Common.{◌≡◌, ℕ, suc, List, [], ◌∷◌, map, refl, ap, inl, inr}
use Rattle.dwz_def_reading.specs.Documents.{Entries, attr_map, entries_map, node_map, value_map}
use Rattle.dwz_def_reading.specs.Trees.{End, Entry}
use Rattle.dwz_def_tops.specs.Lists.{Nth}
use Rattle.dwz_def_tops.specs.Seen.{named_map}
use Rattle.dwz_def_check.specs.CrossLabels.{cross_top_map}
use Rattle.dwz_law_check.specs.MappedRows.{TellsApart}

list_apart : {X Y : Type 0} (h : X → Y) → TellsApart h → (xs ys : List X) → map h xs ≡ map h ys → xs ≡ ys
list_apart h one [] [] e = refl
list_apart h one [] (y ∷ ys) e = absurd cc
list_apart h one (x ∷ xs) [] e = absurd cc
list_apart h one (x ∷ xs) (y ∷ ys) e =
    let first : h x ≡ h y = cc in
    let rest : map h xs ≡ map h ys = cc in
    let p = one x y first in
    let q = list_apart h one xs ys rest in
    λ j. p j ∷ q j

pub nth_to : {X Y : Type 0} (h : X → Y) (s : ℕ) (xs : List X) (n : ℕ) (x : X) → Nth s xs n x → Nth s (map h xs) n (h x)
nth_to h s [] n x is = absurd is
nth_to h s (y ∷ xs) n x (inl e) = inl (e.0, ap h e.1)
nth_to h s (y ∷ xs) n x (inr r) = inr (nth_to h (suc s) xs n x r)

pub nth_back : {X Y : Type 0} (h : X → Y) (s : ℕ) (xs : List X) (n : ℕ) (y : Y) → Nth s (map h xs) n y → (x : X) × Nth s xs n x × (h x ≡ y)
nth_back h s [] n y is = absurd is
nth_back h s (x ∷ xs) n y (inl e) = (x, inl (e.0, refl), e.1)
nth_back h s (x ∷ xs) n y (inr r) = let o = nth_back h (suc s) xs n y r in (o.0, inr o.1, o.2)

module _ {P A : Type 0} (f : P → A) (apart : TellsApart f) where
  value_apart : TellsApart (value_map f)
  value_apart v w e = let refs = list_apart f apart v.refs w.refs (λ j. (e j).refs) in λ j. record { plain = (e j).plain; refs = refs j; address = (e j).address }

  attr_apart : TellsApart (attr_map f)
  attr_apart a b e = let value = value_apart a.value b.value (λ j. (e j).value) in λ j. record { name = (e j).name; form = (e j).form; raw = (e j).raw; value = value j }

  pub named_apart : TellsApart (named_map f)
  named_apart a b e = let value = value_apart a.value b.value (λ j. (e j).value) in λ j. record { name = (e j).name; value = value j }

  pub node_apart : TellsApart (node_map f)
  node_apart d e h =
      let at = apart d.at e.at (λ j. (h j).at) in
      let attrs = list_apart (attr_map f) attr_apart d.attrs e.attrs (λ j. (h j).attrs) in
      λ j. record { at = at j; tag = (h j).tag; attrs = attrs j }

  entries_apart : (g h : Entries P) → entries_map f g ≡ entries_map f h → g ≡ h
  unfolding entries_map
  entries_apart End End e = refl
  entries_apart End (Entry d a b) e = absurd cc
  entries_apart (Entry d a b) End e = absurd cc
  entries_apart (Entry d a b) (Entry d' a' b') e =
      let node : node_map f d ≡ node_map f d' = cc in
      let children : entries_map f a ≡ entries_map f a' = cc in
      let next : entries_map f b ≡ entries_map f b' = cc in
      let x = node_apart d d' node in
      let y = entries_apart a a' children in
      let z = entries_apart b b' next in
      λ j. Entry (x j) (y j) (z j)

  pub top_apart : TellsApart (cross_top_map f)
  top_apart a b e =
      let node = node_apart a.node b.node (λ j. (e j).node) in
      let below = entries_apart a.below b.below (λ j. (e j).below) in
      λ j. record { names = (e j).names; node = node j; below = below j }
