-- Units with other places, in two steps or in one.
use Rattle.std.proofs.Common.{◌≡◌, List, [], ◌∷◌, map, refl, ap}
use Rattle.dwz_def_reading.specs.Documents.{Attr, Compile, DwUnit, Entries, Kind, Node, OfType, Partial, attr_map, entries_map, kind_map, node_map, unit_map}
use Rattle.dwz_def_reading.specs.Trees.{End, Entry}

refs_twice : {X Y Z : Type 0} (f : X → Y) (g : Y → Z) (xs : List X) → map g (map f xs) ≡ map (λ x. g (f x)) xs
refs_twice f g [] = refl
refs_twice {X} {Y} {Z} f g (x ∷ xs) = ap (λ (w : List Z). g (f x) ∷ w) (refs_twice f g xs)

module _ {P Q R : Type 0} (f : P → Q) (g : Q → R) where
  attr_twice : (b : Attr P) → attr_map g (attr_map f b) ≡ attr_map (λ p. g (f p)) b
  attr_twice b = ap (λ (w : List R). record { name = b.name; form = b.form; raw = b.raw; value = record { plain = b.value.plain; refs = w; address = b.value.address } }) (refs_twice f g b.value.refs)

  attrs_twice : (attrs : List (Attr P)) → map (attr_map g) (map (attr_map f) attrs) ≡ map (attr_map (λ p. g (f p))) attrs
  attrs_twice [] = refl
  attrs_twice (b ∷ attrs) = λ i. attr_twice b i ∷ attrs_twice attrs i

  node_twice : (e : Node P) → node_map g (node_map f e) ≡ node_map (λ p. g (f p)) e
  node_twice e = λ i. record { at = g (f e.at); tag = e.tag; attrs = attrs_twice e.attrs i }

  entries_twice : (t : Entries P) → entries_map g (entries_map f t) ≡ entries_map (λ p. g (f p)) t
  unfolding entries_map
  entries_twice End = refl
  entries_twice (Entry e c n) = λ i. Entry (node_twice e i) (entries_twice c i) (entries_twice n i)

  kind_twice : (k : Kind P) → kind_map g (kind_map f k) ≡ kind_map (λ p. g (f p)) k
  kind_twice Compile = refl
  kind_twice (OfType signature main) = refl
  kind_twice Partial = refl

  pub units_twice : (units : List (DwUnit P)) → map (unit_map g) (map (unit_map f) units) ≡ map (unit_map (λ p. g (f p))) units
  units_twice [] = refl
  units_twice (u ∷ units) = λ i. record { at = g (f u.at); kind = kind_twice u.kind i; root = node_twice u.root i; below = entries_twice u.below i } ∷ units_twice units i
