-- Units whose places are replaced by one function after another.
use Rattle.std.proofs.Common.{◌≡◌, List, [], ◌∷◌, ◌++◌, map, refl, sym, ap, ◌∙◌}
use Rattle.std.proofs.lemmas.List.{map-append}
use Rattle.dwz_def_reading.specs.Documents.{Attr, Compile, DwUnit, Entries, Kind, Node, OfType, Partial, attr_map, entries_map, kind_map, node_map, unit_map}
use Rattle.dwz_def_reading.specs.Trees.{End, Entry}
use Rattle.dwz_def_tops.specs.Seen.{IsShown, Named, named_map, named_value}
use Rattle.dwz_def_tops.specs.Shown.{AreShown, UnitsShown, keys, unit_keys, units_keys}

module _ {A B C : Type 0} (f : A → B) (g : B → C) where
  refs_twice : (refs : List A) → map g (map f refs) ≡ map (λ s. g (f s)) refs
  refs_twice [] = refl
  refs_twice (s ∷ refs) = ap (λ (w : List C). g (f s) ∷ w) (refs_twice refs)

  attrs_twice : (attrs : List (Attr A)) → map (attr_map g) (map (attr_map f) attrs) ≡ map (attr_map (λ s. g (f s))) attrs
  attrs_twice [] = refl
  attrs_twice (a ∷ attrs) =
      ap (λ (w : List C). record { name = a.name; form = a.form; raw = a.raw; value = record { plain = a.value.plain; refs = w; address = a.value.address } } ∷ map (attr_map g) (map (attr_map f) attrs))
      (refs_twice a.value.refs)
      ∙ ap (λ (w : List (Attr C)). attr_map (λ s. g (f s)) a ∷ w) (attrs_twice attrs)

  node_twice : (e : Node A) → node_map g (node_map f e) ≡ node_map (λ s. g (f s)) e
  node_twice e = ap (λ (w : List (Attr C)). record { at = g (f e.at); tag = e.tag; attrs = w }) (attrs_twice e.attrs)

  entries_twice : (h : Entries A) → entries_map g (entries_map f h) ≡ entries_map (λ s. g (f s)) h
  unfolding entries_map
  entries_twice End = refl
  entries_twice (Entry e c k) =
      let x = node_twice e in
      let y = entries_twice c in
      let z = entries_twice k in
      λ i. Entry (x i) (y i) (z i)

  kind_twice : (k : Kind A) → kind_map g (kind_map f k) ≡ kind_map (λ s. g (f s)) k
  kind_twice Compile = refl
  kind_twice (OfType s t) = refl
  kind_twice Partial = refl

  pub below_twice : (h : Entries A) → entries_map g (entries_map f h) ≡ entries_map (λ s. g (f s)) h
  below_twice = entries_twice

  pub root_twice : (e : Node A) → node_map g (node_map f e) ≡ node_map (λ s. g (f s)) e
  root_twice = node_twice

  -- ---- units that are shown

  named_twice : (attrs : List (Attr A)) → map (named_map (λ s. g (f s))) (map named_value attrs) ≡ map (named_map g) (map named_value (map (attr_map f) attrs))
  named_twice [] = refl
  named_twice (a ∷ attrs) =
      ap (λ (w : List C). record { name = a.name; value = record { plain = a.value.plain; refs = w; address = a.value.address } } ∷ map (named_map (λ s. g (f s))) (map named_value attrs))
      (sym (refs_twice a.value.refs))
      ∙ ap (λ (w : List (Named C)). named_map g (named_value (attr_map f a)) ∷ w) (named_twice attrs)

  node_of : (e : Node A) (d : Node C) → IsShown (λ s. g (f s)) e d → IsShown g (node_map f e) d
  node_of e d h = record { at = h.at; tag = h.tag; attrs = h.attrs ∙ named_twice e.attrs }

  entries_of : (h : Entries A) (k : Entries C) → AreShown (λ s. g (f s)) h k → AreShown g (entries_map f h) k
  unfolding entries_map
  entries_of End End s = tt
  entries_of (Entry e h n) (Entry d k l) s = (node_of e d s.0, entries_of h k s.1, entries_of n l s.2)
  entries_of End (Entry d k l) s = absurd s
  entries_of (Entry e h n) End s = absurd s

  -- what is shown by one function after the other is shown by the second
  pub shown_of : (us : List (DwUnit A)) (vs : List (DwUnit C)) → UnitsShown (λ s. g (f s)) us vs → UnitsShown g (map (unit_map f) us) vs
  shown_of [] [] s = tt
  shown_of (u ∷ us) (v ∷ vs) s =
      (record { kind = s.0.kind ∙ sym (kind_twice u.kind); root = node_of u.root v.root s.0.root; below = entries_of u.below v.below s.0.below }, shown_of us vs s.1)
  shown_of [] (v ∷ vs) s = absurd s
  shown_of (u ∷ us) [] s = absurd s

-- ---- names

module _ {A B : Type 0} (f : A → B) where
  pub keys_mapped : (h : Entries A) → keys (entries_map f h) ≡ map f (keys h)
  unfolding keys entries_map
  keys_mapped End = refl
  keys_mapped (Entry e c n) =
      ap (λ (w : List B). f e.at ∷ w)
      (ap (λ (w : List B). w ++ keys (entries_map f n)) (keys_mapped c) ∙ ap (λ (w : List B). map f (keys c) ++ w) (keys_mapped n) ∙ sym (map-append f (keys c) (keys n)))

  pub units_keys_mapped : (us : List (DwUnit A)) → units_keys (map (unit_map f) us) ≡ map f (units_keys us)
  unfolding units_keys unit_keys
  units_keys_mapped [] = refl
  units_keys_mapped (u ∷ us) =
      ap (λ (w : List B). f u.at ∷ f u.root.at ∷ w)
      (ap (λ (w : List B). w ++ units_keys (map (unit_map f) us)) (keys_mapped u.below) ∙ ap (λ (w : List B). map f (keys u.below) ++ w) (units_keys_mapped us)
      ∙ sym (map-append f (keys u.below) (units_keys us)))
