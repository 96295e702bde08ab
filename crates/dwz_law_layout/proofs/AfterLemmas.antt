-- Entries whose places have names, and then other names.
use Rattle.std.proofs.Common.{◌≡◌, ℕ, List, [], ◌∷◌, map, refl, ap}
use Rattle.dwz_def_reading.specs.Trees.{End, Entry}
use Rattle.dwz_def_reading.specs.Documents.{Attr, Entries, Node, attr_map, entries_map, node_map}
use Rattle.dwz_def_tops.specs.Spots.{EntryName}

module _ (image : EntryName → EntryName) (name : ℕ → EntryName) where
  refs_after : (ps : List ℕ) → map image (map name ps) ≡ map (λ p. image (name p)) ps
  refs_after [] = refl
  refs_after (p ∷ ps) = ap (λ (w : List EntryName). image (name p) ∷ w) (refs_after ps)

  attrs_after : (attrs : List (Attr ℕ)) → map (attr_map image) (map (attr_map name) attrs) ≡ map (attr_map (λ p. image (name p))) attrs
  attrs_after [] = refl
  attrs_after (a ∷ attrs) =
      (λ i. (let b : Attr EntryName = record { name = a.name; form = a.form; raw = a.raw; value = record { plain = a.value.plain; refs = refs_after a.value.refs i; address = a.value.address } } in b) ∷ attrs_after attrs i)

  pub node_after : (d : Node ℕ) → node_map image (node_map name d) ≡ node_map (λ p. image (name p)) d
  node_after d = (λ i. let n : Node EntryName = record { at = image (name d.at); tag = d.tag; attrs = attrs_after d.attrs i } in n)

  pub entries_after : (g : Entries ℕ) → entries_map image (entries_map name g) ≡ entries_map (λ p. image (name p)) g
  unfolding entries_map
  entries_after End = refl
  entries_after (Entry d below next) = (λ i. Entry (node_after d i) (entries_after below i) (entries_after next i))
