-- Places replaced by one function after another.
use Rattle.std.proofs.Common.{◌≡◌, List, [], ◌∷◌, map, refl, ap}
use Rattle.dwz_def_reading.specs.Documents.{Attr, Entries, Node, attr_map, entries_map, node_map}
use Rattle.dwz_def_reading.specs.Trees.{End, Entry}
use Rattle.dwz_def_tops.specs.Spots.{EntryName}

refs_then : (f g : EntryName → EntryName) (refs : List EntryName) → map g (map f refs) ≡ map (λ s. g (f s)) refs
refs_then f g [] = refl
refs_then f g (s ∷ refs) = ap (λ (w : List EntryName). g (f s) ∷ w) (refs_then f g refs)

attrs_then : (f g : EntryName → EntryName) (attrs : List (Attr EntryName)) → map (attr_map g) (map (attr_map f) attrs) ≡ map (attr_map (λ s. g (f s))) attrs
attrs_then f g [] = refl
attrs_then f g (a ∷ attrs) =
    let first : attr_map g (attr_map f a) ≡ attr_map (λ s. g (f s)) a =
    ap (λ (w : List EntryName). record { name = a.name; form = a.form; raw = a.raw; value = record { plain = a.value.plain; refs = w; address = a.value.address } }) (refs_then f g a.value.refs) in
    let rest = attrs_then f g attrs in
    cc

pub node_then : (f g : EntryName → EntryName) (e : Node EntryName) → node_map g (node_map f e) ≡ node_map (λ s. g (f s)) e
node_then f g e = ap (λ (w : List (Attr EntryName)). record { at = g (f e.at); tag = e.tag; attrs = w }) (attrs_then f g e.attrs)

pub entries_then : (f g : EntryName → EntryName) (h : Entries EntryName) → entries_map g (entries_map f h) ≡ entries_map (λ s. g (f s)) h
unfolding entries_map
entries_then f g End = refl
entries_then f g (Entry e c k) = let x = node_then f g e in let y = entries_then f g c in let z = entries_then f g k in cc
