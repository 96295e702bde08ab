-- A tree that means entries: its rows mean these in preorder, by induction over the tree.
use Rattle.std.proofs.Common.{◌≡◌, ℕ, ◌+◌, List, [], ◌∷◌, ◌++◌, length, map, Result, Ok, refl, sym, ap, subst, ◌∙◌, arith}
use Rattle.std.proofs.lemmas.List.{length-append, map-append}
use Rattle.std.proofs.lemmas.List.Concat.{flat_map-append}
use Rattle.dwz_def_reading.specs.Reading.{◌>>=◌}
use Rattle.dwz_def_reading.specs.Entries.{RawEntry}
use Rattle.dwz_def_reading.specs.Trees.{End, Entry, Forest, Position, behind, first_below, size}
use Rattle.dwz_def_reading.proofs.PartLemmas.{bind_ok}
use Rattle.dwz_def_tops.specs.Spots.{EntryName}
use Rattle.dwz_graph.specs.Rows.{RowsMean, node_refs, nodes, nodes_refs}
use Rattle.dwz_def_reading.specs.Documents.{Attr, Entries, Node, entries_map, node_map}
use Rattle.dwz_def_reading.specs.Meanings.{MeaningContext, without_siblings}
use Rattle.dwz_def_reading.specs.Meant.{attrs_meaning, entries_meaning, node_meaning, node_with, with_next}
use Rattle.dwz_graph_resolve.specs.Named.{attrs_refs, entries_refs}
use Rattle.dwz_unit.specs.Rows.{EntryRow, rows_below}

-- ---- the parts of what is meant

pub record Parts (s : MeaningContext ℕ) (e : RawEntry) (c n : Forest RawEntry) (g : Entries ℕ) : Type 0 where
  pub d : Node ℕ
  pub below : Entries ℕ
  pub next : Entries ℕ
  pub node : node_meaning s e ≡ Ok d
  pub of_below : entries_meaning s c ≡ Ok below
  pub of_next : entries_meaning s n ≡ Ok next
  pub is : Entry d below next ≡ g

pub parts : (s : MeaningContext ℕ) (e : RawEntry) (c n : Forest RawEntry) (g : Entries ℕ) → entries_meaning s (Entry e c n) ≡ Ok g → Parts s e c n g
unfolding entries_meaning
parts s e c n g h =
    let x = bind_ok (node_meaning s e) (λ d. entries_meaning s c >>= λ below. entries_meaning s n >>= with_next d below) g h in
    let y = bind_ok (entries_meaning s c) (λ below. entries_meaning s n >>= with_next x.0 below) g x.2 in
    let z = bind_ok (entries_meaning s n) (with_next x.0 y.0) g y.2 in
    record { d = x.0; below = y.0; next = z.0; node = x.1; of_below = y.1; of_next = z.1; is = (let w : Entry x.0 y.0 z.0 ≡ g = cc in w) }

pub no_more : (s : MeaningContext ℕ) (g : Entries ℕ) → entries_meaning s End ≡ Ok g → End ≡ g
unfolding entries_meaning
no_more s g h = let w : End ≡ g = cc in w

-- ---- one node

pub node_attrs : (s : MeaningContext ℕ) (e : RawEntry) (d : Node ℕ) → node_meaning s e ≡ Ok d → (attrs_meaning s (without_siblings e.attrs) ≡ Ok d.attrs) × (d.tag ≡ e.tag)
node_attrs s e d h =
    let x = bind_ok (attrs_meaning s (without_siblings e.attrs)) (node_with s e) d h in
    let n : Node ℕ = record { at = s.around.place e.at; tag = e.tag; attrs = x.0 } in
    let same : n ≡ d = cc in
    (x.1 ∙ ap (λ (w : Node ℕ). let a : List (Attr ℕ) = w.attrs in let r : Result (List (Attr ℕ)) _ = Ok a in r) same, sym (ap (λ (w : Node ℕ). w.tag) same))

-- ---- sizes

pub same_size : (s : MeaningContext ℕ) (f : Forest RawEntry) (g : Entries ℕ) → entries_meaning s f ≡ Ok g → size g ≡ size f
same_size s End g h = ap (λ (w : Entries ℕ). size w) (sym (no_more s g h))
same_size s (Entry e c n) g h =
    let x = parts s e c n g h in
    ap (λ (w : Entries ℕ). size w) (sym x.is) ∙ (λ i. same_size s c x.below x.of_below i + same_size s n x.next x.of_next i + 1)

pub map_size : (name : ℕ → EntryName) (g : Entries ℕ) → size (entries_map name g) ≡ size g
unfolding entries_map
map_size name End = refl
map_size name (Entry d c n) = λ i. map_size name c i + map_size name n i + 1

pub nodes_many : (g : Entries ℕ) → length (nodes g) ≡ size g
unfolding nodes
nodes_many End = refl
nodes_many (Entry d c n) = omega (arith, length-append (nodes c) (nodes n), nodes_many c, nodes_many n)

-- ---- rows mean entries

mean_append : (s : MeaningContext ℕ) (xs ys : List EntryRow) (as' bs : List (Node ℕ)) → RowsMean s xs as' → RowsMean s ys bs → RowsMean s (xs ++ ys) (as' ++ bs)
mean_append s [] ys [] bs h k = k
mean_append s [] ys (a ∷ as') bs h k = absurd h
mean_append s (x ∷ xs) ys [] bs h k = absurd h
mean_append s (x ∷ xs) ys (a ∷ as') bs h k = (h.0, mean_append s xs ys as' bs h.1 k)

pub tree_means : (s : MeaningContext ℕ) (f : Forest RawEntry) (g : Entries ℕ) (unit : ℕ) (p : Position) → entries_meaning s f ≡ Ok g → RowsMean s (rows_below f unit p) (nodes g)
unfolding rows_below nodes
tree_means s End g unit p h = subst (λ (w : Entries ℕ). RowsMean s [] (nodes w)) (no_more s g h) tt
tree_means s (Entry e c n) g unit p h =
    let x = parts s e c n g h in
    subst (λ (w : Entries ℕ). RowsMean s (rows_below (Entry e c n) unit p) (nodes w)) x.is (
      x.node,
      mean_append s (rows_below c unit (first_below p)) (rows_below n unit (behind p c)) (nodes x.below) (nodes x.next) (tree_means s c x.below unit (first_below p) x.of_below)
          (tree_means s n x.next unit (behind p c) x.of_next),
    )

pub tree_refs : (g : Entries ℕ) → nodes_refs (nodes g) ≡ entries_refs g
unfolding nodes entries_refs
tree_refs End = refl
tree_refs (Entry d c n) = ap (λ (w : List ℕ). attrs_refs d.attrs ++ w) (flat_map-append node_refs (nodes c) (nodes n) ∙ (λ i. tree_refs c i ++ tree_refs n i))

pub nodes_map : (name : ℕ → EntryName) (g : Entries ℕ) → nodes (entries_map name g) ≡ map (node_map name) (nodes g)
unfolding nodes entries_map
nodes_map name End = refl
nodes_map name (Entry d c n) = ap (λ (w : List (Node EntryName)). node_map name d ∷ w) ((λ i. nodes_map name c i ++ nodes_map name n i) ∙ sym (map-append (node_map name) (nodes c) (nodes n)))
