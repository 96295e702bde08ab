-- What passes a test in a top's tree passes it among its entries in order.
use Rattle.std.proofs.Common.{◌≡◌, ℕ, Bool, true, false, map, refl, sym, ap, ◌∙◌}
use Rattle.std.specs.Prelude.{◌||◌}
use Rattle.std.specs.List.{list_any}
use Rattle.std.proofs.lemmas.List.Folds.{list_any-append}
use Rattle.dwz_def_tops.specs.Alike.{any_entry, any_in}
use Rattle.dwz_def_tops.specs.Spots.{EntryName, Top}
use Rattle.dwz_def_reading.specs.Trees.{End, Entry}
use Rattle.dwz_graph.specs.Rows.{nodes}
use Rattle.dwz_graph.proofs.TreeLemmas.{nodes_map}
use Rattle.dwz_def_reading.specs.Documents.{Entries, Node, entries_map, node_map}

pub any_nodes : (test : Node EntryName → Bool) (f : Entries EntryName) → any_entry test f ≡ list_any test (nodes f)
unfolding any_entry nodes
any_nodes test End = refl
any_nodes test (Entry d f g) = ap (λ (b : Bool). test d || b) ((λ i. any_nodes test f i || any_nodes test g i) ∙ sym (list_any-append test (nodes f) (nodes g)))

or_none : (a b : Bool) → (a || (b || false)) ≡ (a || b)
or_none true b = refl
or_none false true = refl
or_none false false = refl

-- an entry with all below it
pub any_whole : (test : Node EntryName → Bool) (name : ℕ → EntryName) (d : Node ℕ) (g : Entries ℕ) → (test (node_map name d) || any_entry test (entries_map name g))
    ≡ list_any test (map (node_map name) (nodes (Entry d g End)))
unfolding any_entry entries_map
any_whole test name d g =
    sym (or_none (test (node_map name d)) (any_entry test (entries_map name g)))
    ∙ any_nodes test (entries_map name (Entry d g End))
    ∙ ap (list_any test) (nodes_map name (Entry d g End))

pub any_top : (test : Node EntryName → Bool) (name : ℕ → EntryName) (d : Node ℕ) (g : Entries ℕ) (t : Top) → t.node ≡ node_map name d → t.below ≡ entries_map name g
    → any_in test t ≡ list_any test (map (node_map name) (nodes (Entry d g End)))
any_top test name d g t node below = (λ i. test (node i) || any_entry test (below i)) ∙ any_whole test name d g
