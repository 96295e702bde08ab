-- The rows of a top say what its label does.
use Rattle.std.proofs.Common.{◌≡◌, ℕ, ℤ, ◌+◌, ◌-◌, List, [], ◌∷◌, ◌++◌, length, Option, Ok, sym, ap, ◌∙◌, arith}
use Rattle.std.proofs.lemmas.List.{append-nil, append_assoc}
use Rattle.dwz_def_tops.specs.Spots.{EntryName, Top, name_list}
use Rattle.dwz_label_entries.specs.Sources.{rows_label}
use Rattle.dwz_def_reading.specs.Entries.{RawEntry}
use Rattle.dwz_def_reading.specs.Trees.{End, Entry, Forest, Position, behind, first_below, size}
use Rattle.dwz_graph.specs.Rows.{RowsMean, nodes}
use Rattle.dwz_graph.specs.FlatTops.{HasTop}
use Rattle.dwz_graph.proofs.TreeLemmas.{map_size, no_more, parts, same_size, tree_means}
use Rattle.dwz_label.specs.Labels.{counted, each_counted, entries_label, label_of, language_label, node_label, place_label}
use Rattle.dwz_def_reading.specs.Documents.{Entries, Node, entries_map, node_map}
use Rattle.dwz_def_reading.specs.Meanings.{MeaningContext}
use Rattle.dwz_def_reading.specs.Meant.{entries_meaning}
use Rattle.dwz_unit.specs.Rows.{EntryRow, rows_below}
use Rattle.dwz_unit.proofs.RowLemmas.{shown-length}

label_append : (s : MeaningContext ℕ) (name : ℕ → EntryName) (i j : ℕ) (xs ys : List EntryRow) (as' bs : List (Node ℕ)) → RowsMean s xs as' → i + length xs ≡ j
    → rows_label name i (xs ++ ys) (as' ++ bs) ≡ rows_label name i xs as' ++ rows_label name j ys bs
unfolding rows_label
label_append s name i j [] ys [] bs h e = ap (λ (k : ℕ). rows_label name k ys bs) (let z : i ≡ j = omega (arith, e) in z)
label_append s name i j [] ys (a ∷ as') bs h e = absurd h
label_append s name i j (x ∷ xs) ys [] bs h e = absurd h
label_append s name i j (x ∷ xs) ys (a ∷ as') bs h e =
    let one = node_label (x.end - i - 1) (node_map name a) in
    ap (λ (w : List ℕ). one ++ w) (label_append s name (i + 1) j xs ys as' bs h.1 (omega (arith, e))) ∙ sym (append_assoc one (rows_label name (i + 1) xs as') (rows_label name j ys bs))

pub tree_label : (s : MeaningContext ℕ) (f : Forest RawEntry) (g : Entries ℕ) (unit : ℕ) (p : Position) (name : ℕ → EntryName) → entries_meaning s f ≡ Ok g
    → rows_label name p.before (rows_below f unit p) (nodes g)
    ≡ entries_label (entries_map name g)
unfolding rows_below nodes rows_label entries_label entries_map
tree_label s End g unit p name h = ap (λ (w : Entries ℕ). rows_label name p.before [] (nodes w)) (sym (no_more s g h)) ∙ ap (λ (w : Entries ℕ). entries_label (entries_map name w)) (no_more s g h)
tree_label s (Entry e c n) g unit p name h =
    let x = parts s e c n g h in
    let inside = rows_below c unit (first_below p) in
    let after = rows_below n unit (behind p c) in
    let len = shown-length c unit (first_below p) in
    let many : (behind p c).before - p.before - 1 ≡ size (entries_map name x.below) = omega (arith, map_size name x.below, same_size s c x.below x.of_below) in
    let below = tree_label s c x.below unit (first_below p) name x.of_below in
    let next = tree_label s n x.next unit (behind p c) name x.of_next in
    let both = label_append s name (p.before + 1) (behind p c).before inside after (nodes x.below) (nodes x.next) (tree_means s c x.below unit (first_below p) x.of_below) (omega (arith, len)) in
    ap (λ (w : Entries ℕ). rows_label name p.before (rows_below (Entry e c n) unit p) (nodes w)) (sym x.is)
    ∙ ap (λ (w : List ℕ). node_label ((behind p c).before - p.before - 1) (node_map name x.d) ++ w) both
    ∙ (λ i. node_label (many i) (node_map name x.d) ++ (below i ++ next i))
    ∙ ap (λ (w : Entries ℕ). entries_label (entries_map name w)) x.is

-- where a top stands, and what its entries say
pub top_label : (s : MeaningContext ℕ) (name : ℕ → EntryName) (rows : List EntryRow) (unit depth first : ℕ) (language : Option ℤ) (t : Top) (h : HasTop s name rows unit depth t.spaces t)
    → t.language ≡ language
    → h.p.before ≡ first
    → place_label language (name_list t) ++ rows_label name first (rows_below (Entry h.e h.c End) unit h.p) (nodes (Entry h.d h.g End)) ≡ label_of t
unfolding label_of entries_label entries_map
top_label s name rows unit depth first language t h lang at =
    ap (λ (n : ℕ). place_label language (name_list t) ++ rows_label name n (rows_below (Entry h.e h.c End) unit h.p) (nodes (Entry h.d h.g End))) (sym at)
    ∙ ap (λ (w : List ℕ). place_label language (name_list t) ++ w) (tree_label s (Entry h.e h.c End) (Entry h.d h.g End) unit h.p name h.means)
    ∙ ap (λ (w : List ℕ). place_label language (name_list t) ++ (node_label (size (entries_map name h.g)) (node_map name h.d) ++ w)) (append-nil (entries_label (entries_map name h.g)))
    ∙ (λ i. place_label (sym lang i) (name_list t) ++ (node_label (size (sym h.below i)) (sym h.node i) ++ entries_label (sym h.below i)))

pub all_told : (language : Option ℤ) (names : List (List ℕ)) (old one two new said : List ℕ) → one ≡ old ++ language_label language → two ≡ one ++ each_counted counted names → new ≡ two ++ said
    → new ≡ old ++ (place_label language names ++ said)
all_told language names old one two new said is_one is_two is_new =
    let a = language_label language in
    let b = each_counted counted names in
    is_new ∙ ap (λ (w : List ℕ). w ++ said) (is_two ∙ ap (λ (w : List ℕ). w ++ b) is_one) ∙ ap (λ (w : List ℕ). w ++ said) (append_assoc old a b) ∙ append_assoc old (a ++ b) said
