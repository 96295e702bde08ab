-- Labels without languages.
use Rattle.std.proofs.Common.{◌≡◌, ℕ, List, [], ◌∷◌, ◌++◌, drop, length, None, Some, slice_get, refl, sym, ap, ◌∙◌}
use Rattle.std.proofs.lemmas.List.{append_assoc}
use Rattle.dwz_def_reading.specs.Trees.{size}
use Rattle.dwz_def_reading.proofs.ListFacts.{got_index_or, got_map}
use Rattle.dwz_def_tops.specs.Spots.{Top, name_list, tops_of, units_of}
use Rattle.dwz_graph.specs.Files.{docs_of}
use Rattle.dwz_label.specs.Labels.{counted, each_counted, entries_label, label_of, language_label, node_label}
use Rattle.dwz_label.specs.Shown.{nth_label}
use Rattle.dwz_label.proofs.Codes.{tails}
use Rattle.dwz_label.proofs.LabelLemmas.{bare_label as same_label, label_bare}
use Rattle.dwz_label_files.specs.Bare.{SameTree, bare_label, bare_labels_of}
use Rattle.dwz_label_files.specs.Run.{labels_of}

-- a label is the language, and this
label_parts : (t : Top) → label_of t ≡ language_label t.language ++ bare_label t
unfolding label_of bare_label
label_parts t = append_assoc (language_label t.language) (each_counted counted (name_list t)) (node_label (size t.below) t.node ++ entries_label t.below)

-- ---- the law

-- that of the top in no language
unspoken_label : (t : Top) → label_of (record t { language = None }) ≡ 0 ∷ bare_label t
unfolding bare_label
unspoken_label t = label_parts (record t { language = None })

pub bare_tree : (a b : Top) → bare_label a ≡ bare_label b → SameTree a b
bare_tree a b e =
    let h = label_bare (record a { language = None }) (record b { language = None }) (unspoken_label a ∙ ap (λ (w : List ℕ). 0 ∷ w) e ∙ sym (unspoken_label b)) in
    (h.1, h.2, h.3)

pub tree_bare : (a b : Top) → SameTree a b → bare_label a ≡ bare_label b
tree_bare a b h =
    tails (sym (unspoken_label a) ∙ same_label (record a { language = None }) (record b { language = None }) (refl, h.0, h.1, h.2) ∙ unspoken_label b)

-- ---- by number

behind_first : (front rest : List ℕ) → drop (length front) (front ++ rest) ≡ rest
behind_first [] rest = refl
behind_first (x ∷ front) rest = behind_first front rest

pub bare_at : (contents : List (List ℕ)) (n : ℕ) (t : Top) → slice_get (tops_of (units_of (docs_of contents))) n ≡ Some t → (spoken bytes : List ℕ) → spoken ≡ language_label t.language
    → bytes ≡ nth_label (labels_of contents) n → drop (length spoken) bytes ≡ nth_label (bare_labels_of contents) n
bare_at contents n t got spoken bytes is label =
    let tops = tops_of (units_of (docs_of contents)) in
    let own : bytes ≡ language_label t.language ++ bare_label t = label ∙ got_index_or (labels_of contents) n (label_of t) [] (got_map label_of tops n t got) ∙ label_parts t in
    (λ i. drop (length (is i)) (own i)) ∙ behind_first (language_label t.language) (bare_label t)
    ∙ sym (got_index_or (bare_labels_of contents) n (bare_label t) [] (got_map bare_label tops n t got))
